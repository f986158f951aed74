-- Once every call of kind 6 at a member of the greatest view is passed over, each member is in that view; so a turn need not ask
-- whether a call is "only in that view" (02, A5).
-- Assumes nothing.
use Prim.Native.Nat.{ℕ, ◌≤◌}
use native.Mathlib.Omega.{arith}
use mathlib.Core.Path.{◌≡◌, refl, sym, ap, ◌∙◌, subst}
use mathlib.Core.Logic.{⊎_elim}
use mathlib.Core.Bool.{Bool, true, false}
use mathlib.Core.List.{List, [], ◌∷◌, ◌++◌, map, append_assoc}
use lib.Dec.{eqb, leb, ltb}
use borrow.Author.Tests.{eqb-true, eqb-false, eq-eqb, ltb-false, le-leb}
use Rattle.base.specs.Lists.{has, Each}
use Rattle.base.specs.Numbers.{within}
use Rattle.base.specs.Chains.{refuse, ◌⨾◌}
use Rattle.base.proofs.Bools.{and-true, or_right}
use Rattle.base.proofs.ListsLaws.{has-head, has-cons, has-none}
use Rattle.base.proofs.ChainsLaws.{first_passes}
use Rattle.model.specs.Hall.{max_number, Hall}
use Rattle.model.specs.Service.{is_created, is_member, above_current}
use Rattle.model.specs.Kinds.{Kind, enter, recorder, number, unused, uses, wrong_recorder, stray_word, wrong_number, wrong_set, input_refusal}
use Rattle.model.specs.Answers.{plain, accepted, refused}
use Rattle.model.specs.Refusals.{Rules, not_formed, not_member, not_above_current, state_refusal}
use Rattle.model.specs.Actions.{Outcome, perform, refusal, act}
use Rattle.model.specs.Call.{Words, words_of, step}
use Rattle.model.specs.Settle.{greatest_view, settle_kinds, settle_call, calls_under, settle_calls, is_in_view, Turn, takes, full, tried, turn, turn_of}
use Rattle.model.proofs.Accepting.Performed.{number_of, kind-of-number}
use Rattle.model.proofs.Accepting.Accepted.{performed-accepted}
use Rattle.model.proofs.Settling.TurnLaws.{number_at, Passed, under-call, call-under}
use Rattle.store.specs.Valid.{ValidHall}
use Rattle.store.proofs.KeepRules.{facts-of}
use Rattle.progress.specs.AnyTurn.{any_turn}
use Rattle.progress.proofs.GreatestView.{formed-low, formed_below, greatest-number, member-formed, members-in}

-- ## The number of a call

-- a call of a known kind has its refusal's number, 0 for none
pub number_is : (rules : Rules) (h : Hall) (κ : Kind) (r a b : ℕ) → number_at rules h (words_of (number_of κ) r a b) ≡ refusal rules h κ r a b
unfolding step act accepted plain
number_is rules h κ r a b = go (eqb (refusal rules h κ r a b) 0) refl
  where
    go : (t : Bool) → eqb (refusal rules h κ r a b) 0 ≡ t → number_at rules h (words_of (number_of κ) r a b) ≡ refusal rules h κ r a b
    go true t =
        let e : step rules h (words_of (number_of κ) r a b) ≡ perform rules h κ r a b = rw (kind-of-number κ, step, t, act) in
        ap (λ (o : Outcome). (plain o.answer).number) e
        ∙ eqb-true (plain (perform rules h κ r a b).answer).number 0 (performed-accepted rules h κ r a b)
        ∙ sym (eqb-true (refusal rules h κ r a b) 0 t)
    go false t =
        let e : step rules h (words_of (number_of κ) r a b) ≡ record { hall = h; answer = refused (refusal rules h κ r a b) } =
        rw (kind-of-number κ, step, t, act) in
        ap (λ (o : Outcome). (plain o.answer).number) e

-- 12 to 15 do not concern a call of a settle at a recorder
module _ (n r : ℕ) (low : 1 ≤ r) (high : r ≤ n) where
  right-recorder : within 1 n r ≡ true
  unfolding within
  right-recorder = and-true (leb 1 r) (leb r n) (le-leb 1 r low) (le-leb r n high)

  -- kinds that use no word but R
  pub no_words : (κ : Kind) → uses κ ≡ record { r = recorder; a = unused; b = unused } → input_refusal n κ r 0 0 ≡ 0
  unfolding input_refusal wrong_recorder stray_word wrong_number wrong_set refuse ◌⨾◌
  no_words κ u = rw (u, right-recorder)

  -- kinds that use a view number
  pub view-word : (κ : Kind) → uses κ ≡ record { r = recorder; a = number; b = unused } → (g : ℕ) → 1 ≤ g → g ≤ max_number
      → input_refusal n κ r g 0 ≡ 0
  unfolding input_refusal wrong_recorder stray_word wrong_number wrong_set refuse ◌⨾◌ within
  view-word κ u g l m =
      let v : within 1 max_number g ≡ true = and-true (leb 1 g) (leb g max_number) (le-leb 1 g l) (le-leb g max_number m) in
      rw (u, right-recorder, v)

-- ## Every member is in the greatest view

-- a call of kind 6 counts in any view
pub enter-in-view : (h : Hall) (g r : ℕ) → is_in_view h g (settle_call g 6 r) ≡ true
unfolding is_in_view settle_call
enter-in-view h g r = refl

module _ (rules : Rules) (h : Hall) (valid : ValidHall h) where
  abbrev g : ℕ
  g = greatest_view h

  -- a member below the greatest view may enter it
  may-enter : (r : ℕ) → has (h.service.members g) r ≡ true → ltb (h.service.current r) g ≡ true → number_at rules h (settle_call g 6 r) ≡ 0
  unfolding settle_call number_of uses refusal state_refusal not_formed not_member not_above_current is_created is_member above_current refuse ◌⨾◌
  may-enter r m above =
      let formed = member-formed h valid g r m in
      let inside = members-in h valid g r m in
      number_is rules h enter r g 0
      ∙ first_passes _ _ (view-word h.size r inside.0 inside.1 enter refl g (formed-low h valid g formed) (greatest-number h valid))
      ∙ rw (formed, m, above)

  pub all-entered : ((r : ℕ) → has (h.service.members g) r ≡ true → Passed rules h g (settle_call g 6 r))
      → (r : ℕ) → has (h.service.members g) r ≡ true → h.service.current r ≡ g
  all-entered passed r m = go (ltb (h.service.current r) g) refl
    where
      go : (t : Bool) → ltb (h.service.current r) g ≡ t → h.service.current r ≡ g
      go true t = absurd ((passed r m (enter-in-view h g r)).0 (may-enter r m t))
      go false t =
          let above = ltb-false (h.service.current r) g t in
          let low = formed-low h valid g (member-formed h valid g r m) in
          ⊎_elim
          (λ z. omega arith)
          (λ n. omega (arith, formed_below h valid (h.service.current r) (member-formed h valid (h.service.current r) r n)))
          ((facts-of h valid).views.current r)

-- ## A turn without the test

module _ (rules : Rules) (h : Hall) (g : ℕ) where
  -- a call that is in the view is tried
  pub turn-tries : (w : Words) (ws : List Words) → is_in_view h g w ≡ true → turn rules h g (w ∷ ws) ≡ tried (number_at rules h w) w (turn rules h g ws)
  unfolding turn
  turn-tries w ws i = rw (i, turn)

  -- calls that are in the view, and then others
  turn_more : (xs ys : List Words) → Each (λ w. is_in_view h g w ≡ true) xs → (Each (Passed rules h g) xs → turn rules h g ys ≡ any_turn rules h ys)
      → turn rules h g (xs ++ ys) ≡ any_turn rules h (xs ++ ys)
  unfolding any_turn tried
  turn_more [] ys i e = e tt
  turn_more (x ∷ xs) ys i e =
      turn-tries x (xs ++ ys) i.0
      ∙ go (eqb (number_at rules h x) 0) refl (eqb (number_at rules h x) 40) refl (λ p. turn_more xs ys i.1 (λ q. e (p, q)))
    where
      go : (s : Bool) → eqb (number_at rules h x) 0 ≡ s → (t : Bool) → eqb (number_at rules h x) 40 ≡ t
          → (Passed rules h g x → turn rules h g (xs ++ ys) ≡ any_turn rules h (xs ++ ys))
          → ◌≡◌ {A = Turn} (elim s [ true ↦ takes x | false ↦ elim t [ true ↦ full | false ↦ turn rules h g (xs ++ ys) ] ])
          (elim s [ true ↦ takes x | false ↦ elim t [ true ↦ full | false ↦ any_turn rules h (xs ++ ys) ] ])
      go true s t u k = refl
      go false s true u k = refl
      go false s false u k = k (λ j. (eqb-false (number_at rules h x) 0 s, eqb-false (number_at rules h x) 40 u))

  -- all calls are in the view
  turn-whole : (xs : List Words) → Each (λ w. is_in_view h g w ≡ true) xs → turn rules h g xs ≡ any_turn rules h xs
  unfolding turn any_turn
  turn-whole [] i = refl
  turn-whole (x ∷ xs) i = turn-tries x xs i.0 ∙ ap (tried (number_at rules h x) x) (turn-whole xs i.1)

-- the calls under two lists of kinds
pub calls-append : (g : ℕ) (ms ks ls : List ℕ) → calls_under g ms (ks ++ ls) ≡ calls_under g ms ks ++ calls_under g ms ls
unfolding calls_under
calls-append g ms [] ls = refl
calls-append g ms (k ∷ ks) ls =
    ap (λ (l : List Words). map (settle_call g k) ms ++ l) (calls-append g ms ks ls)
    ∙ sym (append_assoc (map (settle_call g k) ms) (calls_under g ms ks) (calls_under g ms ls))

-- on a hall in range a turn in the greatest view need not ask
pub turn-any : (rules : Rules) (h : Hall) → ValidHall h
    → turn_of rules h (greatest_view h) ≡ any_turn rules h (settle_calls (greatest_view h) (h.service.members (greatest_view h)))
unfolding turn_of settle_calls settle_kinds is_in_view settle_call
turn-any rules h valid =
    subst (λ (ws : List Words). turn rules h g ws ≡ any_turn rules h ws) (sym (calls-append g ms (6 ∷ []) later))
    (turn_more rules h g (calls_under g ms (6 ∷ [])) (calls_under g ms later)
    (call-under (λ w. is_in_view h g w ≡ true) g ms (6 ∷ []) first)
    (λ p. turn-whole rules h g _ (call-under (λ w. is_in_view h g w ≡ true) g ms later (λ k r i m. here p k r m))))
  where
    g : ℕ
    g = greatest_view h

    ms : List ℕ
    ms = h.service.members g

    later : List ℕ
    later = 4 ∷ 3 ∷ 2 ∷ 7 ∷ 8 ∷ 9 ∷ 10 ∷ 11 ∷ []

    first : (k r : ℕ) → has (6 ∷ []) k ≡ true → has ms r ≡ true → is_in_view h g (settle_call g k r) ≡ true
    first k r i m =
        ⊎_elim (λ e. subst (λ k. is_in_view h g (settle_call g k r) ≡ true) (sym e) (enter-in-view h g r)) (λ z. absurd (has-none k z)) (has-cons 6 [] k i)

    here : Each (Passed rules h g) (calls_under g ms (6 ∷ [])) → (k r : ℕ) → has ms r ≡ true → is_in_view h g (settle_call g k r) ≡ true
    here p k r m =
        let entered : h.service.current r ≡ g =
        all-entered rules h valid (λ q n. under-call (Passed rules h g) g ms (6 ∷ []) 6 q p (has-head 6 []) n) r m in
        or_right (eqb k 6) (eqb (h.service.current r) g) (eq-eqb _ _ entered)
