-- The loops of a turn: over the recorders of one kind, and over the kinds. Assumes nothing.
use Prim.Native.Nat.{ℕ, suc, ◌+◌, ◌-◌, ◌≤◌, ◌<◌}
use native.Mathlib.Omega.{arith}
use mathlib.Core.Path.{◌≡◌, refl, sym, ap, ◌∙◌}
use Rattle.std.proofs.Common.{◌≢◌}
use mathlib.Core.Bool.{Bool, true, false, ◌||◌, true≢false}
use mathlib.Core.List.{List, [], ◌∷◌, ◌++◌, map}
use lib.Dec.{eqb}
use borrow.Author.Tests.{ne_eqb}
use lib.ListN.{get_or, drop}
use lib.Seq.{drop-cons}
use Rattle.base.specs.Lists.{filter}
use Rattle.base.specs.Numbers.{numbers}
use Rattle.base.proofs.NumbersLaws.{up_to-numbers}
use Rattle.quorum.specs.Sets.{in_mask, members}
use Rattle.model.specs.Hall.{Hall}
use Rattle.model.specs.Answers.{Answer, plain}
use Rattle.model.specs.Call.{Words, words_of, hl3, step}
use Rattle.model.specs.declared.refusals.Refusal.{Refusal}
use Rattle.model.specs.declared.refusals.Refusal.TheVariants.{Kind, Recorder, Unused, ViewNumber, Set, Opening, Short, File, Bytes, TooMany, NotRising, NotFormed, NoMember, NotAbove, Phase, Nothing, NotYet, Full, Votes, NotPrimary, Undo}
use Rattle.model.specs.declared.kinds.Kind as code
use Rattle.model.specs.declared.kinds.Kind.TheVariants as kinds
use Rattle.model.specs.KindNumbers.{kind_number}
use Rattle.model.specs.RefusalNumbers.{number}
use Rattle.model.proofs.RefusalNumbersLaws.{has-number}
use Rattle.model.specs.Settle as model
use Rattle.model.specs.Settle.{settle_kinds, settle_call, calls_under, settle_calls, takes, full, none, tried}
use Rattle.store.specs.StoredForm.{hall_of, is_stored}
use Rattle.calls.specs.Calls.{step_on}
use Rattle.calls.proofs.HeldSteps.{step-answer}
use Rattle.progress.specs.AnyTurn.{any_turn}
use Rattle.hall.specs.declared.View.{View}
use Rattle.settling.specs.declared.Turn.{Turn}
use Rattle.settling.specs.Turns.{found, member_number}

-- does a number end a turn?
abbrev pub ends : ℕ → Bool
ends n = eqb n 0 || eqb n 40

-- a number that ends a turn ends it, whatever comes later
pub tried-ends : (n : ℕ) (w : Words) (later : model.Turn) → ends n ≡ true → tried n w later ≡ tried n w none
unfolding tried
tried-ends n w later = go (eqb n 0) (eqb n 40)
  where
    go : (s t : Bool) → (s || t) ≡ true
        → ◌≡◌ {A = model.Turn} (elim s [ true ↦ takes w | false ↦ elim t [ true ↦ full | false ↦ later ] ])
        (elim s [ true ↦ takes w | false ↦ elim t [ true ↦ full | false ↦ none ] ])
    go true t e = refl
    go false true e = refl
    go false false e = absurd (true≢false (sym e))

-- ## A call tried

-- only one refusal has number 40
is-full : (why : Refusal) → number why ≡ 40 → why ≡ Refusal.Full
is-full Kind e = absurd (omega arith)
is-full Recorder e = absurd (omega arith)
is-full Unused e = absurd (omega arith)
is-full ViewNumber e = absurd (omega arith)
is-full Set e = absurd (omega arith)
is-full Opening e = absurd (omega arith)
is-full Short e = absurd (omega arith)
is-full File e = absurd (omega arith)
is-full Bytes e = absurd (omega arith)
is-full TooMany e = absurd (omega arith)
is-full NotRising e = absurd (omega arith)
is-full NotFormed e = absurd (omega arith)
is-full NoMember e = absurd (omega arith)
is-full NotAbove e = absurd (omega arith)
is-full Phase e = absurd (omega arith)
is-full Nothing e = absurd (omega arith)
is-full NotYet e = absurd (omega arith)
is-full Full e = refl
is-full Votes e = absurd (omega arith)
is-full NotPrimary e = absurd (omega arith)
is-full Undo e = absurd (omega arith)

-- after a number that is neither 0 nor 40 the later calls are tried
pub tried-passes : (n : ℕ) (w : Words) (later : model.Turn) → n ≢ 0 → n ≢ 40 → tried n w later ≡ later
unfolding tried
tried-passes n w later x y = rw (ne_eqb n 0 x, ne_eqb n 40 y, tried) refl

-- the number that is judged on the bytes of a member's call
pub member-call : (b : List ℕ) → is_stored b ≡ true → (v : View) (k r a n : ℕ) → in_mask v.set r ≡ true → a ≡ (settle_call v.number k 0).a
    → n ≡ (plain (step_on b (words_of k r a 0)).answer).number → n ≡ member_number (hall_of b) v k r
unfolding member_number settle_call
member-call b s v k r a n m e is =
    is ∙ ap (λ x. (plain (step_on b (words_of k r x 0)).answer).number) e
    ∙ ap (λ (x : Answer). (plain x).number) (step-answer b s (settle_call v.number k r))
    ∙ sym (ap (λ (t : Bool). elim t [ true ↦ (plain (step hl3 (hall_of b) (settle_call v.number k r)).answer).number | false ↦ 35 ]) m)

pub no_member : (h : Hall) (v : View) (k r : ℕ) → in_mask v.set r ≡ false → 35 ≡ member_number h v k r
unfolding member_number
no_member h v k r m = sym (ap (λ (t : Bool). elim t [ true ↦ (plain (step hl3 h (settle_call v.number k r)).answer).number | false ↦ 35 ]) m)

-- ## The recorders of one kind

module _ (h : Hall) (v : View) (k : ℕ) where
  abbrev call : ℕ → Words
  call r = settle_call v.number k r

  -- what the calls at the members from recorder r on give, m recorders
  unfoldable pub turn_over : ℕ → ℕ → model.Turn
  turn_over r m = any_turn hl3 h (map call (filter (in_mask v.set) (numbers r m)))

  pub over-members : (n : ℕ) → any_turn hl3 h (map call (members n v.set)) ≡ turn_over 1 n
  unfolding members turn_over
  over-members n = ap (λ (l : List ℕ). any_turn hl3 h (map call (filter (in_mask v.set) l))) (up_to-numbers n)

  -- one recorder more
  over-one : (r m : ℕ) → turn_over r (suc m) ≡ tried (member_number h v k r) (call r) (turn_over (suc r) m)
  unfolding turn_over numbers member_number any_turn filter tried
  over-one r m = go (in_mask v.set r)
    where
      rest : List ℕ
      rest = filter (in_mask v.set) (numbers (suc r) m)

      number_at : ℕ
      number_at = (plain (step hl3 h (call r)).answer).number

      go : (t : Bool) → any_turn hl3 h (map call (elim t [ true ↦ r ∷ rest | false ↦ rest ]))
          ≡ tried (elim t [ true ↦ number_at | false ↦ 35 ]) (call r) (any_turn hl3 h (map call rest))
      go true = refl
      go false = refl

  module _ (end r : ℕ) (inside : r < end) where
    here : turn_over r (end - r) ≡ tried (member_number h v k r) (call r) (turn_over (r + 1) (end - (r + 1)))
    here =
        let left : end - r ≡ suc (end - (r + 1)) = omega arith in
        let next : suc r ≡ r + 1 = omega arith in
        ap (turn_over r) left ∙ over-one r (end - (r + 1)) ∙ ap (λ x. tried (member_number h v k r) (call r) (turn_over x (end - (r + 1)))) next

    -- by its number
    by-number : (n : ℕ) → n ≡ member_number h v k r → turn_over r (end - r) ≡ tried n (call r) (turn_over (r + 1) (end - (r + 1)))
    by-number n e = here ∙ ap (λ m. tried m (call r) (turn_over (r + 1) (end - (r + 1)))) (sym e)

    -- it is taken
    pub over-taken : 0 ≡ member_number h v k r → takes (call r) ≡ turn_over r (end - r)
    unfolding tried
    over-taken e = sym (by-number 0 e)

    -- 40
    pub over-full : 40 ≡ member_number h v k r → full ≡ turn_over r (end - r)
    unfolding tried
    over-full e = sym (by-number 40 e)

    -- another refusal
    pub over-passed : (why : Refusal) → number why ≡ member_number h v k r → why ≢ Refusal.Full → turn_over r (end - r) ≡ turn_over (r + 1) (end - (r + 1))
    over-passed why e ne =
        by-number (number why) e ∙ tried-passes (number why) (call r) (turn_over (r + 1) (end - (r + 1))) (has-number why) (λ z. ne (is-full why z))

  pub over-none : (end r : ℕ) → end ≤ r → none ≡ turn_over r (end - r)
  unfolding turn_over numbers any_turn filter
  over-none end r l = let z : end - r ≡ 0 = omega arith in sym (ap (turn_over r) z)

-- ## The kinds

-- what one part of the calls gives, or else the other
or_else : model.Turn → model.Turn → model.Turn
or_else (takes w) u = takes w
or_else full u = full
or_else none u = u

turn-append : (h : Hall) (xs ys : List Words) → any_turn hl3 h (xs ++ ys) ≡ or_else (any_turn hl3 h xs) (any_turn hl3 h ys)
unfolding any_turn or_else tried
turn-append h [] ys = refl
turn-append h (x ∷ xs) ys = go (eqb n 0) (eqb n 40) (turn-append h xs ys)
  where
    n : ℕ
    n = (plain (step hl3 h x).answer).number

    go : (s t : Bool) → any_turn hl3 h (xs ++ ys) ≡ or_else (any_turn hl3 h xs) (any_turn hl3 h ys)
        → ◌≡◌ {A = model.Turn} (elim s [ true ↦ takes x | false ↦ elim t [ true ↦ full | false ↦ any_turn hl3 h (xs ++ ys) ] ])
        (or_else (elim s [ true ↦ takes x | false ↦ elim t [ true ↦ full | false ↦ any_turn hl3 h xs ] ]) (any_turn hl3 h ys))
    go true t e = refl
    go false true e = refl
    go false false e = e

or-found : (g : ℕ) (t : Turn) (u : model.Turn) → t ≢ Turn.Nothing → or_else (found g t) u ≡ found g t
unfolding or_else found
or-found g (Turn.Takes k r) u e = refl
or-found g Turn.Full u e = refl
or-found g Turn.Nothing u e = absurd (e refl)

or_nothing : (g : ℕ) (t : Turn) (u : model.Turn) → t ≡ Turn.Nothing → or_else (found g t) u ≡ u
unfolding or_else found
or_nothing g t u e = ap (λ x. or_else (found g x) u) e

-- the code's order of kinds
abbrev pub order : List code.Kind
order =
    kinds.Enter ∷ kinds.SendSummary ∷ kinds.SendEntry ∷ kinds.Label ∷ kinds.Place ∷ kinds.Receive ∷ kinds.Notice ∷ kinds.Confirm ∷ kinds.Deliver ∷ []

module _ (h : Hall) (g : ℕ) (ms : List ℕ) where
  -- what the kinds from index i on give
  unfoldable pub turn_from : ℕ → model.Turn
  turn_from i = any_turn hl3 h (calls_under g ms (map kind_number (drop i order)))

  pub from_first : any_turn hl3 h (settle_calls g ms) ≡ turn_from 0
  unfolding turn_from settle_calls settle_kinds
  from_first = refl

  pub from_last : none ≡ turn_from 9
  unfolding turn_from calls_under any_turn
  from_last = refl

  module _ (i : ℕ) (inside : i < 9) (t : Turn) (is : found g t ≡ any_turn hl3 h (map (settle_call g (kind_number (get_or order i kinds.Submit))) ms)) where
    split : turn_from i ≡ or_else (found g t) (turn_from (i + 1))
    unfolding turn_from calls_under
    split =
        let k = get_or order i kinds.Submit in
        let next : suc i ≡ i + 1 = omega arith in
        ap (λ (l : List code.Kind). any_turn hl3 h (calls_under g ms (map kind_number l)))
        (drop-cons order i kinds.Submit inside ∙ ap (λ j. k ∷ drop j order) next)
        ∙ turn-append h (map (settle_call g (kind_number k)) ms) (calls_under g ms (map kind_number (drop (i + 1) order)))
        ∙ ap (λ (x : model.Turn). or_else x (turn_from (i + 1))) (sym is)

    pub from_found : t ≢ Turn.Nothing → found g t ≡ turn_from i
    from_found f = sym (split ∙ or-found g t (turn_from (i + 1)) f)

    pub from_next : t ≡ Turn.Nothing → turn_from i ≡ turn_from (i + 1)
    from_next f = split ∙ or_nothing g t (turn_from (i + 1)) f
