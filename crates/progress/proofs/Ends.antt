-- A settle ends, and in at most 2,392 steps, on every hall in range (02, A5).
-- Assumes nothing.
use Prim.Native.Nat.{ℕ, zero, suc, ◌+◌, ◌*◌, ◌≤◌, ◌<◌}
use native.Mathlib.Omega.{arith}
use mathlib.Core.Path.{◌≡◌, refl, sym, ap, ◌∙◌, subst}
use mathlib.Core.Logic.{⊎_elim}
use mathlib.Core.Bool.{Bool, true, false, false≢true}
use mathlib.Core.List.{List, [], ◌∷◌, ◌++◌, head-eq_of_cons-eq, tail-eq_of_cons-eq}
use lib.ListN.{length}
use Rattle.base.specs.Lists.{has, Each}
use Rattle.base.proofs.ListsLaws.{has_either, each-has, each_left}
use Rattle.model.specs.Hall.{Hall}
use Rattle.model.specs.Refusals.{Rules}
use Rattle.model.specs.Call.{Words, step}
use Rattle.model.specs.Run.{run}
use Rattle.model.specs.Settle.{greatest_view, cannot_settle, settle_kinds, settle_call, calls_under, settle_calls, is_in_view, Turn, takes, full, none, turn_of, Settling, settled, refused, and_then, max_turns, settle_from, settle, max_steps, calls_taken}
use Rattle.model.proofs.Settling.TurnLaws.{number_at, Passed, Found, Finds, finds, under-call, call-under, call-of}
use Rattle.store.specs.Valid.{ValidHall}
use Rattle.progress.proofs.AllEntered.{calls-append}
use Rattle.progress.proofs.Measure.{reports}
use Rattle.progress.proofs.SettleSteps.{Stands, work_of, first_kinds, last_kinds, Worked, first-works}
use Rattle.progress.proofs.Quiet.{Quiet, Reported, last-reports}
use Rattle.progress.proofs.Bounds.{few, work-most, reports-most, work-least}

-- ## What was passed over

-- a list before which w does not stand is part of what comes before w
before-first : (P : Words → Type 0) (xs ys before after : List Words) (w : Words) → Each (λ x. x ≡ w → ⊥) xs
    → xs ++ ys ≡ before ++ (w ∷ after) → Each P before → Each P xs
before-first P [] ys before after w n e p = tt
before-first P (x ∷ xs) ys [] after w n e p = absurd (n.0 (head-eq_of_cons-eq e))
before-first P (x ∷ xs) ys (b ∷ before) after w n e p =
    (subst P (sym (head-eq_of_cons-eq e)) p.0, before-first P xs ys before after w n.1 (tail-eq_of_cons-eq e) p.1)

-- the first group's calls come first
calls-split : (g : ℕ) (ms : List ℕ) → settle_calls g ms ≡ calls_under g ms first_kinds ++ calls_under g ms last_kinds
unfolding settle_calls settle_kinds first_kinds last_kinds
calls-split g ms = calls-append g ms first_kinds last_kinds

-- no kind is in both groups
not_last : (j k : ℕ) → has first_kinds j ≡ true → has last_kinds k ≡ true → j ≡ k → ⊥
unfolding first_kinds last_kinds has
not_last j k i l e =
    each-has (λ j. has last_kinds j ≡ true → ⊥) first_kinds
    (false≢true, (false≢true, (false≢true, (false≢true, (false≢true, (false≢true, (false≢true, tt)))))))
    j i (ap (has last_kinds) e ∙ l)

module _ (rules : Rules) (g : ℕ) (ms : List ℕ) (h : Hall) where
  -- a turn that finds none passed over the first group
  pub none-quiet : Each (Passed rules h g) (settle_calls g ms) → Quiet rules g ms h
  none-quiet p k r =
      under-call (Passed rules h g) g ms first_kinds k r
      (each_left (Passed rules h g) (calls_under g ms first_kinds) (calls_under g ms last_kinds) (subst (Each (Passed rules h g)) (calls-split g ms) p))

  -- so did one that takes a call of kind 10 or 11
  pub last-quiet : (w : Words) (n k r : ℕ) → w ≡ settle_call g k r → has last_kinds k ≡ true → Found rules h g (settle_calls g ms) w n → Quiet rules g ms h
  unfolding settle_call
  last-quiet w n k r e l f j q =
      under-call (Passed rules h g) g ms first_kinds j q
      (before-first (Passed rules h g) (calls_under g ms first_kinds) (calls_under g ms last_kinds) f.before f.after w
      (call-under (λ x. x ≡ w → ⊥) g ms first_kinds (λ j q i m s. not_last j k i l (ap (λ (x : Words). x.k) (s ∙ e))))
      (sym (calls-split g ms) ∙ f.split) f.passed)

-- ## One turn of a settle

is_settled : Settling → Bool
is_settled (settled ws) = true
is_settled (refused n) = false

pub not-refused : (n : ℕ) (ws : List Words) → refused n ≡ settled ws → ⊥
unfolding is_settled
not-refused n ws e = false≢true (ap is_settled e)

module _ (rules : Rules) (g n : ℕ) (h : Hall) (ws : List Words) (e : settle_from rules (suc n) g h ≡ settled ws) where
  turn-takes : (w : Words) → turn_of rules h g ≡ takes w
      → (later : List Words) × (ws ≡ w ∷ later) × (settle_from rules n g (step rules h w).hall ≡ settled later)
  unfolding settle_from and_then calls_taken
  turn-takes w t = go (settle_from rules n g (step rules h w).hall) refl (rw (t, settle_from) at e)
    where
      go : (x : Settling) → settle_from rules n g (step rules h w).hall ≡ x → and_then w x ≡ settled ws
          → (later : List Words) × (ws ≡ w ∷ later) × (settle_from rules n g (step rules h w).hall ≡ settled later)
      go (settled later) f d = (later, sym (ap calls_taken d), f)
      go (refused k) f d = absurd (not-refused k ws d)

  turn-full : turn_of rules h g ≡ full → ⊥
  unfolding settle_from
  turn-full t = not-refused 40 ws (rw (t, settle_from) at e)

  turn-none : turn_of rules h g ≡ none → ws ≡ []
  unfolding settle_from calls_taken
  turn-none t = let d : settled [] ≡ settled ws = rw (t, settle_from) at e in sym (ap calls_taken d)

-- ## A settle

module _ (rules : Rules) (g : ℕ) (ms : List ℕ) where
  -- what a turn finds among the members' calls
  found : (h : Hall) → Stands g ms h → Finds rules h g (settle_calls g ms) (turn_of rules h g)
  unfolding turn_of
  found h s =
      subst (λ l. Finds rules h g (settle_calls g l) (turn_of rules h g)) s.set (finds rules h g (settle_calls g (h.service.members g)))

  -- a settle of h ends after ws, which are at most so many, and the hall still stands
  pub record Ended (h : Hall) (ws : List Words) (most : ℕ) : Type 0 where
    pub end : turn_of rules (run rules h ws) g ≡ none
    pub at_most : length ws ≤ most
    pub stands : Stands g ms (run rules h ws)

  ended-none : (h : Hall) (ws : List Words) (most : ℕ) → Stands g ms h → ws ≡ [] → turn_of rules h g ≡ none → Ended h ws most
  unfolding run
  ended-none h ws most s e t = subst (λ l. Ended h l most) (sym e) (record { end = t; at_most = omega arith; stands = s })

  ended-more : (h : Hall) (w : Words) (ws later : List Words) (most : ℕ) → ws ≡ w ∷ later → Ended (step rules h w).hall later most
      → Ended h ws (most + 1)
  unfolding run
  ended-more h w ws later most e d = subst (λ l. Ended h l (most + 1)) (sym e) (record { end = d.end; at_most = omega (arith, d.at_most); stands = d.stands })

  -- where the first group is passed over, 10 and 11 come, as many as the reports at most
  abbrev QuietEnds : ℕ → Type 0
  QuietEnds n =
      (h : Hall) → Stands g ms h → Quiet rules g ms h → reports ms h.recorders < n → (ws : List Words)
      → settle_from rules n g h ≡ settled ws → Ended h ws (reports ms h.recorders)

  quiet-ends : (n : ℕ) → QuietEnds n
  unfolding Finds settle_kinds first_kinds last_kinds
  quiet-ends zero h s quiet fuel ws e = absurd (omega arith)
  quiet-ends (suc n) h s quiet fuel ws e = go (quiet-ends n) (turn_of rules h g) refl (found h s)
    where
      report : QuietEnds n → (w : Words) → turn_of rules h g ≡ takes w → (k r : ℕ) → has ms r ≡ true → w ≡ settle_call g k r → number_at rules h w ≡ 0
          → has last_kinds k ≡ true → Ended h ws (reports ms h.recorders)
      report ends w t k r m c z l =
          let did = subst (λ (x : Words). Reported rules g ms h s r m (step rules h x).hall) (sym c)
          (last-reports rules g ms h s r m k l (ap (number_at rules h) (sym c) ∙ z)) in
          let tail = turn-takes rules g n h ws e w t in
          subst (Ended h ws) (sym did.less)
          (ended-more h w ws tail.0 _ tail.1
          (ends (step rules h w).hall did.stands (did.quiet quiet) (omega (arith, did.less)) tail.0 tail.2))

      go : QuietEnds n → (t : Turn) → turn_of rules h g ≡ t → Finds rules h g (settle_calls g ms) t → Ended h ws (reports ms h.recorders)
      go ends (takes w) t f =
          let c = call-of g ms f.before f.after w f.split in
          ⊎_elim
          (λ i.
          absurd
          ((quiet c.kind c.recorder i c.member (ap (is_in_view h g) (sym c.words) ∙ f.in_view)).0
          (ap (number_at rules h) (sym c.words) ∙ f.number)))
          (report ends w t c.kind c.recorder c.member c.words f.number)
          (has_either first_kinds last_kinds c.kind c.listed)
      go ends full t f = absurd (turn-full rules g n h ws e t)
      go ends none t f = ended-none h ws _ s (turn-none rules g n h ws e t) t

  -- before that the first group's calls come, and leave 65 for each member of the work: 128 - 65 = 63
  abbrev WorkEnds : ℕ → Type 0
  WorkEnds n =
      (h : Hall) → Stands g ms h → work_of g ms h + length ms * 128 < n → (ws : List Words)
      → settle_from rules n g h ≡ settled ws → Ended h ws (work_of g ms h + length ms * 63)

  work-ends : (n : ℕ) → WorkEnds n
  unfolding Finds settle_kinds first_kinds last_kinds
  work-ends zero h s fuel ws e = absurd (omega arith)
  work-ends (suc n) h s fuel ws e = go (work-ends n) (turn_of rules h g) refl (found h s)
    where
      rest : Quiet rules g ms h → Ended h ws (work_of g ms h + length ms * 63)
      rest quiet =
          let most = reports-most g ms h s in
          let d = quiet-ends (suc n) h s quiet (omega (arith, most)) ws e in
          record { end = d.end; at_most = omega (arith, d.at_most, most, work-least rules g ms h s quiet); stands = d.stands }

      labour : WorkEnds n → (w : Words) → turn_of rules h g ≡ takes w → (k r : ℕ) → has ms r ≡ true → w ≡ settle_call g k r → number_at rules h w ≡ 0
          → is_in_view h g w ≡ true → has first_kinds k ≡ true → Ended h ws (work_of g ms h + length ms * 63)
      labour ends w t k r m c z v i =
          let did = subst (λ (x : Words). Worked rules g ms h s r m (step rules h x).hall) (sym c)
          (first-works rules g ms h s r m k i (ap (is_in_view h g) (sym c) ∙ v) (ap (number_at rules h) (sym c) ∙ z)) in
          let tail = turn-takes rules g n h ws e w t in
          let h' = (step rules h w).hall in
          let less : work_of g ms h + length ms * 63 ≡ work_of g ms h' + length ms * 63 + 1 = omega (arith, did.less) in
          subst (Ended h ws) (sym less)
          (ended-more h w ws tail.0 (work_of g ms h' + length ms * 63) tail.1
          (ends h' did.stands (omega (arith, did.less)) tail.0 tail.2))

      go : WorkEnds n → (t : Turn) → turn_of rules h g ≡ t → Finds rules h g (settle_calls g ms) t → Ended h ws (work_of g ms h + length ms * 63)
      go ends (takes w) t f =
          let c = call-of g ms f.before f.after w f.split in
          ⊎_elim
          (labour ends w t c.kind c.recorder c.member c.words f.number f.in_view)
          (λ l. rest (last-quiet rules g ms h w 0 c.kind c.recorder c.words l f))
          (has_either first_kinds last_kinds c.kind c.listed)
      go ends full t f = absurd (turn-full rules g n h ws e t)
      go ends none t f = rest (none-quiet rules g ms h f)

-- ## The theorems

ends : (rules : Rules) (h : Hall) → ValidHall h → (ws : List Words) → settle rules h ≡ settled ws
    → Ended rules (greatest_view h) (h.service.members (greatest_view h)) h ws max_steps
unfolding settle
ends rules h valid ws e = go (cannot_settle h) e
  where
    g : ℕ
    g = greatest_view h

    ms : List ℕ
    ms = h.service.members g

    go : (t : Bool) → elim t [ true ↦ refused 42 | false ↦ settle_from rules max_turns g h ] ≡ settled ws → Ended rules g ms h ws max_steps
    go true e = absurd (not-refused 42 ws e)
    go false e =
        let s : Stands g ms h = record { valid = valid; view = refl; set = refl } in
        let short = few g ms h s in
        let most = work-most g ms h s in
        let d = work-ends rules g ms max_turns h s (omega arith) ws e in
        record { end = d.end; at_most = omega (arith, d.at_most); stands = d.stands }

-- "it ends when none is left": an accepted settle has come to no call left, the fuel does not run out
pub settle-ends : (rules : Rules) (h : Hall) → ValidHall h → (ws : List Words) → settle rules h ≡ settled ws
    → turn_of rules (run rules h ws) (greatest_view h) ≡ none
settle-ends rules h valid ws e = (ends rules h valid ws e).end

-- "and is at most 2,392", not only on a hall that a run reaches
pub settle-bound : (rules : Rules) (h : Hall) → ValidHall h → (ws : List Words) → settle rules h ≡ settled ws → length ws ≤ max_steps
settle-bound rules h valid ws e = (ends rules h valid ws e).at_most

-- ## The hall after it

-- the settled hall is in range, and its greatest view and that view's members are as they were
pub settle-stands : (rules : Rules) (h : Hall) → ValidHall h → (ws : List Words) → settle rules h ≡ settled ws
    → Stands (greatest_view h) (h.service.members (greatest_view h)) (run rules h ws)
settle-stands rules h valid ws e = (ends rules h valid ws e).stands

-- every call at a member is refused, and not with 40, or not in the view
pub settle-passed : (rules : Rules) (h : Hall) → ValidHall h → (ws : List Words) → settle rules h ≡ settled ws
    → Each (Passed rules (run rules h ws) (greatest_view h)) (settle_calls (greatest_view h) (h.service.members (greatest_view h)))
unfolding Finds
settle-passed rules h valid ws e =
    let g = greatest_view h in
    let ms = h.service.members g in
    let d = ends rules h valid ws e in
    subst (Finds rules (run rules h ws) g (settle_calls g ms)) d.end (found rules g ms (run rules h ws) d.stands)
