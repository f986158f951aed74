-- A held settle with a buffer in form answers what a settle does, and leaves its hall. Assumes nothing.
use Prim.Native.Nat.{ℕ}
use native.Mathlib.Omega.{arith}
use mathlib.Core.Path.{◌≡◌, refl, sym, ap, ◌∙◌}
use mathlib.Core.Bool.{Bool, true, false}
use mathlib.Core.List.{List, [], ◌∷◌}
use lib.Dec.{eqb}
use borrow.Author.Tests.{eqb-true, eqb-false}
use Rattle.base.proofs.Bools.{by_cases}
use Rattle.base.proofs.ChainsLaws.{refuses, passes, first-refuses, first_passes}
use Rattle.model.specs.Call.{hl3}
use Rattle.model.specs.Settle.{greatest_view, cannot_settle, Settling, settled, refused, max_turns, settle_from, settle, calls_taken, plain_settle}
use Rattle.store.specs.StoredForm.{hall_of, is_stored}
use Rattle.calls.specs.Calls.{settling_on, settle_on}
use Rattle.calls.proofs.SettleLaws.{settling-held, settling-broken, settle-low}
use Rattle.calls.proofs.Refused.{refused-keeps}
use Rattle.step.specs.Numbers.{bytes_number}
use Rattle.step.proofs.StepsLaws.{bytes-hall, bytes-broken}
use Rattle.undo.specs.Buffer.{is_undo}
use Rattle.stepback.specs.Held.{Bench, undo_number, held_run, HeldSettle, settle_held_number, settle_held_on}
use Rattle.stepback.specs.Runs.{more}
use Rattle.stepback.proofs.HeldLaws.{in_form-undo, settle-links, settle-early, settle-made}
use Rattle.stepback.proofs.RunsLaws.{settle-all}
use Rattle.stepback.proofs.Standing.{remains, stands-start, stands-run}

module _ (x : Bench) (i : is_undo x.undo ≡ true) where
  abbrev b : List ℕ
  b = x.hall

  abbrev plainly : ℕ
  plainly = (settle_on b).answer.number

  number-of : (y : Settling) → settling_on b ≡ y → plainly ≡ (plain_settle y).number
  unfolding settle_on
  number-of y e = ap (λ (z : Settling). (plain_settle z).number) e

  by-barred : Bool → Settling
  by-barred t = elim t [ true ↦ refused 42 | false ↦ settle_from hl3 max_turns (greatest_view (hall_of b)) (hall_of b) ]

  -- 42
  barred : cannot_settle (hall_of b) ≡ true → settle hl3 (hall_of b) ≡ refused 42
  unfolding settle by-barred
  barred t = ap by-barred t

  -- the numbers are the same
  same_number : settle_held_number x ≡ plainly
  unfolding settle_held_number plain_settle
  same_number =
      by_cases (is_stored b)
      (λ s.
      first_passes (bytes_number b) _ (sym (bytes-hall b s))
      ∙ by_cases (cannot_settle (hall_of b))
      (λ t. refuses (cannot_settle (hall_of b)) 41 _ t ∙ sym (number-of (refused 42) (settling-held b s ∙ barred t)))
      (λ t. passes (cannot_settle (hall_of b)) 42 _ t ∙ first_passes (undo_number x.undo) _ (in_form-undo x.undo i)))
      (λ f.
      let e = bytes-broken b f in
      first-refuses (bytes_number b) _ (λ z. let n : ◌≡◌ {A = ℕ} 31 0 = e ∙ z in absurd (omega arith))
      ∙ sym e ∙ sym (number-of (refused 31) (settling-broken b f)))

  -- a settle's refusal has no count
  refusal_is : (y : Settling) → ((plain_settle y).number ≡ 0 → ⊥) → plain_settle y ≡ record { number = (plain_settle y).number; values = 0 ∷ [] }
  unfolding plain_settle
  refusal_is (settled ws) ne = absurd (ne refl)
  refusal_is (refused n) ne = refl

  run-hall : is_stored b ≡ true → (held_run x (calls_taken (settling_on b))).hall ≡ (settle_on b).bytes
  unfolding settle_on more
  run-hall s = let ws = calls_taken (settling_on b) in (stands-run ws (remains x []) x (stands-start x s i) (settle-low b) (settle-all b)).hall

  pub settle-same : ((settle_held_on x).answer ≡ (settle_on b).answer) × ((settle_held_on x).left.hall ≡ (settle_on b).bytes)
  unfolding settle_on
  settle-same =
      by_cases (eqb (settle_held_number x) 0)
      (λ t.
      let z = eqb-true (settle_held_number x) 0 t in
      let e = settle-made x z in
      (ap (λ (h : HeldSettle). h.answer) e, ap (λ (h : HeldSettle). h.left.hall) e ∙ run-hall (settle-links x z).0))
      (λ f.
      let ne : plainly ≡ 0 → ⊥ = λ z. eqb-false (settle_held_number x) 0 f (same_number ∙ z) in
      let e = settle-early x (eqb-false (settle_held_number x) 0 f) in (
        ap (λ (h : HeldSettle). h.answer) e ∙ ap (λ (n : ℕ). record { number = n; values = 0 ∷ [] }) same_number ∙ sym (refusal_is (settling_on b) ne),
        ap (λ (h : HeldSettle). h.left.hall) e ∙ sym (refused-keeps.settle b ne),
      ))
