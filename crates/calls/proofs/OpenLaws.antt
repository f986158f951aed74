-- What an opening answers and leaves, refused or taken. Assumes nothing.
use Prim.Native.Nat.{ℕ}
use mathlib.Core.Path.{◌≡◌, sym, ap, ◌∙◌}
use mathlib.Core.Bool.{Bool, true, false}
use mathlib.Core.List.{List}
use lib.Dec.{eqb}
use borrow.Author.Tests.{eqb-true, eqb-false, eq-eqb, ne_eqb}
use Rattle.base.proofs.Bools.{by_cases}
use Rattle.base.proofs.ChainsLaws.{chain-none}
use Rattle.model.specs.Opening.{Opening, open_refusal, opened}
use Rattle.calls.specs.Calls.{with_hall, OpenOutcome, open_number, open_on}

module _ (b : List ℕ) (o : Opening) where
  outcome : Bool → OpenOutcome
  outcome t = elim t [ true ↦ record { number = 0; bytes = with_hall b (opened o) } | false ↦ record { number = open_number b o; bytes = b } ]

  pub open-refused : (open_number b o ≡ 0 → ⊥) → ((open_on b o).number ≡ open_number b o) × ((open_on b o).bytes ≡ b)
  unfolding open_on outcome
  open-refused ne = let e = ap outcome (ne_eqb (open_number b o) 0 ne) in (ap (λ x. x.number) e, ap (λ x. x.bytes) e)

  pub open-taken : open_number b o ≡ 0 → ((open_on b o).number ≡ 0) × ((open_on b o).bytes ≡ with_hall b (opened o))
  unfolding open_on outcome
  open-taken z = let e = ap outcome (eq-eqb (open_number b o) 0 z) in (ap (λ x. x.number) e, ap (λ x. x.bytes) e)

  -- an opening that returned 0 was not refused, and wrote the opened hall
  pub open_done : (open_on b o).number ≡ 0 → (open_refusal o ≡ 0) × ((open_on b o).bytes ≡ with_hall b (opened o))
  unfolding open_number
  open_done t =
      by_cases (eqb (open_number b o) 0)
      (λ e.
      let z = eqb-true (open_number b o) 0 e in
      ((chain-none (open_refusal o) _ z).0, (open-taken z).1))
      (λ e. absurd (eqb-false (open_number b o) 0 e (sym (open-refused (eqb-false (open_number b o) 0 e)).0 ∙ t)))
