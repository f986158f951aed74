-- A printed line in a lent slice, and what a line says as words. Assumes nothing.
use Prim.Native.Nat.{ℕ, ◌≤◌, ◌<◌}
use native.Mathlib.Omega.{arith}
use mathlib.Core.Path.{◌≡◌, refl, sym, ap, ◌∙◌}
use mathlib.Core.List.{List, [], ◌∷◌}
use lib.Dec.{ltb}
use lib.ListN.{length, take}
use lib.Seq.{sets}
use borrow.Author.Tests.{lt-ltb, le-ltb}
use Rattle.base.specs.Chains.{refuse, ◌⨾◌}
use Rattle.base.proofs.ChainsLaws.{first-refuses, first_passes}
use Rattle.model.specs.Answers.{Plain}
use Rattle.model.specs.declared.refusals.Refusal.{Refusal}
use Rattle.model.specs.RefusalNumbers.{number}
use Rattle.model.proofs.RefusalNumbersLaws.{has-number}
use Rattle.calls.specs.Lent.{answer_length, with_answer, Leaves}
use Rattle.calls.proofs.Refused.{lent-refused, lent-short, lent-done}
use Rattle.story.specs.Lent.{print_lent}
use Rattle.printing.specs.Lines.{Holds}
use Rattle.printing.specs.declared.PrintedLine.{PrintedLine}

-- a refusal leaves all
pub print-refused : (why : Refusal) (n : ℕ) (t text out : List ℕ) → number why ≡ n → Leaves (print_lent n t text out) (number why) text out
unfolding print_lent
print-refused why n t text out e =
    let ne = has-number why in
    let rest = refuse (ltb (length text) (length t)) 18 in
    let says : Plain = record { number = n ⨾ rest; values = length t ∷ [] } in
    lent-refused says text (sets text 0 t) out (number why) (e ∙ sym (first-refuses n rest (λ z. ne (e ∙ z)))) ne

module _ (t text out : List ℕ) (x : PrintedLine) (p : Holds t x) where
  -- the plain answer
  abbrev says : Plain
  says = record { number = 0 ⨾ refuse (ltb (length text) (length t)) 18; values = length t ∷ [] }

  passed : says.number ≡ refuse (ltb (length text) (length t)) 18
  passed = first_passes 0 (refuse (ltb (length text) (length t)) 18) refl

  pub print-no-text : length text < x.len → Leaves (print_lent 0 t text out) 18 text out
  unfolding print_lent refuse
  print-no-text h =
      let short = lt-ltb (length text) (length t) (omega (arith, p.len)) in
      lent-refused says text (sets text 0 t) out 18 (sym (passed ∙ ap (λ b. refuse b 18) short)) (λ z. omega arith)

  module _ (h : x.len ≤ length text) where
    taken : says.number ≡ 0
    unfolding refuse
    taken = passed ∙ ap (λ b. refuse b 18) (le-ltb (length text) (length t) (omega (arith, p.len)))

    pub print-no-answer : length out < answer_length → Leaves (print_lent 0 t text out) 18 text out
    unfolding print_lent
    print-no-answer l = lent-short says text (sets text 0 t) out taken l

    pub print-done : answer_length ≤ length out → (next answer : List ℕ) → next ≡ sets text 0 (take x.len x.bytes)
        → answer ≡ with_answer out (x.len ∷ []) → Leaves (print_lent 0 t text out) 0 next answer
    unfolding print_lent
    print-done l next answer en ea =
        let done = lent-done says text (sets text 0 t) out taken l in
        record {
          number = done.number;
          bytes = en ∙ ap (sets text 0) p.text ∙ done.bytes;
          answer = ea ∙ ap (λ (n : ℕ). with_answer out (n ∷ [])) p.len ∙ done.answer;
        }
