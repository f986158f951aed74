-- The answers of writing a run, case by case. Assumes nothing.
use Prim.Native.Nat.{ℕ, ◌^◌, ◌<◌}
use native.Mathlib.Omega.{arith}
use mathlib.Core.Path.{◌≡◌, refl, sym, ap, ◌∙◌}
use mathlib.Core.Bool.{Bool, true, false}
use mathlib.Core.List.{List}
use lib.Dec.{eqb, ltb}
use lib.ListN.{length}
use borrow.Author.Tests.{eqb-true, eqb-false, lt-ltb}
use Rattle.base.specs.Chains.{refuse, ◌⨾◌}
use Rattle.base.proofs.Bools.{by_cases}
use Rattle.base.proofs.ChainsLaws.{chain-assoc}
use Rattle.model.specs.RunFile.{read_text, Reading, read_refusal, read_file, ReadAnswer, read_answer, FileOpening, RunText, distance}
use Rattle.model.specs.RunFile.{WriteAnswer, Writing, write_refusal, write_file, plain_written}
use Rattle.std.specs.Prelude.{Result}
use Rattle.model.specs.declared.refusals.Refusal.{Refusal}
use Rattle.runfile.specs.Answers.{written_meaning}
use Rattle.runfile.proofs.Cases.{written_one}
use Rattle.runfile.proofs.Openings.{fits, least}
use Rattle.runfile.proofs.WriteLaws.{early, eighteen-last, write-refused, write-run, written-when}
use Rattle.calls.specs.RunsLent.{written_words}

-- a refused file has a number
pub read_number : (f : List ℕ) (why : ℕ) → read_answer f (read_file f) ≡ ReadAnswer.refused why → why ≡ 0 → ⊥
unfolding read_answer read_file
read_number f why = go (eqb (read_refusal f) 0) refl
  where
    answer : Bool → ReadAnswer
    answer t = read_answer f (elim t [ true ↦ Reading.text (read_text f) | false ↦ Reading.refused (read_refusal f) ])

    go : (t : Bool) → eqb (read_refusal f) 0 ≡ t → answer t ≡ ReadAnswer.refused why → why ≡ 0 → ⊥
    go true e r z = let one : ◌≡◌ {A = ℕ} 0 1 = cc in omega arith
    go false e r z = eqb-false (read_refusal f) 0 e (cc)

-- the model's answer y has the number and values of r, which is the case s
pub written_is : {r s : Result ℕ Refusal} {y : WriteAnswer} → plain_written (written_meaning r) ≡ plain_written y → r ≡ s → y ≡ written_meaning s
written_is {r} {y} e f = sym (written_one (written_meaning r) y e) ∙ ap written_meaning f

module _ (x : RunText) (b : List ℕ) where
  abbrev number : ℕ
  number = write_refusal x.opening (length x.actions) (length b)

  -- the number of a write
  write-number : (written_words (write_file x b).answer).number ≡ number
  unfolding written_words
  write-number =
      by_cases (eqb number 0)
      (λ t. ap (λ (z : Writing). (written_words z.answer).number) (write-run x b (eqb-true number 0 t)) ∙ sym (eqb-true number 0 t))
      (λ t. ap (λ (z : Writing). (written_words z.answer).number) (write-refused x b (eqb-false number 0 t)))

  -- a refused write has a number, and leaves the slice
  pub refused-write : (why : ℕ) → (write_file x b).answer ≡ WriteAnswer.refused why → (why ≡ 0 → ⊥) × ((write_file x b).bytes ≡ b)
  refused-write why r =
      by_cases (eqb number 0)
      (λ t.
      let w = ap (λ (z : Writing). z.answer) (write-run x b (eqb-true number 0 t)) in
      let one : ◌≡◌ {A = ℕ} 0 1 = cc in
      absurd (omega arith))
      (λ t.
      let w = write-refused x b (eqb-false number 0 t) in
      let a : WriteAnswer.refused why ≡ WriteAnswer.refused number = sym r ∙ ap (λ (z : Writing). z.answer) w in
      let same : why ≡ number = cc in
      (λ z. eqb-false number 0 t (sym same ∙ z), ap (λ (z : Writing). z.bytes) w))

  -- the length of a written run is one word
  pub write-length : (n : ℕ) → (write_file x b).answer ≡ WriteAnswer.written n → n < 2 ^ 32
  write-length n e =
      let w = written-when x b n e in
      omega (arith, w.size, fits x.opening.third (length x.actions) w.allows.few)

  -- a slice that is too short for any run is not written
  pub write-nothing : (n : ℕ) → length b < 32 → (write_file x b).answer ≡ WriteAnswer.written n → ⊥
  write-nothing n l e = omega (arith, least x.opening.third (length x.actions), (written-when x b n e).allows.fits)

-- 18 or none, then 18
last : (t : Bool) → refuse t 18 ⨾ 18 ≡ 18
unfolding refuse ◌⨾◌
last true = refl
last false = refl

-- the number of a write on such a slice
pub write-tried : (x : RunText) (l b : List ℕ) (why : ℕ) → length l < 32 → (write_file x l).answer ≡ WriteAnswer.refused why
    → why ≡ (written_words (write_file x b).answer).number ⨾ 18
unfolding written_words refuse
write-tried x l b why short e =
    sym (ap (λ (z : WriteAnswer). (written_words z).number) e)
    ∙ write-number x l
    ∙ eighteen-last o c (length l)
    ∙ ap (λ (t : Bool). early o c ⨾ refuse t 18) (lt-ltb (length l) d (omega (arith, least o.third c)))
    ∙ sym
    (ap (λ n. n ⨾ 18) (write-number x b ∙ eighteen-last o c (length b))
    ∙ chain-assoc (early o c) (refuse (ltb (length b) d) 18) 18
    ∙ ap (λ n. early o c ⨾ n) (last (ltb (length b) d)))
  where
    o : FileOpening
    o = x.opening

    c : ℕ
    c = length x.actions

    d : ℕ
    d = distance o.third c
