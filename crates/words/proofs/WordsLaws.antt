-- The words of a kind, as the code judges them: each test by the use of its word, and the four tests in their order.
-- Assumes nothing.
use Prim.Native.Nat.{ℕ, zero, suc, ◌*◌, ◌/◌, ◌^◌, ◌≤◌, ◌<◌}
use native.Mathlib.Omega.{arith}
use mathlib.Core.Path.{◌≡◌, refl, sym, ap, ap₂, ◌∙◌}
use mathlib.Core.Bool.{Bool, true, false, not, ◌&&◌, ◌||◌}
use mathlib.Core.Logic.{⊎_elim}
use native.Mathlib.Nat.{div-eq_of_lt, div-lt_iff_lt-mul}
use lib.Pow.{pow_pos}
use lib.Dec.{eqb, leb, ltb}
use borrow.Author.Tests.{eq-eqb, ne_eqb, le-leb, lt-leb, lt-ltb, le-ltb, leb-true, leb-false}
use Rattle.base.specs.Numbers.{within}
use Rattle.base.specs.Chains.{refuse, ◌⨾◌}
use Rattle.base.proofs.Bools.{by_cases, true-or-false, not-both}
use Rattle.base.proofs.NumbersLaws.{within_both}
use Rattle.model.specs.Hall.{max_recorders}
use Rattle.model.specs.Opening.{wrong_opening}
use Rattle.model.specs.Kinds as model
use Rattle.model.specs.Kinds.{Kind, uses, wrong_recorder, stray_word, wrong_number, wrong_set, input_refusal}
use Rattle.words.specs.declared.Uses.{Uses}
use Rattle.words.specs.Words.{use_of, uses_of}

-- ## Tests of the code

-- a number below a range, and one that is not
pub below : (low high x : ℕ) → x < low → ltb x low ≡ not (within low high x)
unfolding within
below low high x l = lt-ltb x low l ∙ sym (ap (λ t. not (t && leb x high)) (lt-leb low x l))

pub above : (low high x : ℕ) → low ≤ x → ltb high x ≡ not (within low high x)
unfolding within
above low high x l =
    ⊎_elim (λ t. le-ltb high x (leb-true x high t) ∙ sym (ap not t)) (λ f. lt-ltb high x (leb-false x high f) ∙ sym (ap not f)) (true-or-false (leb x high))
    ∙ sym (ap (λ t. not (t && leb x high)) (le-leb low x l))

-- of the numbers up to high, 0 alone is outside 1 to high
pub zero-alone : (high x : ℕ) → x ≤ high → eqb x 0 ≡ not (within 1 high x)
unfolding within
zero-alone high zero h = refl
zero-alone high (suc x) h =
    ne_eqb (suc x) 0 (λ e. omega arith)
    ∙ sym (ap₂ (λ s t. not (s && t)) (le-leb 1 (suc x) (omega arith)) (le-leb (suc x) high h))

-- a mask names a recorder above n where it has a bit there
pub bits_above : (n b : ℕ) → not (eqb (b / 2 ^ n) 0) ≡ leb (2 ^ n) b
bits_above n b =
    ⊎_elim (λ t. ap not (ne_eqb (b / 2 ^ n) 0 (λ e. some (leb-true (2 ^ n) b t) e)) ∙ sym t)
    (λ f. ap not (eq-eqb (b / 2 ^ n) 0 (div-eq_of_lt (leb-false (2 ^ n) b f))) ∙ sym f)
    (true-or-false (leb (2 ^ n) b))
  where
    some : 2 ^ n ≤ b → b / 2 ^ n ≡ 0 → ⊥
    some l e = let lt : b < 1 * 2 ^ n = (div-lt_iff_lt-mul (pow_pos n)).0 (omega arith) in omega arith

-- a number that is not outside a range is in it
pub inside : (low high x : ℕ) → not (within low high x) ≡ false → (low ≤ x) × (x ≤ high)
inside low high x e = within_both low high x (by_cases (within low high x) (λ t. t) (λ f. absurd (not-both (ap not f) e)))

-- ## 16 by its two tests

-- where N is outside 1 to 8, or the founders are above N
pub by_size : (n f : ℕ) {t : Bool} → not (within 1 max_recorders n) ≡ t → wrong_opening n f ≡ (t || leb (2 ^ n) f)
unfolding wrong_opening
by_size n f e = either (within 1 max_recorders n) ∙ ap (λ t. t || leb (2 ^ n) f) e
  where
    either : (s : Bool) → elim s [ true ↦ leb (2 ^ n) f | false ↦ true ] ≡ (not s || leb (2 ^ n) f)
    either true = refl
    either false = refl

-- ## The four tests in their order

-- 12 to 15 by how R, A and B are used
chain : ℕ → model.Uses → ℕ → ℕ → ℕ → ℕ
chain n u r a b =
    refuse (wrong_recorder n u.r r) 12
    ⨾ refuse (stray_word u.a a || stray_word u.b b) 13
    ⨾ refuse (wrong_number u.a a || wrong_number u.b b) 14
    ⨾ refuse (wrong_set n u.a a || wrong_set n u.b b) 15

-- the code's chain of a kind by the code's row of that kind
pub by_row : (n : ℕ) (κ : Kind) (r a b : ℕ) (u : Uses) → uses_of u ≡ uses κ
    → refuse (wrong_recorder n (use_of u.0) r) 12
    ⨾ refuse (stray_word (use_of u.1) a || stray_word (use_of u.2) b) 13
    ⨾ refuse (wrong_number (use_of u.1) a || wrong_number (use_of u.2) b) 14
    ⨾ refuse (wrong_set n (use_of u.1) a || wrong_set n (use_of u.2) b) 15
    ≡ input_refusal n κ r a b
unfolding input_refusal chain uses_of
by_row n κ r a b u row = ap (λ v. chain n v r a b) row

-- a number told by its condition, which is told by another
pub of_test : {x : ℕ} {s t : Bool} (k : ℕ) → x ≡ refuse s k → s ≡ t → x ≡ refuse t k
of_test k e f = e ∙ ap (λ z. refuse z k) f

pub of-tests : {x : ℕ} {s t p q : Bool} (k : ℕ) → x ≡ refuse (s || t) k → s ≡ p → t ≡ q → x ≡ refuse (p || q) k
of-tests k e f g = e ∙ ap₂ (λ y z. refuse (y || z) k) f g
