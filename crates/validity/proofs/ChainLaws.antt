-- What is told of the numbers of a range, by `all`, and what `fold` over a range or a slice gathers. Assumes nothing.
use Prim.Native.Nat.{ℕ, zero, suc, ◌+◌, ◌-◌, ◌≤◌, ◌<◌}
use native.Mathlib.Omega.{arith}
use native.Mathlib.Numerals.{add-one}
use mathlib.Core.Path.{◌≡◌, refl, sym, ap, ap₂, ◌∙◌}
use mathlib.Core.Bool.{Bool, true, false, ◌&&◌}
use mathlib.Core.List.{List}
use lib.Dec.{eqb, ltb}
use lib.ListN.{length, get_or, take, drop, length-take, get_or-eq_default}
use lib.Seq.{take-suc, get_or-take, get_or-drop}
use borrow.Author.Tests.{lt-ltb, ltb-true, ltb-false}
use Rattle.std.specs.Prelude.{Option}
use Rattle.std.specs.Fn.{Called}
use denote.Param.Members.{Mut}
use Rattle.std.specs.Iterator.{AlwaysYields, Drains}
use Rattle.std.specs.List.{FoldsTo, range_with_len}
use Rattle.std.proofs.lemmas.Fn.{fold_over}
use Rattle.base.specs.Lists.{all}
use Rattle.base.specs.Numbers.{up_to, numbers}
use Rattle.base.proofs.Bools.{by_cases}
use Rattle.base.proofs.Iterators.{Tells, tells_up_to}
use Rattle.base.proofs.ListsLaws.{all-has, get-all}
use Rattle.base.proofs.NumbersLaws.{up_to-numbers}
use Rattle.codec.specs.Bytes.{part}
use Rattle.validity.proofs.AllsLaws.{all-snoc, all_same}

-- what is left of a list when i of n are passed: all of it holds if each does, and fails if one does
module _ (t rest : ℕ → Bool) (n : ℕ) (next : (i : ℕ) → i < n → t i ≡ true → rest i ≡ rest (i + 1)) (fails : (i : ℕ) → i < n → t i ≡ false → rest i ≡ false) (done : rest n ≡ true) where
  ends : (d i : ℕ) → i + d ≡ n → ((k : ℕ) → 0 ≤ k → k < n → t k ≡ true) → rest i ≡ true
  ends zero i e h = let j : i ≡ n = omega arith in ap rest j ∙ done
  ends (suc d) i e h = next i (omega arith) (h i (omega arith) (omega arith)) ∙ ends d (i + 1) (omega arith) h

  stops : (d i k : ℕ) → i + d ≡ k → k < n → t k ≡ false → rest i ≡ false
  stops zero i k e l z = let j : i ≡ k = omega arith in fails i (omega arith) (ap t j ∙ z)
  stops (suc d) i k e l z = by_cases (t i) (λ y. next i (omega arith) y ∙ stops d (i + 1) k (omega arith) l z) (fails i (omega arith))

  pub tells_rest : (r : Bool) → Tells t 0 n r → r ≡ rest 0
  tells_rest true h = sym (ends n 0 (omega arith) h)
  tells_rest false h = sym (stops h.0 0 h.0 (omega arith) h.2 h.3)

-- `fold` by `|`: what is gathered is 0 just where t holds of each item
pub gathered : {S A F : Type 0} (steps : S → Option A → S → Type 0) (v : A → ℕ) (g : Mut F (ℕ × (A × Unit {0})) ℕ) (f : F) (t : ℕ → Bool) (s : S) (xs : List ℕ) (r : ℕ)
    → AlwaysYields steps v s xs
    → ((a : ℕ) (x : A) (z : ℕ) (h : F) → Called g f (a, (x, tt)) z h → (eqb z 0 ≡ eqb a 0 && t (v x)) × (h ≡ f))
    → (zs : List A) × (h : F) × Drains steps s zs × FoldsTo {P = F × ℕ} (λ p x q. Called g p.0 (p.1, (x, tt)) q.1 q.0) (f, 0) zs (h, r)
    → eqb r 0 ≡ all t xs
unfolding all
gathered steps v g f t s xs r y says w =
    fold_over steps v g (λ ys a. eqb a 0 ≡ all t ys) f
    (λ ys a x z h j c. let k = says a x z h c in (k.0 ∙ ap (λ (u : Bool). u && t (v x)) j ∙ sym (all-snoc t ys (v x)), k.1))
    s xs 0 r y refl w

-- the numbers 0 to n - 1, and the numbers 1 to n less 1
pub tells_below : (t : ℕ → Bool) (n : ℕ) (r : Bool) → Tells t 0 n r → r ≡ all (λ d. t (d - 1)) (up_to n)
tells_below t n true h = tells_up_to (λ d. t (d - 1)) n true (λ k lo hi. h (k - 1) (omega arith) (omega arith))
tells_below t n false h =
    let e : h.0 + 1 - 1 ≡ h.0 = omega arith in
    tells_up_to (λ d. t (d - 1)) n false (h.0 + 1, omega arith, omega (arith, h.2), ap t e ∙ h.3)

all-numbers : (t : ℕ → Bool) (s n : ℕ) → all t (range_with_len s n) ≡ all (λ d. t (d - 1)) (numbers (suc s) n)
unfolding all numbers
all-numbers t s zero = refl
all-numbers t s (suc n) =
    let e : s ≡ suc s - 1 = omega arith in
    ap₂ ◌&&◌ (ap t e) (all-numbers t (s + 1) n ∙ ap (λ k. all (λ d. t (d - 1)) (numbers (suc k) n)) (add-one s))

pub all-below : (t : ℕ → Bool) (n : ℕ) → all t (range_with_len 0 n) ≡ all (λ d. t (d - 1)) (up_to n)
all-below t n = all-numbers t 0 n ∙ ap (all (λ d. t (d - 1))) (sym (up_to-numbers n))

-- the first i of a list, each by its index
pub all-take : (t : ℕ → Bool) (xs : List ℕ) (i : ℕ) → i ≤ length xs → all t (take i xs) ≡ all (λ d. t (get_or xs (d - 1) 0)) (up_to i)
unfolding all up_to
all-take t xs zero h = refl
all-take t xs (suc i) h =
    let e : i ≡ suc i - 1 = omega arith in
    ap (all t) (take-suc xs i 0 (omega arith)) ∙ all-snoc t (take i xs) (get_or xs i 0)
    ∙ ap₂ ◌&&◌ (all-take t xs i (omega arith)) (ap (λ j. t (get_or xs j 0)) e)
    ∙ sym (all-snoc (λ d. t (get_or xs (d - 1) 0)) (up_to i) (suc i))

-- two tests that agree on bytes agree on a part of a list of bytes
pub all-bytes : (p q : ℕ → Bool) (o n : ℕ) (b : List ℕ) → ((i : ℕ) → get_or b i 0 < 256) → ((x : ℕ) → x < 256 → p x ≡ q x) → all p (part o n b) ≡ all q (part o n b)
all-bytes p q o n b small h =
    all_same p q (part o n b) (λ x k. h x (ltb-true x 256 (all-has (λ y. ltb y 256) (part o n b) x (get-all (λ y. ltb y 256) (part o n b) (λ i. lt-ltb (get_or (part o n b) i 0) 256 (at i))) k)))
  where
    at : (i : ℕ) → get_or (part o n b) i 0 < 256
    at i =
        by_cases (ltb i n)
        (λ t. let e = get_or-take n (drop o b) i 0 (ltb-true i n t) ∙ get_or-drop o b i 0 in omega (arith, e, small (o + i)))
        (λ t. let e = get_or-eq_default (part o n b) 0 {n = i} (omega (arith, length-take n (drop o b), ltb-false i n t)) in omega (arith, e))
