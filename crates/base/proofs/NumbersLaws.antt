-- Laws of ranges of numbers.
-- Assumes nothing.
use Prim.Native.Nat.{ℕ, suc, ◌≤◌, ◌<◌, zero, ◌+◌, ◌-◌}
use native.Mathlib.Nat.{not-suc-le-zero, le_of_suc-le-suc}
use native.Mathlib.Omega.{arith}
use mathlib.Core.Path.{◌≡◌, refl, sym, ap, ap₂, ◌∙◌}
use mathlib.Core.Bool.{Bool, true, false≢true}
use mathlib.Core.List.{List, [], ◌∷◌, ◌++◌, map}
use lib.Dec.{eqb, leb}
use borrow.Author.Tests.{eqb-true, eqb-false, leb-true}
use lib.ListN.{length, get_or}
use Rattle.base.specs.Lists.{filter, has, rising}
use Rattle.base.specs.Numbers.{within, up_to, numbers}
use Rattle.base.proofs.Bools.{and_both, by_cases}
use Rattle.base.proofs.ListsLaws.{in-filter, rising-cons, rising-append}

pub within_both : (low high x : ℕ) → within low high x ≡ true → (low ≤ x) × (x ≤ high)
unfolding within
within_both low high x e =
    let both = and_both (leb low x) (leb x high) e in
    (leb-true low x both.0, leb-true x high both.1)

-- ## n numbers from s on

pub length-numbers : (s n : ℕ) → length (numbers s n) ≡ n
unfolding numbers
length-numbers s zero = refl
length-numbers s (suc n) = ap suc (length-numbers (suc s) n)

-- one number more
pub numbers-snoc : (s n : ℕ) → numbers s (suc n) ≡ numbers s n ++ ((s + n) ∷ [])
unfolding numbers
numbers-snoc s zero =
    let e : s ≡ s + 0 = omega arith in
    ap (λ (j : ℕ). j ∷ []) e
numbers-snoc s (suc n) =
    let e : suc s + n ≡ s + suc n = omega arith in
    ap (λ (z : List ℕ). s ∷ z) (numbers-snoc (suc s) n ∙ ap (λ (j : ℕ). numbers (suc s) n ++ (j ∷ [])) e)

pub has-numbers : (s n j : ℕ) → s ≤ j → j < s + n → has (numbers s n) j ≡ true
unfolding has numbers
has-numbers s zero j h l = absurd (below h l)
  where
    below : s ≤ j → j < s + 0 → ⊥
    below h l = omega arith
has-numbers s (suc n) j h l =
    by_cases (eqb j s) (λ e. rw (e, has)) (λ e. rw (e, has) (has-numbers (suc s) n j (more (eqb-false j s e)) (omega arith)))
  where
    more : (j ≡ s → ⊥) → suc s ≤ j
    more ne = omega arith

pub numbers-range : (s n j : ℕ) → has (numbers s n) j ≡ true → (s ≤ j) × (j < s + n)
unfolding has numbers
numbers-range s zero j h = absurd (false≢true h)
numbers-range s (suc n) j h =
    by_cases (eqb j s) (λ e. first (eqb-true j s e)) (λ e. later (numbers-range (suc s) n j (rw (e, has) at h)))
  where
    first : j ≡ s → (s ≤ j) × (j < s + suc n)
    first e = omega arith

    later : (suc s ≤ j) × (j < suc s + n) → (s ≤ j) × (j < s + suc n)
    later r = omega arith

-- ## 1 to n

-- counted from the front or from the end, it is one list
pub up_to-numbers : (n : ℕ) → up_to n ≡ numbers 1 n
unfolding up_to numbers
up_to-numbers zero = refl
up_to-numbers (suc n) =
    let e : suc n ≡ 1 + n = omega arith in
    ap₂ (λ (l : List ℕ) (k : ℕ). l ++ (k ∷ [])) (up_to-numbers n) e ∙ sym (numbers-snoc 1 n)

pub has-up_to : (n k : ℕ) → 1 ≤ k → k ≤ n → has (up_to n) k ≡ true
has-up_to n k low high = ap (λ (l : List ℕ). has l k) (up_to-numbers n) ∙ has-numbers 1 n k low (omega arith)

pub up_to-range : (n k : ℕ) → has (up_to n) k ≡ true → (1 ≤ k) × (k ≤ n)
up_to-range n k h =
    let r = numbers-range 1 n k (sym (ap (λ (l : List ℕ). has l k) (up_to-numbers n)) ∙ h) in
    omega arith

-- a test that drops none of 1 to n holds of each
pub all-up_to : (p : ℕ → Bool) (n : ℕ) → filter p (up_to n) ≡ up_to n → (k : ℕ) → 1 ≤ k → k ≤ n → p k ≡ true
all-up_to p n e k low high =
    ((in-filter p (up_to n) k).0 (ap (λ (l : List ℕ). has l k) e ∙ has-up_to n k low high)).1

-- number k of what a function gives on them
get-numbers : {A : Type 0} (f : ℕ → A) (s n i : ℕ) (d : A) → i < n → get_or (map f (numbers s n)) i d ≡ f (s + i)
unfolding numbers
get-numbers f s zero i d h = absurd (not-suc-le-zero h)
get-numbers f s (suc n) zero d h =
    let e : s ≡ s + 0 = omega arith in
    ap f e
get-numbers f s (suc n) (suc i) d h =
    let e : suc s + i ≡ s + suc i = omega arith in
    get-numbers f (suc s) n i d (le_of_suc-le-suc h) ∙ ap f e

pub get-up_to : {A : Type 0} (f : ℕ → A) (n k : ℕ) (d : A) → 1 ≤ k → k ≤ n → get_or (map f (up_to n)) (k - 1) d ≡ f k
get-up_to f n k d low high =
    let e : 1 + (k - 1) ≡ k = omega arith in
    ap (λ (xs : List ℕ). get_or (map f xs) (k - 1) d) (up_to-numbers n) ∙ get-numbers f 1 n (k - 1) d (omega arith) ∙ ap f e

pub rising-up_to : (n : ℕ) → rising 0 (up_to n) ≡ true
unfolding up_to rising
rising-up_to zero = refl
rising-up_to (suc n) =
    rising-append 0 n (up_to n) (suc n ∷ []) (omega arith) (λ x h. (up_to-range n x h).1) (rising-up_to n)
    ((rising-cons n (suc n) []).1 (omega arith, refl))
