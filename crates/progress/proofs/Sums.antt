-- Sums over the elements of a list.
-- Assumes nothing.
use Prim.Native.Nat.{ℕ, ◌+◌, ◌*◌, ◌≤◌}
use native.Mathlib.Omega.{arith}
use native.Mathlib.Nat.{suc-mul}
use mathlib.Core.Path.{◌≡◌, refl, sym, ap₂, ◌∙◌, subst}
use mathlib.Core.Logic.{⊎_elim}
use mathlib.Core.Bool.{true}
use mathlib.Core.List.{List, [], ◌∷◌}
use lib.ListN.{length}
use Rattle.base.specs.Lists.{has, rising}
use Rattle.base.proofs.ListsLaws.{has-head, has-later, has-cons, has-none, rising-cons}
use Rattle.base.proofs.Filters.{rising-head}

-- the sum of f x for x in xs
unfoldable pub sum : (ℕ → ℕ) → List ℕ → ℕ
sum f [] = 0
sum f (x ∷ xs) = f x + sum f xs

pub sum_same : (f k : ℕ → ℕ) (xs : List ℕ) → ((x : ℕ) → has xs x ≡ true → f x ≡ k x) → sum f xs ≡ sum k xs
unfolding sum
sum_same f k [] same = refl
sum_same f k (x ∷ xs) same = ap₂ ◌+◌ (same x (has-head x xs)) (sum_same f k xs (λ y m. same y (has-later x xs y m)))

-- at one element of a rising list the one falls by 1 to the other, and elsewhere they agree: so does the sum
pub sum-falls : (f k : ℕ → ℕ) (r a : ℕ) (xs : List ℕ) → rising a xs ≡ true → has xs r ≡ true → f r ≡ k r + 1
    → ((x : ℕ) → (x ≡ r → ⊥) → f x ≡ k x) → sum f xs ≡ sum k xs + 1
unfolding sum
sum-falls f k r a [] rises m here other = absurd (has-none r m)
sum-falls f k r a (x ∷ xs) rises m here other =
    ⊎_elim
    (λ e.
    let at : f x ≡ k x + 1 = subst (λ z. f z ≡ k z + 1) e here in
    let tail = sum_same f k xs (λ y n. other y (λ s. rising-head a x xs rises y n (s ∙ e))) in
    omega arith)
    (λ later.
    let at = other x (λ s. rising-head a x xs rises r later (sym s)) in
    let tail = sum-falls f k r x xs ((rising-cons a x xs).0 rises).1 later here other in
    omega arith)
    (has-cons x xs r m)

-- each value at most n, or at least
pub sum-most : (f : ℕ → ℕ) (n : ℕ) (xs : List ℕ) → ((x : ℕ) → has xs x ≡ true → f x ≤ n) → sum f xs ≤ length xs * n
unfolding sum
sum-most f n [] most = omega arith
sum-most f n (x ∷ xs) most =
    omega (arith, suc-mul (length xs) n, most x (has-head x xs), sum-most f n xs (λ y m. most y (has-later x xs y m)))

pub sum-least : (f : ℕ → ℕ) (n : ℕ) (xs : List ℕ) → ((x : ℕ) → has xs x ≡ true → n ≤ f x) → length xs * n ≤ sum f xs
unfolding sum
sum-least f n [] least = omega arith
sum-least f n (x ∷ xs) least =
    omega (arith, suc-mul (length xs) n, least x (has-head x xs), sum-least f n xs (λ y m. least y (has-later x xs y m)))
