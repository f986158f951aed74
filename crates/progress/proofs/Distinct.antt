-- Lists that name nothing twice: within 1 to n such a list has at most n places.
-- Assumes nothing.
use Prim.Native.Nat.{ℕ, zero, suc, ◌+◌, ◌≤◌, ◌<◌}
use native.Mathlib.Omega.{arith}
use mathlib.Core.Path.{◌≡◌, refl, sym, ap, ◌∙◌}
use mathlib.Core.Logic.{⊎_elim}
use mathlib.Core.Bool.{Bool, true, false, ◌||◌}
use mathlib.Core.List.{List, [], ◌∷◌}
use lib.Dec.{eqb}
use lib.ListN.{length}
use borrow.Author.Tests.{eq-eqb}
use Rattle.base.specs.Lists.{has, count_of}
use Rattle.base.specs.Numbers.{numbers}
use Rattle.base.proofs.Bools.{true-or-false, not-both, or_left, or_right}
use Rattle.base.proofs.ListsLaws.{has-head, has-later, has-cons}
use Rattle.base.proofs.UpdateLaws.{same?}
use Rattle.model.specs.Hall.{Entries}
use Rattle.model.proofs.Ordering.Labels.{InRow, TidyAfter}
use Rattle.model.proofs.Agreement.Arrival.{row_in}

-- xs names nothing twice
abbrev pub Distinct : List ℕ → Type 0
Distinct [] = Unit {0}
Distinct (x ∷ xs) = (has xs x ≡ false) × Distinct xs

-- ## Counts

-- what count_of adds for one element
abbrev one : Bool → ℕ
one t = elim t [ true ↦ 1 | false ↦ 0 ]

one-most : (t : Bool) → one t ≤ 1
one-most true = omega arith
one-most false = omega arith

count_most : (f : ℕ → Bool) (s n : ℕ) → count_of f (numbers s n) ≤ n
unfolding numbers count_of
count_most f s zero = omega arith
count_most f s (suc n) = omega (arith, count_most f (suc s) n, one-most (f s))

-- f holds nowhere but where g does
module _ (f g : ℕ → Bool) (more : (x : ℕ) → f x ≡ true → g x ≡ true) where
  one-still : (x : ℕ) → one (f x) ≤ one (g x)
  one-still x = go (f x) (g x) (more x)
    where
      go : (s t : Bool) → (s ≡ true → t ≡ true) → one s ≤ one t
      go true true k = omega arith
      go true false k = absurd (not-both (k refl) refl)
      go false true k = omega arith
      go false false k = omega arith

  count-still : (s n : ℕ) → count_of f (numbers s n) ≤ count_of g (numbers s n)
  unfolding numbers count_of
  count-still s zero = omega arith
  count-still s (suc n) = omega (arith, count-still (suc s) n, one-still s)

  -- and g holds at a place where f does not
  count-more : (x : ℕ) → f x ≡ false → g x ≡ true → (s n : ℕ) → s ≤ x → x < s + n
      → 1 + count_of f (numbers s n) ≤ count_of g (numbers s n)
  unfolding numbers count_of
  count-more x no-f is-g s zero low high = absurd (omega arith)
  count-more x no-f is-g s (suc n) low high =
      ⊎_elim
      (λ e.
      omega (
        arith,
        count-still (suc s) n,
        ap one (ap f (sym e) ∙ no-f),
        ap one (ap g (sym e) ∙ is-g),
      ))
      (λ ne. omega (arith, count-more x no-f is-g (suc s) n (omega arith) (omega arith), one-still s))
      (same? x s)

distinct-counted : (n : ℕ) (xs : List ℕ) → Distinct xs → ((x : ℕ) → has xs x ≡ true → (1 ≤ x) × (x ≤ n))
    → length xs ≤ count_of (has xs) (numbers 1 n)
distinct-counted n [] d inside = omega arith
distinct-counted n (x ∷ xs) d inside =
    let at = inside x (has-head x xs) in
    let ih = distinct-counted n xs d.1 (λ y m. inside y (has-later x xs y m)) in
    omega (
      arith,
      count-more (has xs) (has (x ∷ xs)) (has-later x xs) x d.0 (has-head x xs) 1 n at.0 (omega (arith, at.1)),
    )

-- a list within 1 to n that names nothing twice has at most n places
pub distinct-length : (n : ℕ) (xs : List ℕ) → Distinct xs → ((x : ℕ) → has xs x ≡ true → (1 ≤ x) × (x ≤ n)) → length xs ≤ n
distinct-length n xs d inside = omega (arith, distinct-counted n xs d inside, count_most (has xs) 1 n)

-- ## Lists of entries

-- a tidy list names none of the entries seen before it
tidy-unseen : (es : Entries) (seen : ℕ → Bool) (xs : List ℕ) (x : ℕ) → TidyAfter es seen xs → seen x ≡ true → has xs x ≡ false
unfolding has
tidy-unseen es seen [] x t s = refl
tidy-unseen es seen (y ∷ xs) x t s =
    ⊎_elim
    (λ m.
    absurd
    (⊎_elim
    (λ e. not-both s (ap seen e ∙ t.0))
    (λ l. not-both l (tidy-unseen es (λ e. seen e || eqb e y) xs x t.2 (or_left (seen x) (eqb x y) s)))
    (has-cons y xs x m)))
    (λ f. f)
    (true-or-false (has (y ∷ xs) x))

pub tidy-distinct : (es : Entries) (seen : ℕ → Bool) (xs : List ℕ) → TidyAfter es seen xs → Distinct xs
tidy-distinct es seen [] t = tt
tidy-distinct es seen (x ∷ xs) t =
    let seen' : ℕ → Bool = λ e. seen e || eqb e x in
    (tidy-unseen es seen' xs x t.2 (or_right (seen x) (eqb x x) (eq-eqb x x refl)), tidy-distinct es seen' xs t.2)

-- a row of labels names none twice
pub row-distinct : (es : Entries) (p g k : ℕ) (xs : List ℕ) → InRow es p g k xs → Distinct xs
row-distinct es p g k [] row = tt
row-distinct es p g k (x ∷ xs) row = (
  ⊎_elim (λ m. absurd (omega (arith, row.0.2, (row_in es p g (suc k) xs x row.1 m).2))) (λ f. f) (true-or-false (has xs x)),
  row-distinct es p g (suc k) xs row.1,
)
