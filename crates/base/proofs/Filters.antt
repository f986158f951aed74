-- Laws of filtered, counted and mapped lists of numbers.
-- Assumes nothing.
use Prim.Native.Nat.{ℕ}
use native.Mathlib.Omega.{arith}
use mathlib.Core.Path.{◌≡◌, refl, sym, ap, ap₂, ◌∙◌, subst}
use mathlib.Core.Logic.{⊎_elim}
use mathlib.Core.Bool.{Bool, true, false, not, ◌&&◌}
use mathlib.Core.List.{List, [], ◌∷◌, ◌++◌, map}
use lib.ListN.{length}
use borrow.Author.Tests.{not-true}
use Rattle.base.specs.Lists.{filter, has, rising, count_of}
use Rattle.base.proofs.ListsLaws.{has-head, has-later, filter-in, filter-out, filter-append, in-filter, rising-cons, rising-above, rising-filter}
use Rattle.base.proofs.UpdateLaws.{same?}

pub map_same : {A : Type 0} (f k : ℕ → A) (xs : List ℕ) → ((x : ℕ) → has xs x ≡ true → f x ≡ k x) → map f xs ≡ map k xs
map_same f k [] same = refl
map_same f k (x ∷ xs) same =
    ap₂ ◌∷◌ (same x (has-head x xs)) (map_same f k xs (λ y m. same y (has-later x xs y m)))

pub filter_same : (p q : ℕ → Bool) (xs : List ℕ) → ((x : ℕ) → has xs x ≡ true → p x ≡ q x) → filter p xs ≡ filter q xs
unfolding filter
filter_same p q [] same = refl
filter_same p q (x ∷ xs) same = go (q x) refl (filter_same p q xs (λ y m. same y (has-later x xs y m)))
  where
    go : (t : Bool) → q x ≡ t → filter p xs ≡ filter q xs → filter p (x ∷ xs) ≡ filter q (x ∷ xs)
    go true e ih = filter-in p x xs (same x (has-head x xs) ∙ e) ∙ ap (λ l. x ∷ l) ih ∙ sym (filter-in q x xs e)
    go false e ih = filter-out p x xs (same x (has-head x xs) ∙ e) ∙ ih ∙ sym (filter-out q x xs e)

pub filter-true : (xs : List ℕ) → filter (λ x. true) xs ≡ xs
unfolding filter
filter-true [] = refl
filter-true (x ∷ xs) = ap (λ l. x ∷ l) (filter-true xs)

pub filter-false : (xs : List ℕ) → filter (λ x. false) xs ≡ []
unfolding filter
filter-false [] = refl
filter-false (x ∷ xs) = filter-false xs

pub filter-filter : (p q : ℕ → Bool) (xs : List ℕ) → filter q (filter p xs) ≡ filter (λ x. p x && q x) xs
unfolding filter
filter-filter p q [] = refl
filter-filter p q (x ∷ xs) = go (p x) refl (q x) refl (filter-filter p q xs)
  where
    go : (t : Bool) → p x ≡ t → (u : Bool) → q x ≡ u → filter q (filter p xs) ≡ filter (λ x. p x && q x) xs
        → filter q (filter p (x ∷ xs)) ≡ filter (λ x. p x && q x) (x ∷ xs)
    go true e true f ih = simp (filter-in, e, f) (ap (λ l. x ∷ l) ih)
    go true e false f ih = simp (filter-in, filter-out, e, f) ih
    go false e u f ih = simp (filter-out, e) ih

pub count-filter : (p : ℕ → Bool) (xs : List ℕ) → count_of p xs ≡ length (filter p xs)
unfolding count_of filter
count-filter p [] = refl
count-filter p (x ∷ xs) = go (p x) refl (count-filter p xs)
  where
    go : (t : Bool) → p x ≡ t → count_of p xs ≡ length (filter p xs) → count_of p (x ∷ xs) ≡ length (filter p (x ∷ xs))
    go true e ih = rw (e, count_of, filter-in) (omega arith)
    go false e ih = rw (e, count_of, filter-out) (omega arith)

-- a rising list has its head only once
pub rising-head : (a x : ℕ) (xs : List ℕ) → rising a (x ∷ xs) ≡ true → (y : ℕ) → has xs y ≡ true → y ≡ x → ⊥
rising-head a x xs r y m e =
    let above = rising-above x xs ((rising-cons a x xs).0 r).1 y m in
    omega arith

-- p marks the first elements of the rising list xs, and p' marks e too, the first without p
module _ (p p' : ℕ → Bool) (xs : List ℕ) (a : ℕ) (rises : rising a xs ≡ true)
    (front : xs ≡ filter p xs ++ filter (λ d. not (p d)) xs)
    (e : ℕ) (others : List ℕ) (first : filter (λ d. not (p d)) xs ≡ e ∷ others)
    (here : p' e ≡ true) (other : (d : ℕ) → (d ≡ e → ⊥) → p' d ≡ p d) where
  marked : (d : ℕ) → has (filter p xs) d ≡ true → p' d ≡ true
  marked d m = ⊎_elim (λ q. ap p' q ∙ here) (λ ne. other d ne ∙ ((in-filter p xs d).0 m).1) (same? d e)

  unmarked : (d : ℕ) → has others d ≡ true → p' d ≡ false
  unmarked d m =
      let rest = subst (λ l. rising a l ≡ true) first (rising-filter (λ d. not (p d)) a xs rises) in
      let out = ((in-filter (λ d. not (p d)) xs d).0 (ap (λ l. has l d) first ∙ has-later e others d m)).1 in
      other d (rising-head a e others rest d m) ∙ not-true (p d) out

  whole : xs ≡ filter p xs ++ (e ∷ others)
  whole = front ∙ ap (λ l. filter p xs ++ l) first

  pub filter-mark : filter p' xs ≡ filter p xs ++ (e ∷ [])
  filter-mark =
      ap (filter p') whole
      ∙ filter-append p' (filter p xs) (e ∷ others)
      ∙ ap₂ ◌++◌
      (filter_same p' (λ d. true) (filter p xs) marked ∙ filter-true (filter p xs))
      (filter-in p' e others here ∙ ap (λ l. e ∷ l) (filter_same p' (λ d. false) others unmarked ∙ filter-false others))

  pub filter-unmark : filter (λ d. not (p' d)) xs ≡ others
  filter-unmark =
      ap (filter (λ d. not (p' d))) whole
      ∙ filter-append (λ d. not (p' d)) (filter p xs) (e ∷ others)
      ∙ ap₂ ◌++◌
      (filter_same (λ d. not (p' d)) (λ d. false) (filter p xs) (λ d m. ap not (marked d m)) ∙ filter-false (filter p xs))
      (filter-out (λ d. not (p' d)) e others (ap not here)
      ∙ filter_same (λ d. not (p' d)) (λ d. true) others (λ d m. ap not (unmarked d m)) ∙ filter-true others)
