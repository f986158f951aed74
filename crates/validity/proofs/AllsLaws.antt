-- What `all` comes to on lists, and on the views from an index on. Assumes nothing.
use Prim.Native.Nat.{ℕ, suc, ◌+◌, ◌-◌, ◌*◌, ◌≤◌, ◌<◌}
use native.Mathlib.Omega.{arith}
use mathlib.Core.Path.{◌≡◌, refl, sym, ap, ap₂, ◌∙◌}
use mathlib.Core.Bool.{Bool, true, false, ◌&&◌, and_assoc, and-true}
use mathlib.Core.List.{List, [], ◌∷◌, ◌++◌}
use Rattle.base.specs.Lists.{has, all}
use Rattle.base.proofs.ListsLaws.{has-head, has-later}
use Rattle.store.specs.Layout.{view_size, view_cells}
use Rattle.ranges.specs.TableParts.{view_numbers, view_at}

-- two tests that agree on a list
pub all_same : (p q : ℕ → Bool) (xs : List ℕ) → ((x : ℕ) → has xs x ≡ true → p x ≡ q x) → all p xs ≡ all q xs
unfolding all
all_same p q [] h = refl
all_same p q (x ∷ xs) h = ap₂ ◌&&◌ (h x (has-head x xs)) (all_same p q xs (λ y k. h y (has-later x xs y k)))

module _ (p : ℕ → Bool) where
  all_append : (xs ys : List ℕ) → all p (xs ++ ys) ≡ all p xs && all p ys
  unfolding all
  all_append [] ys = refl
  all_append (x ∷ xs) ys = ap (λ (t : Bool). p x && t) (all_append xs ys) ∙ sym (and_assoc (p x) (all p xs) (all p ys))

  pub all-snoc : (xs : List ℕ) (x : ℕ) → all p (xs ++ (x ∷ [])) ≡ all p xs && p x
  unfolding all
  all-snoc xs x = all_append xs (x ∷ []) ∙ ap (λ (t : Bool). all p xs && t) (and-true (p x))

-- the views from an index on
module _ (m : ℕ) (b : List ℕ) where
  -- their numbers, from index i on
  abbrev pub views_from : ℕ → List ℕ
  views_from i = view_numbers (m - i) (view_cells + i * view_size) b

  pub views-from : (i : ℕ) → i < m → views_from i ≡ view_at b i ∷ views_from (i + 1)
  unfolding view_numbers
  views-from i h =
      let n : m - i ≡ suc (m - (i + 1)) = omega arith in
      let o : view_cells + i * view_size + view_size ≡ view_cells + (i + 1) * view_size = omega arith in
      ap (λ (j : ℕ). view_numbers j (view_cells + i * view_size) b) n ∙ ap (λ (j : ℕ). view_at b i ∷ view_numbers (m - (i + 1)) j b) o

  pub views-all : view_numbers m 2 b ≡ views_from 0
  views-all =
      let e : m - 0 ≡ m = omega arith in
      ap (λ (j : ℕ). view_numbers j 2 b) (sym e)

  pub views-end : (i : ℕ) → m ≤ i → views_from i ≡ []
  unfolding view_numbers
  views-end i h =
      let z : m - i ≡ 0 = omega arith in
      ap (λ (j : ℕ). view_numbers j (view_cells + i * view_size) b) z

  module _ (p : ℕ → Bool) where
    views-more : (i : ℕ) → i < m → all p (views_from i) ≡ p (view_at b i) && all p (views_from (i + 1))
    unfolding all
    views-more i h = ap (all p) (views-from i h)

    pub views-fail : (i : ℕ) → i < m → p (view_at b i) ≡ false → all p (views_from i) ≡ false
    views-fail i h e = views-more i h ∙ rw e

    pub views-next : (i : ℕ) → i < m → p (view_at b i) ≡ true → all p (views_from i) ≡ all p (views_from (i + 1))
    views-next i h e = views-more i h ∙ rw e

    pub views-none : (i : ℕ) → m ≤ i → all p (views_from i) ≡ true
    unfolding all
    views-none i h = ap (all p) (views-end i h)
