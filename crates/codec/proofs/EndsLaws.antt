-- Laws of specs/Ends. Assumes nothing.
use Prim.Native.Nat.{ℕ, zero, suc, ◌-◌, ◌<◌}
use native.Mathlib.Omega.{arith}
use mathlib.Core.Path.{◌≡◌, refl, sym, ap, ◌∙◌}
use mathlib.Core.List.{List, [], ◌∷◌}
use mathlib.Core.Option.{none, some}
use lib.ListN.{length, get_or, take, drop}
use Rattle.codec.specs.declared.ByteList.{ByteList}
use Rattle.codec.specs.ByteList.{items, list_capacity}
use Rattle.codec.specs.Ends.{first_of}

module _ (l : ByteList) (full : length l.places ≡ list_capacity) where
  pub first-none : l.len ≡ 0 → first_of (items l) ≡ none
  unfolding first_of
  first-none e = ap (λ (n : ℕ). first_of (take n l.places)) e

  pub first_some : 0 < l.len → first_of (items l) ≡ some (get_or l.places 0 0)
  unfolding first_of
  first_some h = go l.places l.len h (omega arith)
    where
      go : (xs : List ℕ) (n : ℕ) → 0 < n → 0 < length xs → first_of (take n xs) ≡ some (get_or xs 0 0)
      go [] n h k = absurd (omega arith)
      go (x ∷ xs) zero h k = absurd (omega arith)
      go (x ∷ xs) (suc n) h k = refl

-- without the first byte: the later ones, one place earlier
pub popped : (xs : List ℕ) (n : ℕ) → 0 < n → take (n - 1) (drop 1 xs) ≡ drop 1 (take n xs)
popped xs zero h = absurd (omega arith)
popped [] (suc n) h = let e : suc n - 1 ≡ n = omega arith in ap (λ (m : ℕ). take m []) e ∙ none-taken n
  where
    none-taken : (n : ℕ) → ◌≡◌ {A = List ℕ} (take n []) []
    none-taken zero = refl
    none-taken (suc n) = refl
popped (x ∷ xs) (suc n) h =
    let e : suc n - 1 ≡ n = omega arith in
    ap (λ (m : ℕ). take m xs) e

-- ## What the first element tells of the list

no_value : {x : ℕ} → none ≡ some x → ⊥
no_value r = let z : ◌≡◌ {A = ℕ} 0 1 = cc in omega arith

pub first-lacks : (xs : List ℕ) → first_of xs ≡ none → xs ≡ []
unfolding first_of
first-lacks [] e = refl
first-lacks (x ∷ xs) e = absurd (no_value (sym e))

pub first-stands : (xs : List ℕ) (x : ℕ) → first_of xs ≡ some x → xs ≡ x ∷ drop 1 xs
unfolding first_of
first-stands [] x e = absurd (no_value e)
first-stands (y ∷ ys) x e = let q : y ≡ x = cc in ap (λ (z : ℕ). z ∷ ys) q

pub list-waits : (l : ByteList) (x : ℕ) → first_of (items l) ≡ some x → 0 < l.len
unfolding first_of
list-waits l x e = go l.len e
  where
    go : (n : ℕ) → first_of (take n l.places) ≡ some x → 0 < n
    go zero e = absurd (no_value e)
    go (suc n) e = omega arith
