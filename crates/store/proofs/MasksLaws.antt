-- The mask of a set and its members determine each other: a rising list within 1 to n is the members of its mask.
-- Assumes nothing.
use Prim.Native.Nat.{ℕ, suc, ◌+◌, ◌-◌, ◌*◌, ◌^◌, ◌≤◌, ◌<◌}
use native.Mathlib.Omega.{arith}
use native.Mathlib.Nat.{eq_of_mul-eq-mul_left, mul-add, mul_assoc, mul-one, pow-suc}
use mathlib.Core.Path.{◌≡◌, refl, sym, ap, ap₂, ◌∙◌}
use mathlib.Core.Bool.{true}
use mathlib.Core.List.{List, [], ◌∷◌}
use lib.Pow.{pow_pos, pow_mono, pow-add}
use Rattle.base.specs.Lists.{has, rising}
use Rattle.base.proofs.ListsLaws.{has-head, has-later, rising-cons}
use Rattle.quorum.specs.Sets.{members, mask}
use Rattle.quorum.proofs.SetLaws.{rising-members, mask-members, members-range}
use Rattle.codec.specs.Number.{number, byte}
use Rattle.codec.proofs.FormLaws.{Lawful, mapped-lawful}
use Rattle.codec.proofs.NumberLaws.{byte-lawful}
use Rattle.store.specs.Masks.{SetOf, ViewSet, set_form}

-- a list above a has the lowest a bits clear
mask-multiple : (a : ℕ) (xs : List ℕ) → rising a xs ≡ true → (m : ℕ) × (mask xs ≡ 2 ^ a * m)
unfolding mask
mask-multiple a [] r = (0, omega arith)
mask-multiple a (x ∷ xs) r =
    let both = (rising-cons a x xs).0 r in
    let later = mask-multiple x xs both.1 in
    let e : x - 1 ≡ a + (x - 1 - a) = omega (arith, both.0) in
    let f : x ≡ a + (x - a) = omega (arith, both.0) in (
      2 ^ (x - 1 - a) + 2 ^ (x - a) * later.0,
      ap₂ ◌+◌ (ap (λ (k : ℕ). 2 ^ k) e ∙ pow-add 2 a (x - 1 - a))
          (later.1 ∙ ap (λ (k : ℕ). 2 ^ k * later.0) f ∙ ap (λ (k : ℕ). k * later.0) (pow-add 2 a (x - a)) ∙ mul_assoc (2 ^ a) (2 ^ (x - a)) later.0)
          ∙ sym (mul-add (2 ^ a) (2 ^ (x - 1 - a)) (2 ^ (x - a) * later.0)),
    )

-- the first element is the lowest bit
mask-cons : (a x : ℕ) (xs : List ℕ) → rising a (x ∷ xs) ≡ true → (m : ℕ) × (mask (x ∷ xs) ≡ 2 ^ (x - 1) * (1 + 2 * m))
unfolding mask
mask-cons a x xs r =
    let both = (rising-cons a x xs).0 r in
    let later = mask-multiple x xs both.1 in
    let e : x ≡ suc (x - 1) = omega (arith, both.0) in (
      later.0,
      ap (λ (z : ℕ). 2 ^ (x - 1) + z)
          (later.1 ∙ ap (λ (k : ℕ). 2 ^ k * later.0) e ∙ ap (λ (k : ℕ). k * later.0) (pow-suc 2 (x - 1)) ∙ mul_assoc (2 ^ (x - 1)) 2 later.0)
          ∙ ap (λ (z : ℕ). z + 2 ^ (x - 1) * (2 * later.0)) (sym (mul-one (2 ^ (x - 1))))
          ∙ sym (mul-add (2 ^ (x - 1)) 1 (2 * later.0)),
    )

-- so lists with different first elements have different masks
no_less : (a x y : ℕ) (xs ys : List ℕ) → rising a (x ∷ xs) ≡ true → rising a (y ∷ ys) ≡ true → x < y → mask (x ∷ xs) ≡ mask (y ∷ ys) → ⊥
no_less a x y xs ys r s l e =
    let p = mask-cons a x xs r in
    let q = mask-multiple x (y ∷ ys) ((rising-cons x y ys).1 (l, ((rising-cons a y ys).0 s).1)) in
    let f : x ≡ suc (x - 1) = omega (arith, ((rising-cons a x xs).0 r).0) in
    let g : 2 ^ (x - 1) * (1 + 2 * p.0) ≡ 2 ^ (x - 1) * (2 * q.0) =
    sym p.1 ∙ e ∙ q.1 ∙ ap (λ (k : ℕ). 2 ^ k * q.0) f ∙ ap (λ (k : ℕ). k * q.0) (pow-suc 2 (x - 1)) ∙ mul_assoc (2 ^ (x - 1)) 2 q.0 in
    omega (arith, eq_of_mul-eq-mul_left (2 ^ (x - 1)) (pow_pos (x - 1)) (1 + 2 * p.0) (2 * q.0) g)

mask-positive : (x : ℕ) (xs : List ℕ) → 0 < mask (x ∷ xs)
unfolding mask
mask-positive x xs = omega (arith, pow_pos (x - 1))

-- two rising lists with one mask are equal
pub mask-injective : (a : ℕ) (xs ys : List ℕ) → rising a xs ≡ true → rising a ys ≡ true → mask xs ≡ mask ys → xs ≡ ys
unfolding mask
mask-injective a [] [] r s e = refl
mask-injective a [] (y ∷ ys) r s e = absurd (omega (arith, mask-positive y ys, e))
mask-injective a (x ∷ xs) [] r s e = absurd (omega (arith, mask-positive x xs, e))
mask-injective a (x ∷ xs) (y ∷ ys) r s e =
    same first (mask-injective x xs ys ((rising-cons a x xs).0 r).1)
  where
    first : x ≡ y
    first =
        let p : x < y → ⊥ = λ l. no_less a x y xs ys r s l e in
        let q : y < x → ⊥ = λ l. no_less a y x ys xs s r l (sym e) in
        omega arith

    same : x ≡ y → (rising x ys ≡ true → mask xs ≡ mask ys → xs ≡ ys) → x ∷ xs ≡ y ∷ ys
    same f g =
        let up : rising x ys ≡ true = ap (λ (z : ℕ). rising z ys) f ∙ ((rising-cons a y ys).0 s).1 in
        let rest : mask xs ≡ mask ys = omega (arith, ap (λ (z : ℕ). 2 ^ (z - 1)) f) in
        ap₂ ◌∷◌ f (g up rest)

-- a list within 1 to n has its mask in n bits
mask_below : (a n : ℕ) (xs : List ℕ) → a ≤ n → rising a xs ≡ true → ((x : ℕ) → has xs x ≡ true → x ≤ n) → mask xs + 2 ^ a ≤ 2 ^ n
unfolding mask
mask_below a n [] l r h = omega (arith, pow_mono l)
mask_below a n (x ∷ xs) l r h =
    let both = (rising-cons a x xs).0 r in
    let later = mask_below x n xs (h x (has-head x xs)) both.1 (λ y k. h y (has-later x xs y k)) in
    let e : x ≡ suc (x - 1) = omega (arith, both.0) in
    let two : 2 ^ x ≡ 2 ^ (x - 1) * 2 = ap (λ (k : ℕ). 2 ^ k) e ∙ pow-suc 2 (x - 1) in
    let low : 2 ^ a ≤ 2 ^ (x - 1) = pow_mono (omega (arith, both.0)) in
    omega arith

pub mask_lt : (n : ℕ) (xs : List ℕ) → SetOf n xs → mask xs < 2 ^ n
mask_lt n xs h = omega (arith, mask_below 0 n xs (omega arith) h.0 (λ x k. (h.1 x k).1))

pub members-mask : (n : ℕ) (xs : List ℕ) → SetOf n xs → members n (mask xs) ≡ xs
members-mask n xs h =
    mask-injective 0 (members n (mask xs)) xs (rising-members n (mask xs)) h.0 (mask-members n (mask xs) (mask_lt n xs h))

pub set-lawful : (n : ℕ) → n ≤ 8 → Lawful (set_form n)
unfolding set_form number mask
set-lawful n h =
    mapped-lawful (byte 1 (2 ^ n - 1)) (members n) mask (ViewSet n) (byte-lawful 1 (2 ^ n - 1) (omega (arith, pow_mono h)))
    (record { to-ok = within; from-ok = range; to-from = λ xs k. members-mask n xs k.0; from-to = λ b k. mask-members n b (below b k) })
  where
    below : (b : ℕ) → (1 ≤ b) × (b ≤ 2 ^ n - 1) → b < 2 ^ n
    below b k = omega (arith, pow_pos n)

    within : (b : ℕ) → (1 ≤ b) × (b ≤ 2 ^ n - 1) → ViewSet n (members n b)
    within b k = (
      (rising-members n b, λ x m. members-range n b x m),
      λ e. omega (arith, mask-members n b (below b k), ap mask e),
    )

    range : (xs : List ℕ) → ViewSet n xs → (1 ≤ mask xs) × (mask xs ≤ 2 ^ n - 1)
    range [] k = absurd (k.1 refl)
    range (x ∷ xs) k =
        let p = mask-positive x xs in
        let l = mask_lt n (x ∷ xs) k.0 in
        omega arith
