-- What a fold over bytes gathers, by `|` or by `&`. Assumes nothing.
use Prim.Native.Nat.{ℕ}
use native.Mathlib.Omega.{arith}
use mathlib.Core.Path.{◌≡◌, refl, sym, ap, ◌∙◌}
use mathlib.Core.Bool.{Bool, true, false, ◌&&◌, and_assoc, and-true}
use mathlib.Core.List.{List, [], ◌∷◌}
use lib.Dec.{eqb, leb}
use lib.Bits.{bit_or, or_add_and, and_le_l, and_le_r}
use borrow.Author.Tests.{eqb-true, eqb-false, eq-eqb, ne_eqb}
use Rattle.std.specs.List.{fold}
use Rattle.codec.specs.Bytes.{all_zero}
use Rattle.codec.specs.Number.{between}
use Rattle.codec.specs.ByteList.{all_in}

-- the or of two numbers is 0 just where both are
pub or-zero : (a b : ℕ) → eqb (bit_or a b) 0 ≡ eqb a 0 && eqb b 0
or-zero a b = go (eqb a 0) (eqb b 0) refl refl
  where
    both : a ≡ 0 → b ≡ 0 → bit_or a b ≡ 0
    both p q = omega (arith, or_add_and a b)

    left : bit_or a b ≡ 0 → a ≡ 0
    left e = omega (arith, or_add_and a b, and_le_r a b)

    right : bit_or a b ≡ 0 → b ≡ 0
    right e = omega (arith, or_add_and a b, and_le_l a b)

    go : (s t : Bool) → eqb a 0 ≡ s → eqb b 0 ≡ t → eqb (bit_or a b) 0 ≡ s && t
    go true true p q = eq-eqb (bit_or a b) 0 (both (eqb-true a 0 p) (eqb-true b 0 q))
    go true false p q = ne_eqb (bit_or a b) 0 (λ e. eqb-false b 0 q (right e))
    go false t p q = ne_eqb (bit_or a b) 0 (λ e. eqb-false a 0 p (left e))

-- the or of bytes is 0 just where each is
pub fold-or : (xs : List ℕ) (a : ℕ) → eqb (fold bit_or a xs) 0 ≡ eqb a 0 && all_zero xs
unfolding all_zero
fold-or [] a = sym (and-true (eqb a 0))
fold-or (x ∷ xs) a =
    fold-or xs (bit_or a x)
    ∙ ap (λ (t : Bool). t && all_zero xs) (or-zero a x)
    ∙ and_assoc (eqb a 0) (eqb x 0) (all_zero xs)

-- the and of the bytes' tests holds just where each byte is in lo .. hi
pub fold-between : (lo hi : ℕ) (xs : List ℕ) (a : Bool) → fold (λ t x. (t && leb lo x) && leb x hi) a xs ≡ a && all_in lo hi xs
unfolding all_in
fold-between lo hi [] a = sym (and-true a)
fold-between lo hi (x ∷ xs) a =
    fold-between lo hi xs ((a && leb lo x) && leb x hi)
    ∙ ap (λ (t : Bool). t && all_in lo hi xs) (and_assoc a (leb lo x) (leb x hi))
    ∙ and_assoc a (between lo hi x) (all_in lo hi xs)
