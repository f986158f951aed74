-- Laws of a difference of natural numbers as an integer, `sub_ℕ a b`: its two cases, its sign, its range, that it fits 32
-- bits, and that the machine's subtraction gives it.
-- Assumes nothing.
use Prim.Native.Nat.{ℕ, zero, suc, ◌+◌, ◌-◌, ◌^◌, ◌≤◌, ◌<◌}
use native.Mathlib.Omega.{arith}
use mathlib.Core.Path.{◌≡◌, refl, sym, ap, ap₂, subst, ◌∙◌}
use mathlib.Core.Bool.{Bool, cond}
use lib.Dec.{ltb, le→leb}
use lib.IntN.{ℤ, pos, negsuc, neg_ℤ, sub_ℕ, ◌-ℤ◌}
use lib.Signed.{lt_z, ◌≤ℤ◌, le_z_yes}
use mir.Syntax.{w32}
use mir.Val.{SFits, to_z}
use mir.Facts.{to_z_pos}
use borrow.Author.Tests.{ltb-true, ltb-false, lt-ltb, le-ltb}
use Rattle.base.proofs.Bools.{by_cases}

-- below 0, or not
sub_cases : (P : ℤ → Type 0) (a b : ℕ) → (a < b → P (negsuc (b - suc a))) → (b ≤ a → P (pos (a - b))) → P (sub_ℕ a b)
sub_cases P a b below above =
    by_cases (ltb a b)
    (λ t. subst P (sym (ap by-test t)) (below (ltb-true a b t)))
    (λ t. subst P (sym (ap by-test t)) (above (ltb-false a b t)))
  where
    by-test : Bool → ℤ
    by-test t = cond t (negsuc (b - suc a)) (pos (a - b))

-- above 0 just if the first is the greater
pub sub-sign : (a b : ℕ) → lt_z (pos 0) (sub_ℕ a b) ≡ ltb b a
sub-sign a b =
    sub_cases (λ z. lt_z (pos 0) z ≡ ltb b a) a b
    (λ l. sym (le-ltb b a (omega arith)))
    (λ l. by_cases (ltb b a) (λ t. lt-ltb 0 (a - b) (more (ltb-true b a t)) ∙ sym t) (λ t. le-ltb 0 (a - b) (none (ltb-false b a t)) ∙ sym t))
  where
    more : b < a → 0 < a - b
    more l = omega arith

    none : a ≤ b → a - b ≤ 0
    none l = omega arith

-- at most m on either side of 0
pub sub-range : (a b m : ℕ) → a ≤ b + m → b ≤ m → (neg_ℤ (pos m) ≤ℤ sub_ℕ a b) × (sub_ℕ a b ≤ℤ pos m)
sub-range a b m h k =
    sub_cases (λ z. (neg_ℤ (pos m) ≤ℤ z) × (z ≤ℤ pos m)) a b
    (λ l. (least-below m l k, le_z_yes tt))
    (λ l. (least_above m, le_z_yes (le→leb (a - b) m (omega arith))))
  where
    least-below : (m : ℕ) → a < b → b ≤ m → neg_ℤ (pos m) ≤ℤ negsuc (b - suc a)
    least-below zero l k = absurd (omega arith)
    least-below (suc m) l k = le_z_yes (le→leb (b - suc a) m (omega arith))

    least_above : (m : ℕ) → neg_ℤ (pos m) ≤ℤ pos (a - b)
    least_above zero = le_z_yes (le→leb 0 (a - b) (omega arith))
    least_above (suc m) = le_z_yes tt

pub sub-fits : (a b : ℕ) → a < 2 ^ 31 → b ≤ 2 ^ 31 → SFits w32 (sub_ℕ a b)
sub-fits a b h k =
    sub_cases (SFits w32) a b
    (λ l. record { sfits = omega arith })
    (λ l. record { sfits = omega arith })

-- the difference of two integers that are natural numbers
pos-minus : (a b : ℕ) → pos a -ℤ pos b ≡ sub_ℕ a b
pos-minus a zero =
    sub_cases (λ z. pos a -ℤ pos zero ≡ z) a zero
    (λ l. absurd (omega arith))
    (λ l. let e : a + 0 ≡ a - 0 = omega arith in ap pos e)
pos-minus a (suc b) = refl

-- two numbers below 2^31, read as signed and subtracted
pub read-minus : (a b : ℕ) → a < 2 ^ 31 → b < 2 ^ 31 → to_z w32 a -ℤ to_z w32 b ≡ sub_ℕ a b
read-minus a b h k = ap₂ ◌-ℤ◌ (to_z_pos w32 h) (to_z_pos w32 k) ∙ pos-minus a b

pub read_fits : (a b : ℕ) → a < 2 ^ 31 → b < 2 ^ 31 → SFits w32 (to_z w32 a -ℤ to_z w32 b)
read_fits a b h k = subst (SFits w32) (sym (read-minus a b h k)) (sub-fits a b h (omega arith))
