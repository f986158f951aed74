-- Laws of the sets of `Sets`: the members of a mask, and the mask of members.
-- Assumes nothing.
use Prim.Native.Nat.{ℕ, zero, suc, ◌+◌, ◌-◌, ◌*◌, ◌%◌, ◌^◌, ◌≤◌, ◌<◌, ◌/◌}
use native.Mathlib.Omega.{arith}
use mathlib.Core.Path.{◌≡◌, refl, sym, ap, ◌∙◌}
use mathlib.Core.Bool.{Bool, true, false}
use mathlib.Core.List.{List, [], ◌∷◌, ◌++◌}
use lib.Dec.{lit<, eqb}
use lib.Pow.{shl_exact, pow_pos}
use borrow.Author.Tests.{eqb-true, eqb-false}
use native.Mathlib.Nat.{pow-succ', mod-eq_of_lt, mod-one}
use mathlib.Core.Logic.{◌⊎◌, ⊎_elim}
use lib.Arith.{mod-mul}
use Rattle.base.specs.Lists.{bit, filter, has, rising, count}
use Rattle.base.specs.Numbers.{up_to}
use Rattle.base.proofs.ListsLaws.{filter-in, filter-out, filter-append, in-filter, rising-filter, has-head, has-filter, rising-once}
use Rattle.base.proofs.NumbersLaws.{has-up_to, up_to-range, rising-up_to}
use Rattle.quorum.specs.Sets.{in_mask, members, mask}

-- ---- the members of a mask

pub has-members : (n b k : ℕ) → 1 ≤ k → k ≤ n → has (members n b) k ≡ in_mask b k
unfolding members
has-members n b k low high = has-filter (in_mask b) (up_to n) k ∙ rw (has-up_to n k low high)

pub members-range : (n b k : ℕ) → has (members n b) k ≡ true → (1 ≤ k) × (k ≤ n)
unfolding members
members-range n b k h = up_to-range n k ((in-filter (in_mask b) (up_to n) k).0 h).0

pub has-members-above : (n b k : ℕ) → (k ≡ 0) ⊎ (n < k) → has (members n b) k ≡ false
has-members-above n b k out = go (has (members n b) k) refl
  where
    go : (t : Bool) → has (members n b) k ≡ t → t ≡ false
    go true e =
        let r = members-range n b k e in
        absurd (⊎_elim (λ z. omega arith) (λ z. omega arith) out)
    go false e = refl

-- ---- the mask of a list

pub mask_append : (xs ys : List ℕ) → mask (xs ++ ys) ≡ mask xs + mask ys
unfolding mask
mask_append [] ys = omega arith
mask_append (x ∷ xs) ys = omega (arith, mask_append xs ys)

last : (n : ℕ) → suc n - 1 ≡ n
last n = omega arith

-- bit n is that of recorder n + 1
pub in-mask : (b n : ℕ) → in_mask b (suc n) ≡ eqb (b / 2 ^ n % 2) 1
unfolding in_mask
in-mask b n = ap (λ (k : ℕ). eqb (b / 2 ^ k % 2) 1) (last n)

mask-bit : (b n : ℕ) → mask (filter (in_mask b) (suc n ∷ [])) ≡ b / 2 ^ n % 2 * 2 ^ n
unfolding mask filter
mask-bit b n = go (eqb (b / 2 ^ n % 2) 1) refl
  where
    go : (t : Bool) → eqb (b / 2 ^ n % 2) 1 ≡ t → mask (filter (in_mask b) (suc n ∷ [])) ≡ b / 2 ^ n % 2 * 2 ^ n
    go true e = rw (filter-in (in_mask b) (suc n) [] (in-mask b n ∙ e), eqb-true (b / 2 ^ n % 2) 1 e) (omega (arith, ap (λ (k : ℕ). 2 ^ k) (last n)))
    go false e =
        let z : b / 2 ^ n % 2 ≡ 0 = omega (arith, eqb-false (b / 2 ^ n % 2) 1 e) in
        rw (filter-out (in_mask b) (suc n) [] (in-mask b n ∙ e), z) (omega arith)

mod-pow-suc : (b n : ℕ) → b % 2 ^ suc n ≡ b / 2 ^ n % 2 * 2 ^ n + b % 2 ^ n
mod-pow-suc b n = ap (λ (m : ℕ). b % m) (pow-succ' 2 n) ∙ mod-mul b (omega arith) (pow_pos n)

-- the members within 1 to n carry the lowest n bits
pub mask-members-mod : (n b : ℕ) → mask (members n b) ≡ b % 2 ^ n
unfolding mask members up_to filter
mask-members-mod zero b = sym (mod-one b)
mask-members-mod (suc n) b =
    ap mask (filter-append (in_mask b) (up_to n) (suc n ∷ []))
    ∙ mask_append (members n b) (filter (in_mask b) (suc n ∷ []))
    ∙ omega (arith, mask-members-mod n b, mask-bit b n, mod-pow-suc b n)

pub mask-members : (n b : ℕ) → b < 2 ^ n → mask (members n b) ≡ b
mask-members n b h = mask-members-mod n b ∙ mod-eq_of_lt h

pub members-nonempty : (n b : ℕ) → b < 2 ^ n → 0 < b → (k : ℕ) × (has (members n b) k ≡ true)
unfolding mask
members-nonempty n b h pos = go (members n b) refl
  where
    go : (l : List ℕ) → members n b ≡ l → (k : ℕ) × (has l k ≡ true)
    go [] e = absurd (omega (arith, mask-members n b h, ap mask e))
    go (x ∷ xs) e = (x, has-head x xs)

-- ---- rising lists

pub rising-members : (n b : ℕ) → rising 0 (members n b) ≡ true
unfolding members
rising-members n b = rising-filter (in_mask b) 0 (up_to n) (rising-up_to n)

pub members-once : (n b x : ℕ) → count (members n b) x ≡ bit (has (members n b) x)
members-once n b = rising-once 0 (members n b) (rising-members n b)

-- the bit of a recorder, of eight
pub one_shifted : (i : ℕ) → i ≤ 8 → 1 * 2 ^ i % 4294967296 ≡ 2 ^ i
one_shifted i h = shl_exact {a = 1} 1 i 32 (lit< tt) (omega arith) ∙ omega arith
