-- Laws of the chains of refusals, link by link.
-- Assumes nothing.
use Prim.Native.Nat.{ℕ, suc}
use native.Mathlib.Omega.{arith}
use mathlib.Core.Path.{◌≡◌, refl, sym, ap, ◌∙◌}
use mathlib.Core.Bool.{Bool, true, false}
use mathlib.Core.Logic.{◌⊎◌, ⊎_elim}
use lib.Dec.{eqb}
use borrow.Author.Tests.{eqb-true, eqb-false, eq-eqb, ne_eqb}
use native.Mathlib.Nat.{suc-ne-zero}
use Rattle.base.specs.Chains.{refuse, ◌⨾◌}

-- a condition that refuses with a number above 0 and did not refuse is false
pub not-refused : (t : Bool) (k : ℕ) → refuse t (suc k) ≡ 0 → t ≡ false
unfolding refuse
not-refused true k e = absurd (omega arith)
not-refused false k e = refl

-- a chain that refuses nothing has no link that refuses
pub chain-none : (a b : ℕ) → (a ⨾ b) ≡ 0 → (a ≡ 0) × (b ≡ 0)
unfolding ◌⨾◌
chain-none a b e = go (eqb a 0) refl e
  where
    go : (t : Bool) → eqb a 0 ≡ t → ◌≡◌ {A = ℕ} (elim t [ true ↦ b | false ↦ a ]) 0 → (a ≡ 0) × (b ≡ 0)
    go true t e = (eqb-true a 0 t, e)
    go false t e = absurd (eqb-false a 0 t e)

-- the first link of a chain that refuses nothing, and what is left of it
pub link : (t : Bool) (k b : ℕ) → (refuse t (suc k) ⨾ b) ≡ 0 → (t ≡ false) × (b ≡ 0)
link t k b e = let both = chain-none (refuse t (suc k)) b e in (not-refused t k both.0, both.1)

-- a condition that refuses, and one that does not
pub refuses : (t : Bool) (n k : ℕ) → t ≡ true → refuse t (suc n) ⨾ k ≡ suc n
unfolding refuse ◌⨾◌
refuses t n k e = ap (λ (u : Bool). refuse u (suc n) ⨾ k) e ∙ rw (ne_eqb (suc n) 0 (λ z. suc-ne-zero n z), ◌⨾◌)

pub passes : (t : Bool) (n k : ℕ) → t ≡ false → refuse t n ⨾ k ≡ k
unfolding refuse ◌⨾◌
passes t n k e = rw e

-- a chain whose first part refuses, and one whose first part does not
pub first-refuses : (p q : ℕ) → (p ≡ 0 → ⊥) → p ⨾ q ≡ p
unfolding ◌⨾◌
first-refuses p q ne = rw (ne_eqb p 0 ne, ◌⨾◌)

pub first_passes : (p q : ℕ) → p ≡ 0 → p ⨾ q ≡ q
unfolding ◌⨾◌
first_passes p q z = rw (eq-eqb p 0 z, ◌⨾◌)

-- links may be taken together
pub chain-assoc : (p q r : ℕ) → (p ⨾ q) ⨾ r ≡ p ⨾ (q ⨾ r)
unfolding ◌⨾◌
chain-assoc p q r = go (eqb p 0) refl
  where
    go : (t : Bool) → eqb p 0 ≡ t
        → ◌≡◌ {A = ℕ} (elim (eqb (elim t [ true ↦ q | false ↦ p ]) 0) [ true ↦ r | false ↦ elim t [ true ↦ q | false ↦ p ] ])
        (elim t [ true ↦ elim (eqb q 0) [ true ↦ r | false ↦ q ] | false ↦ p ])
    go true t = refl
    go false t = rw t

-- ## Chains that refuse with one number alone

-- m refuses nothing, or with n
abbrev pub NoneBut : ℕ → ℕ → Type 0
NoneBut n m = (m ≡ 0) ⊎ (m ≡ n)

-- a condition that would refuse with another number is false
pub not-refused-but : (n : ℕ) (t : Bool) (k : ℕ) → eqb (suc k) n ≡ false → NoneBut n (refuse t (suc k)) → t ≡ false
unfolding refuse
not-refused-but n true k ne e = absurd (⊎_elim (λ z. suc-ne-zero k z) (eqb-false (suc k) n ne) e)
not-refused-but n false k ne e = refl

-- so is the first link of such a chain, and what is left of it is such a chain
pub link-but : (n : ℕ) (t : Bool) (k b : ℕ) → eqb (suc k) n ≡ false → NoneBut n (refuse t (suc k) ⨾ b) → (t ≡ false) × NoneBut n b
unfolding refuse ◌⨾◌
link-but n true k b ne e =
    let s = ne_eqb (suc k) 0 (λ z. suc-ne-zero k z) in
    let r : refuse true (suc k) ⨾ b ≡ suc k = rw (s, ◌⨾◌) in
    absurd (⊎_elim (λ z. suc-ne-zero k (sym r ∙ z)) (λ z. eqb-false (suc k) n ne (sym r ∙ z)) e)
link-but n false k b ne e = (refl, e)
