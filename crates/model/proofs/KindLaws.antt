-- A number and the kind that it names: what is computed of each element of the list of kinds holds of each number, and past
-- the last kind there is none. Assumes nothing.
use Prim.Native.Nat.{ℕ, zero, suc, ◌+◌, ◌-◌, ◌≤◌, ◌<◌}
use native.Mathlib.Omega.{arith}
use mathlib.Core.Path.{◌≡◌, refl, ap, ap₂, subst}
use mathlib.Core.Logic.{⊎_elim}
use mathlib.Core.Bool.{Bool, true, false, ◌&&◌, ◌||◌}
use mathlib.Core.List.{List, [], ◌∷◌}
use lib.Dec.{eqb, leb}
use lib.ListN.{length, get_or, get_or-eq_default}
use borrow.Author.Tests.{ne_eqb, leb-true, leb-false}
use Rattle.base.proofs.Bools.{true-or-false, not-both, and_both}
use Rattle.model.specs.Kinds.{Kind, KindWord, kind, no_kind, kinds, last_kind, kind_of}

-- does t hold of each number and what stands there, counted from i?
unfoldable pub numbered : (ℕ → KindWord → Bool) → ℕ → List KindWord → Bool
numbered t i [] = true
numbered t i (w ∷ ws) = t i w && numbered t (suc i) ws

at-number : (t : ℕ → KindWord → Bool) (i : ℕ) (ws : List KindWord) (j : ℕ) → numbered t i ws ≡ true → j < length ws → t (i + j) (get_or ws j no_kind) ≡ true
unfolding numbered
at-number t i [] j e l = absurd (omega arith)
at-number t i (w ∷ ws) zero e l =
    let n : i + 0 ≡ i = omega arith in
    rw n (and_both (t i w) (numbered t (suc i) ws) e).0
at-number t i (w ∷ ws) (suc j) e l =
    let n : i + suc j ≡ suc i + j = omega arith in
    rw n (at-number t (suc i) ws j (and_both (t i w) (numbered t (suc i) ws) e).1 (omega arith))

-- what is computed of each kind and its number
pub each_number : (t : ℕ → KindWord → Bool) → numbered t 0 kinds ≡ true → (k : ℕ) → k ≤ last_kind → t k (kind_of k) ≡ true
unfolding kind_of last_kind kinds
each_number t e k high =
    let n : 0 + k ≡ k = omega arith in
    subst (λ i. t i (kind_of k) ≡ true) n (at-number t 0 kinds k e (omega arith))

-- no kind has a number past the last
pub past-last : (k : ℕ) → last_kind < k → kind_of k ≡ no_kind
unfolding kind_of last_kind kinds
past-last k l = get_or-eq_default kinds no_kind {n = k} (omega arith)

-- what is computed of each kind and its number holds of a number that names a kind
pub by_number : (t : ℕ → KindWord → Bool) → numbered t 0 kinds ≡ true → (k : ℕ) (κ : Kind) → kind_of k ≡ kind κ → t k (kind κ) ≡ true
by_number t c k κ e = ⊎_elim named not_named (true-or-false (leb k last_kind))
  where
    named : leb k last_kind ≡ true → t k (kind κ) ≡ true
    named l = subst (λ w. t k w ≡ true) e (each_number t c k (leb-true k last_kind l))

    not_named : leb k last_kind ≡ false → t k (kind κ) ≡ true
    not_named l =
        let none = past-last k (leb-false k last_kind l) in
        let z : ◌≡◌ {A = ℕ} 0 1 = cc in
        absurd (omega arith)

-- ## 1 to the last kind's

is_kind : KindWord → Bool
is_kind (kind κ) = true
is_kind no_kind = false

-- a number 1 to the last kind's names a kind
pub names-kind : (k : ℕ) → 1 ≤ k → k ≤ last_kind → (κ : Kind) × (kind_of k ≡ kind κ)
unfolding numbered kinds is_kind
names-kind k low high = go (kind_of k) refl
  where
    tested : (eqb k 0 || is_kind (kind_of k)) ≡ true
    tested = each_number (λ i w. eqb i 0 || is_kind w) refl k high

    go : (w : KindWord) → kind_of k ≡ w → (κ : Kind) × (kind_of k ≡ kind κ)
    go (kind κ) e = (κ, e)
    go no_kind e =
        let f : (eqb k 0 || is_kind (kind_of k)) ≡ false = ap₂ (λ s t. s || t) (ne_eqb k 0 (λ z. omega arith)) (ap is_kind e) in
        absurd (not-both tested f)

-- k is none of 1 to n: what the last arm of a `match` over the kinds knows
abbrev pub Passed : ℕ → ℕ → Type 0
Passed k zero = Unit {0}
Passed k (suc n) = Passed k n × (k ≡ suc n → ⊥)

past : (n k : ℕ) → 1 ≤ k → Passed k n → n < k
past zero k low p = omega arith
past (suc n) k low p = omega (arith, past n k low p.0, p.1)

pub last-left : (k : ℕ) → 1 ≤ k → k ≤ last_kind → Passed k (last_kind - 1) → k ≡ last_kind
last-left k low high p = omega (arith, past (last_kind - 1) k low p)
