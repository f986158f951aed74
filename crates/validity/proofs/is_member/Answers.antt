-- Outside 1 .. n, or by the mask. Assumes nothing.
use Prim.Native.Nat.{ℕ, ◌≤◌, ◌<◌}
use native.Mathlib.Omega.{arith}
use mathlib.Core.Path.{◌≡◌, sym, ap, ◌∙◌}
use mathlib.Core.Bool.{Bool, true, false, ◌&&◌}
use mathlib.Core.Logic.{◌⊎◌, inl, inr}
use lib.Dec.{leb}
use borrow.Author.Tests.{leb-true, leb-false}
use Rattle.base.proofs.Bools.{by_cases, and_both}
use Rattle.quorum.proofs.SetLaws.{has-members, has-members-above}
use Rattle.validity.proofs.is_member.Goals as goal

inside : (n k : ℕ) → (leb 1 k && leb k n) ≡ true → (1 ≤ k) × (k ≤ n)
inside n k e = let t = and_both (leb 1 k) (leb k n) e in (leb-true 1 k t.0, leb-true k n t.1)

outside : (n k : ℕ) → (leb 1 k && leb k n) ≡ false → (k ≡ 0) ⊎ (n < k)
outside n k e = by_cases (leb 1 k) (λ t. inr (leb-false k n (ap (λ (u : Bool). u && leb k n) (sym t) ∙ e))) (λ t. inl (none (leb-false 1 k t)))
  where
    none : k < 1 → k ≡ 0
    none h = omega arith

pub returns-then-k-n : goal.returns-then-k-n
returns-then-k-n c =
    let a = c.args in
    let i = inside a.n a.k c.if-k-n.true in
    c.in_mask.ensures ∙ sym (has-members a.n a.set a.k i.0 i.1)

pub returns-else-k-n : goal.returns-else-k-n
returns-else-k-n c = let a = c.args in c.if-k-n.false ∙ sym (has-members-above a.n a.set a.k (outside a.n a.k c.if-k-n.false))
