-- The invariant: the array has the keys of the entries passed. Assumes nothing.
use Prim.Native.Nat.{ℕ, ◌+◌, ◌*◌}
use native.Mathlib.Omega.{arith}
use native.Mathlib.Nat.{not-suc-le-zero}
use mathlib.Core.Path.{◌≡◌, refl, ap, subst, ◌∙◌}
use lib.ListN.{get_or, length-set}
use Rattle.store.specs.Layout.{entry_sequence_at, entry_size, entry_cells}
use Rattle.validity.specs.CrossParts.{key_of, Keys}
use Rattle.validity.proofs.KeyLaws.{keys-next}
use Rattle.validity.proofs.keys_of.Goals as goal

pub loop-i-init : goal.loop-i-init
loop-i-init c = (refl, λ j l. absurd (not-suc-le-zero l))

pub loop-i-preserved : goal.loop-i-preserved
loop-i-preserved c =
    let a = c.args in
    let b = a.b.now in
    let l = c.loop-i in
    let at : ℕ = entry_cells + l.i * entry_size in (
      simp length-set l.invariant.0,
      keys-next b l.keys l.i (omega arith) l.invariant.1 c.label_key.result
          (c.label_key.ensures ∙ ap (λ (v : ℕ). key_of v (get_or b (at + entry_sequence_at) 0) (get_or b at 0) l.i) c.get_u32-view.ensures),
    )

pub returns : goal.returns
returns c =
    let a = c.args in
    let l = c.loop-i in
    let e : l.i ≡ a.m = omega arith in
    subst (λ (n : ℕ). Keys a.b.now n l.keys) e l.invariant.1
