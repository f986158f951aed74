-- Marks and flags, and the highest primary, which may be any four bytes. Assumes nothing.
use Prim.Native.Nat.{◌+◌}
use native.Mathlib.Nat.{add_assoc}
use native.Mathlib.Omega.{arith}
use mathlib.Core.Bool.{and_assoc}
use Rattle.store.specs.Layout.{recorder_confirm_at}
use Rattle.ranges.proofs.Parts.{view-number-part}
use Rattle.ranges.proofs.CellPartsLaws.{rest-part}
use Rattle.ranges.proofs.valid_recorder_rest.Goals as goal

pub returns : goal.returns
returns c =
    let a = c.args in
    let o = a.at + recorder_confirm_at in
    let any = view-number-part (o + 1 + 1) a.b.now (omega (arith, c.requires)) (λ i. (c.type_inv.b i).fits) in
    simp and_assoc (cc (simp add_assoc at (simp any at (rest-part o a.b.now))))
