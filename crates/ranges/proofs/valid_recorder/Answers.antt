-- Its fields in turn; the current view may be any four bytes. Assumes nothing.
use native.Mathlib.Nat.{add_assoc}
use native.Mathlib.Omega.{arith}
use mathlib.Core.Bool.{and_assoc}
use Rattle.ranges.proofs.Parts.{view-number-part}
use Rattle.ranges.proofs.CellPartsLaws.{recorder-part}
use Rattle.ranges.proofs.valid_recorder.Goals as goal

pub returns : goal.returns
returns c =
    let a = c.args in
    let any = view-number-part a.at a.b.now (omega (arith, c.requires)) (λ i. (c.type_inv.b i).fits) in
    simp and_assoc (cc (simp add_assoc at (simp any at (recorder-part a.at a.b.now))))
