-- Its fields in turn; the highest primary may be any four bytes. Assumes nothing.
use Prim.Native.Nat.{◌+◌}
use native.Mathlib.Nat.{add_assoc}
use native.Mathlib.Omega.{arith}
use mathlib.Core.Bool.{and_assoc, and-true}
use Rattle.model.specs.Hall.{max_order}
use Rattle.store.specs.Layout.{list_size, summary_order_at}
use Rattle.ranges.proofs.Parts.{view-number-part}
use Rattle.ranges.proofs.CellPartsLaws.{summary-part}
use Rattle.ranges.proofs.valid_summary.Goals as goal

pub returns : goal.returns
returns c =
    let a = c.args in
    let any = view-number-part (a.at + summary_order_at + list_size max_order + 1) a.b.now (omega (arith, c.requires)) (λ i. (c.type_inv.b i).fits) in
    simp and_assoc (cc (simp add_assoc at (simp (any, and-true) at (summary-part a.at a.b.now))))
