-- A formed view's index is below 32. Assumes nothing.
use native.Mathlib.Omega.{arith}
use Rattle.undo.proofs.FindingParts.{formed-within}
use Rattle.undo.proofs.queue_and_endpoint.Goals as goal

pub cell-requires : goal.cell-requires
cell-requires c =
    let p = c.requires in
    omega (arith, formed-within p.0 c.args.a _ p.1 c.find_view.ensures.value)
