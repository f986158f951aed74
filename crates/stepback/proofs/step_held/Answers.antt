-- Judged, then performed. Assumes nothing.
use native.Mathlib.Omega.{arith}
use Rattle.stepback.proofs.HeldCode.{step-refuses, step-accepts}
use Rattle.stepback.proofs.step_held.Goals as goal

pub returns-in_err-kind : goal.returns-in_err-kind
returns-in_err-kind c =
    let a = c.args in
    step-refuses a.hall.now a.undo.now a.k a.r a.a a.b c.from_residual.result _ c.from_residual.ensures.1 c.in_err-kind.ensures.number

pub take_held-requires : goal.take_held-requires
take_held-requires c =
    let a = c.args in
    let k = c.in_ok-kind in
    step-accepts a.hall.now a.undo.now a.k a.r a.a a.b k.ensures.number (omega (arith, c.ranges.a)) k.kind k.ensures.kind
