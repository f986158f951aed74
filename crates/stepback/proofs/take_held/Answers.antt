-- Held, then performed. Assumes nothing.
use Rattle.model.specs.KindNumbers.{kind_number}
use Rattle.stepback.proofs.HeldCode.{step-performs}
use Rattle.stepback.proofs.take_held.Goals as goal

pub returns : goal.returns
returns c =
    let a = c.args in
    step-performs a.hall.now a.undo.now (kind_number a.k) a.r a.a a.b c.requires.0 c.requires.1 _ c.hold.ensures _ _ c.step_kind.ensures
