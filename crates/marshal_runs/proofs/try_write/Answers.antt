-- `marshal_runs::try_write` meets its contract. Assumes nothing.
use lib.Dec.{lit<}
use mathlib.Core.Path.{◌∙◌}
use Rattle.model.specs.RefusalNumbers.{number}
use Rattle.runfile.specs.Answers.{file_opening, run_of, written_meaning}
use Rattle.marshal_runs.proofs.Runs.{written_is, write-nothing, write-tried}
use Rattle.marshal_runs.proofs.try_write.Goals as goal

pub returns-in-Err : goal.returns-in-Err
unfolding written_meaning
returns-in-Err c =
    let a = c.args in
    λ file. c.from-in-Err.ensures ∙ write-tried (run_of (file_opening a.o) a.actions.now) _ file (number c.in-Err.early) (lit< tt) (written_is c.write.ensures.0 c.in-Err.is)

pub returns-in-Ok : goal.returns-in-Ok
unfolding written_meaning
returns-in-Ok c =
    let a = c.args in
    absurd (write-nothing (run_of (file_opening a.o) a.actions.now) _ _ (lit< tt) (written_is c.write.ensures.0 c.in-Ok.is))
