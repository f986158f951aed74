-- By the two cases. Assumes nothing.
use mathlib.Core.Path.{◌∙◌}
use Rattle.model.specs.Answers.{plain}
use Rattle.answer.proofs.ValuesLaws.{taken-number}
use Rattle.answer.proofs.plain.Goals as goal

pub returns-in-Ok : goal.returns-in-Ok
returns-in-Ok g c =
    rw c.in-Ok.is (record { number = c.taken.ensures.number ∙ taken-number c.in-Ok.x; values = c.taken.ensures.values ∙ c.values.ensures })

pub returns-in-Err : goal.returns-in-Err
unfolding plain
returns-in-Err g c = rw c.in-Err.is (record { number = c.refused.ensures.number; values = c.refused.ensures.values })
