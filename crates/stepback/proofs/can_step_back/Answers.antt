-- None held, or by the newest one. Assumes nothing.
use mathlib.Core.Path.{sym, ap, ◌∙◌}
use mathlib.Core.Bool.{not}
use lib.Dec.{eqb}
use Rattle.undo.specs.Buffer.{held_in}
use Rattle.stepback.proofs.BackLaws.{none-held}
use Rattle.stepback.proofs.can_step_back.Goals as goal

pub returns-else-count-ne0 : goal.returns-else-count-ne0
returns-else-count-ne0 c =
    let z = c.if-count-ne0.false in
    ap (λ n. not (eqb n 0)) z ∙ none-held c.args.hall.now (held_in c.args.undo.now) (sym c.count.ensures.value ∙ z)
