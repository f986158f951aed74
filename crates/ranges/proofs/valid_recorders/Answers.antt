-- By the test of a cell. Assumes nothing.
use borrow.Author.Rules.{rules}
use mathlib.Core.Path.{◌∙◌}
use Rattle.model.specs.Hall.{max_recorders}
use Rattle.store.specs.CellForms.{recorder_form}
use Rattle.ranges.proofs.Loops.{by_test}
use Rattle.ranges.proofs.valid_recorders.Goals as goal

pub returns : goal.returns
returns c = c.valid_cells.ensures recorder_form.valid (λ i r p. search rules) ∙ by_test recorder_form c.args.n max_recorders _
