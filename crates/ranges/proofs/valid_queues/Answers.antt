-- By the test of a cell. Assumes nothing.
use borrow.Author.Rules.{rules}
use mathlib.Core.Path.{◌∙◌}
use Rattle.model.specs.Hall.{max_views}
use Rattle.store.specs.CellForms.{queue_form}
use Rattle.ranges.proofs.Loops.{by_test}
use Rattle.ranges.proofs.valid_queues.Goals as goal

pub returns : goal.returns
returns c = c.valid_cells.ensures queue_form.valid (λ i r p. search rules) ∙ by_test queue_form c.args.m max_views _
