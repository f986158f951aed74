-- By the test of a cell. Assumes nothing.
use borrow.Author.Rules.{rules}
use mathlib.Core.Path.{◌∙◌}
use Rattle.model.specs.Hall.{max_views}
use Rattle.store.specs.CellForms.{endpoint_form}
use Rattle.ranges.proofs.Loops.{by_test}
use Rattle.ranges.proofs.valid_row.Goals as goal

pub returns : goal.returns
returns c = c.valid_cells.ensures endpoint_form.valid (λ i r p. search rules) ∙ by_test endpoint_form c.args.m max_views _
