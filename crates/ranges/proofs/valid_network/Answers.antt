-- By the test of a cell. Assumes nothing.
use borrow.Author.Rules.{rules}
use mathlib.Core.Path.{◌∙◌}
use Rattle.model.specs.Hall.{max_views, max_recorders}
use Rattle.codec.specs.Cells.{cells}
use Rattle.store.specs.CellForms.{endpoint_form}
use Rattle.ranges.proofs.Loops.{by_test}
use Rattle.ranges.proofs.valid_network.Goals as goal

pub returns : goal.returns
returns c =
    let row = cells endpoint_form c.args.m max_views in
    c.valid_cells.ensures row.valid (λ i r p. search rules) ∙ by_test row c.args.n max_recorders _
