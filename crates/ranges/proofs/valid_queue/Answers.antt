-- By the test of a cell. Assumes nothing.
use borrow.Author.Rules.{rules}
use mathlib.Core.Path.{◌∙◌}
use Rattle.model.specs.Hall.{max_queue}
use Rattle.store.specs.CellForms.{queued_form, queue_form}
use Rattle.ranges.proofs.Loops.{bounded-by_test}
use Rattle.ranges.proofs.valid_queue.Goals as goal

pub returns : goal.returns
unfolding queue_form
returns c =
    let a = c.args in
    c.valid_counted.ensures.value queued_form.valid (λ i r p. search rules)
    ∙ bounded-by_test queued_form max_queue a.at a.b.now c.requires
