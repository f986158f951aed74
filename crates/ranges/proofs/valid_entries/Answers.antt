-- By the test of a cell. Assumes nothing.
use borrow.Author.Rules.{rules}
use mathlib.Core.Path.{sym, ◌∙◌}
use Rattle.model.specs.Hall.{max_entries}
use Rattle.store.specs.Layout.{entries_at}
use Rattle.store.specs.CellForms.{entry_form}
use Rattle.ranges.proofs.Loops.{bounded-by_test}
use Rattle.ranges.proofs.TablePartsLaws.{entries-bounded}
use Rattle.ranges.proofs.valid_entries.Goals as goal

pub returns : goal.returns
returns c =
    let a = c.args in
    c.valid_counted.ensures.value (entry_form a.n).valid (λ i r p. search rules)
    ∙ bounded-by_test (entry_form a.n) max_entries entries_at a.b.now c.requires
    ∙ sym (entries-bounded a.n a.b.now c.requires)
