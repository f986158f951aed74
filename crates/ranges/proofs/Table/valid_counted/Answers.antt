-- By the count. Assumes nothing.
use mathlib.Core.Path.{sym, ◌∙◌}
use borrow.Author.Tests.{lt-leb}
use Rattle.ranges.specs.Tests.{tested}
use Rattle.ranges.proofs.Loops.{bounded-within, bounded-over}
use Rattle.ranges.proofs.Table.valid_counted.Goals as goal

pub returns-then-m-self-clause-value : goal.returns-then-m-self-clause-value
returns-then-m-self-clause-value g c =
    let s = c.args.self in
    λ test t.
    c.valid_cells.ensures test t
    ∙ sym (bounded-within (tested s.size test) s.places s.at c.args.b.now c.requires.within c.if-m-self.true)

pub returns-else-m-self-clause-value : goal.returns-else-m-self-clause-value
returns-else-m-self-clause-value g c =
    let s = c.args.self in
    λ test t.
    lt-leb _ _ c.if-m-self.false
    ∙ sym (bounded-over (tested s.size test) s.places s.at c.args.b.now c.requires.within c.if-m-self.false)
