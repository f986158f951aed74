-- The greatest view is the last formed one. Assumes nothing.
use mathlib.Core.Path.{◌∙◌}
use borrow.Author.Tests.{eq-eqb}
use Rattle.settling.proofs.CopyLaws.{barred-none, barred-last}
use Rattle.settling.proofs.is_barred.Goals as goal

pub returns-then-count-eq0 : goal.returns-then-count-eq0
returns-then-count-eq0 c =
    let a = c.args in
    eq-eqb a.count 0 c.if-count-eq0.true ∙ barred-none a.b.now a.count c.requires.1 c.if-count-eq0.true

pub returns-else-count-eq0 : goal.returns-else-count-eq0
returns-else-count-eq0 c =
    let a = c.args in
    barred-last a.b.now a.count c.requires.0 c.requires.1 c.if-count-eq0.false c.in_primary.result c.in_primary.ensures
