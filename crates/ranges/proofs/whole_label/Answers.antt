-- By the view number. Assumes nothing.
use mathlib.Core.Path.{sym}
use Rattle.ranges.proofs.CellPartsLaws.{no_label, some-label}
use Rattle.ranges.proofs.whole_label.Goals as goal

pub returns-then-view-eq0 : goal.returns-then-view-eq0
returns-then-view-eq0 c = sym (no_label c.args.view c.args.seq c.if-view-eq0.true)

pub returns-else-view-eq0 : goal.returns-else-view-eq0
returns-else-view-eq0 c = sym (some-label c.args.view c.args.seq c.if-view-eq0.false)
