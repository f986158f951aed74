-- The test is that of the form. Assumes nothing.
use mathlib.Core.Path.{sym}
use Rattle.ranges.proofs.Parts.{mark-part}
use Rattle.ranges.proofs.valid_mark.Goals as goal

pub returns : goal.returns
returns c = sym (mark-part c.args.hi c.args.at c.args.b.now c.requires)
