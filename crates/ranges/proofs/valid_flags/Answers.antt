-- Each flag is 0 or 1. Assumes nothing.
use mathlib.Core.Path.{sym, ◌∙◌}
use Rattle.ranges.proofs.Parts.{flags-part}
use Rattle.ranges.proofs.valid_flags.Goals as goal

pub returns : goal.returns
returns c = c.all_in.ensures ∙ sym (flags-part c.args.n c.args.at c.args.b.now c.requires)
