-- Assumes nothing.
use mathlib.Core.Bool.{◌||◌}
use mathlib.Core.Path.{ap₂}
use Rattle.story.specs.Fields.{is_break}
use Rattle.scanning.proofs.is_break.Goals as goal

pub returns : goal.returns
unfolding is_break
returns c = ap₂ ◌||◌ c.is_blank.ensures c.is_end.ensures
