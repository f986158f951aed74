-- The bytes are compared one by one. Assumes nothing.
use mathlib.Core.Path.{refl}
use Rattle.story.specs.Fields.{is_end}
use Rattle.scanning.proofs.is_end.Goals as goal

pub returns : goal.returns
unfolding is_end
returns c = refl
