-- The bytes are compared one by one. Assumes nothing.
use mathlib.Core.Path.{refl}
use Rattle.story.specs.Fields.{is_blank}
use Rattle.scanning.proofs.is_blank.Goals as goal

pub returns : goal.returns
unfolding is_blank
returns c = refl
