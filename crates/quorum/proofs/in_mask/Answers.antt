-- The tested bit is that of `in_mask`. Assumes nothing.
use mathlib.Core.Path.{refl}
use Rattle.quorum.specs.Sets.{in_mask}
use Rattle.quorum.proofs.in_mask.Goals as goal

pub returns : goal.returns
unfolding in_mask
returns c = refl
