-- The members still to come decide; the set so far is one of recorders 1 to 8. Assumes nothing.
use Rattle.std.proofs.Common.{◌≡◌, ◌<◌, length}
use Rattle.story.specs.Sets.{members_from}
use Rattle.scanning.proofs.members_of.Given as goal

abbrev pub invariant-loop-rest : goal.invariant-loop-rest
invariant-loop-rest l = (l.mask < 256) × (members_from 0 l.members ≡ members_from l.mask l.rest)

abbrev pub decreases-loop-rest : goal.decreases-loop-rest
decreases-loop-rest l = length l.rest
