-- By whether it holds. Assumes nothing.
use Rattle.quorum.specs.Votes.{share}
use Rattle.quorum.proofs.share.Goals as goal

pub returns-then-t : goal.returns-then-t
unfolding share
returns-then-t c = rw c.if-t.true

pub returns-else-t : goal.returns-else-t
unfolding share
returns-else-t c = rw c.if-t.false
