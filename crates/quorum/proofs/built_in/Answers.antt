-- By whether there is such a recorder, and by which. Assumes nothing.
use borrow.Author.Tests.{lt-leb, le-leb, eq-eqb, ne_eqb}
use Rattle.quorum.specs.Votes.{share, built_in}
use Rattle.quorum.proofs.built_in.Goals as goal

pub returns-then-n-k : goal.returns-then-n-k
unfolding share
returns-then-n-k c = rw (lt-leb _ _ c.if-n-k.true)

pub returns-then-k-eq1 : goal.returns-then-k-eq1
unfolding share built_in
returns-then-k-eq1 c = rw (le-leb _ _ c.if-n-k.false, eq-eqb _ _ c.if-k-eq1.true, built_in)

pub returns-else-k-eq1 : goal.returns-else-k-eq1
unfolding share built_in
returns-else-k-eq1 c = rw (le-leb _ _ c.if-n-k.false, ne_eqb _ _ c.if-k-eq1.false, built_in)
