-- By the three tests. Assumes nothing.
use Rattle.quorum.specs.Votes.{wrong_row}
use Rattle.quorum.proofs.wrong_row.Goals as goal

pub returns : goal.returns
unfolding wrong_row
returns c = rw (c.is_small.ensures, c.none_above.ensures, c.none_above-2.ensures)
