-- The count that a queue in range has. Assumes nothing.
use Rattle.validity.proofs.RawCells.{queue-count}
use Rattle.validity.proofs.queue_count.Goals as goal

pub returns-clause-most : goal.returns-clause-most
returns-clause-most c = queue-count c.args.b.now c.requires.0.held c.args.i c.requires.1
