-- Its fields in turn. Assumes nothing.
use Rattle.ranges.proofs.CellPartsLaws.{queued-part}
use Rattle.ranges.proofs.valid_queued.Goals as goal

pub returns : goal.returns
returns c = cc (queued-part c.args.at c.args.b.now)
