-- What was read, listed, is the listing of all that the reader had. Assumes nothing.
use Rattle.std.proofs.Common.{arith, length-take-le}
use Rattle.replay.proofs.Whole.{listing-read}
use Rattle.replay.proofs.run.Goals as goal

pub returns-in-Ok-list-clause-lists : goal.returns-in-Ok-list-clause-lists
returns-in-Ok-list-clause-lists g c =
    let read = c.in-Ok.ensures in
    let long = c.read_full.auto.file in
    listing-read _ _ _ _ _ c.in-Ok.n (length-take-le c.in-Ok.n c.read_full.new.file read.fits) (omega (arith, read.fits, long)) read.read
    (λ less. read.whole (omega (arith, less, long))) c.in-Ok-list.ensures
