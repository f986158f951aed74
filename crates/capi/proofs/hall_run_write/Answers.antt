-- The opening is that of its words. Assumes nothing.
use Rattle.capi.proofs.hall_run_write.Goals as goal

pub returns : goal.returns
returns c = rw c.opening_of-opening.ensures at c.run_write_into.ensures
