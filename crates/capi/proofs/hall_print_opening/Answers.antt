-- The opening is that of its words. Assumes nothing.
use Rattle.capi.proofs.hall_print_opening.Goals as goal

pub returns : goal.returns
returns c = rw c.opening_of-opening.ensures at c.print_opening_into.ensures
