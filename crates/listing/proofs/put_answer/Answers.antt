-- By the two cases. Assumes nothing.
use Rattle.model.specs.Listing.{answer_fields}
use Rattle.listing.proofs.put_answer.Goals as goal

pub put_taken-requires : goal.put_taken-requires
put_taken-requires g c = rw c.in-Ok.is at c.requires

pub put_refusal-requires : goal.put_refusal-requires
unfolding answer_fields
put_refusal-requires g c = rw c.in-Err.is at c.requires

pub returns-in-Ok : goal.returns-in-Ok
returns-in-Ok g c = rw c.in-Ok.is c.put_taken.ensures

pub returns-in-Err : goal.returns-in-Err
unfolding answer_fields
returns-in-Err g c = rw c.in-Err.is c.put_refusal.ensures
