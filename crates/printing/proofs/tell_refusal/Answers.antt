-- 16 and 41, then 19. Assumes nothing.
use Rattle.story.specs.Printing.{tell_refusal}
use Rattle.model.proofs.RefusalNumbersLaws.{stops, goes-on}
use Rattle.printing.proofs.tell_refusal.Goals as goal

pub returns-in_err-refused_opening : goal.returns-in_err-refused_opening
unfolding tell_refusal
returns-in_err-refused_opening c = stops c.from_residual.result _ _ c.from_residual.ensures.1 c.in_err-refused_opening.ensures

pub returns : goal.returns
unfolding tell_refusal
returns c = goes-on c.in_ok-refused_opening.ensures c.refuse.ensures
