-- `opening::founder_mask` meets its contract. Assumes nothing.
use borrow.Author.Tests.{eq-eqb, ne_eqb}
use Rattle.model.specs.Opening.{founder_mask}
use Rattle.opening.proofs.founder_mask.Goals as goal

pub returns-then-founders-eq0 : goal.returns-then-founders-eq0
unfolding founder_mask
returns-then-founders-eq0 c = rw (eq-eqb _ 0 c.if-founders-eq0.true, founder_mask)

pub returns-else-founders-eq0 : goal.returns-else-founders-eq0
unfolding founder_mask
returns-else-founders-eq0 c = rw (ne_eqb _ 0 c.if-founders-eq0.false, founder_mask)
