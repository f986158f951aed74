-- By the condition. Assumes nothing.
use mathlib.Core.Path.{sym, ap}
use Rattle.base.specs.Chains.{refuse}
use Rattle.model.specs.RefusalNumbers.{number}
use Rattle.words.proofs.refuse.Goals as goal

pub returns-then-t : goal.returns-then-t
unfolding refuse
returns-then-t c = sym (ap (λ t. refuse t (number c.args.why)) c.if-t.true)

pub returns-else-t : goal.returns-else-t
unfolding refuse
returns-else-t c = sym (ap (λ t. refuse t (number c.args.why)) c.if-t.false)
