-- By the check. Assumes nothing.
use mathlib.Core.Path.{ap, ◌∙◌}
use mathlib.Core.Bool.{not}
use Rattle.base.specs.Chains.{refuse}
use Rattle.step.proofs.StepsLaws.{bytes-test}
use Rattle.step.proofs.bytes_refusal.Goals as goal

pub returns : goal.returns
returns c = c.refuse.ensures ∙ ap (λ t. refuse (not t) 31) c.is_hall.ensures ∙ bytes-test _
