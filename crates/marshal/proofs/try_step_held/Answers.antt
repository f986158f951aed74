-- `marshal::try_step_held` meets its contract. Assumes nothing.
use mathlib.Core.Path.{ap, ◌∙◌}
use Rattle.base.specs.Chains.{◌⨾◌}
use Rattle.marshal.proofs.try_step_held.Goals as goal

pub returns : goal.returns
returns c = c.or_no_room.ensures ∙ ap (λ n. n ⨾ 18) c.step_held_refusal.ensures.number
