-- `marshal::try_step` meets its contract. Assumes nothing.
use mathlib.Core.Path.{ap, ◌∙◌}
use Rattle.base.specs.Chains.{◌⨾◌}
use Rattle.marshal.proofs.try_step.Goals as goal

pub returns : goal.returns
returns c = c.or_no_room.ensures ∙ ap (λ n. n ⨾ 18) c.refusal.ensures
