-- The call's refusal before 18. Assumes nothing.
use mathlib.Core.Path.{ap, ◌∙◌}
use Rattle.std.specs.Prelude.{Err}
use Rattle.model.specs.declared.refusals.Refusal.{Refusal}
use Rattle.model.specs.RefusalNumbers.{refused_by}
use Rattle.model.proofs.RefusalNumbersLaws.{and-chain}
use Rattle.marshal.proofs.or_no_room.Goals as goal

pub returns : goal.returns
returns g c = c.number_of.ensures ∙ ap refused_by c.and.ensures ∙ and-chain c.args.x (Err Refusal.Short)
