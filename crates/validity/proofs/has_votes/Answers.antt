-- The bytes of the votes are zeros just if there are none. Assumes nothing.
use mathlib.Core.Path.{ap, ◌∙◌}
use mathlib.Core.Bool.{not}
use Rattle.validity.proofs.RawHallLaws.{some-votes}
use Rattle.validity.proofs.has_votes.Goals as goal

pub returns : goal.returns
returns c =
    ap not c.is_zero.ensures ∙ some-votes c.args.b.now c.requires.held
