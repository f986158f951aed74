-- Assumes nothing.
use Rattle.story.specs.Lent.{action_lent}
use Rattle.printing.proofs.FieldsLaws.{printed-fits}
use Rattle.marshal_text.proofs.print_action_into.Goals as goal

pub put_line-requires : goal.put_line-requires
put_line-requires c = printed-fits c.print_action.ensures

pub returns : goal.returns
unfolding action_lent
returns c = c.put_line.ensures _ c.print_action.ensures
