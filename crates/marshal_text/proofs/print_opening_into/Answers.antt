-- Refused, or the line. Assumes nothing.
use Rattle.story.specs.Lent.{opening_lent}
use Rattle.printing.proofs.FieldsLaws.{printed-fits}
use Rattle.marshal_text.proofs.LineLaws.{print-refused}
use Rattle.marshal_text.proofs.print_opening_into.Goals as goal

pub put_line-requires : goal.put_line-requires
put_line-requires c = printed-fits c.in-Ok.ensures.1

pub returns-in-Ok : goal.returns-in-Ok
unfolding opening_lent
returns-in-Ok c = rw (← c.in-Ok.ensures.0) (c.put_line.ensures _ c.in-Ok.ensures.1)

pub returns-in-Err : goal.returns-in-Err
unfolding opening_lent
returns-in-Err c = rw c.from.ensures (print-refused c.in-Err.why _ _ c.args.text.now c.args.out.now c.in-Err.ensures)
