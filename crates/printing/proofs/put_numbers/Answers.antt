-- The numbers passed are written. Assumes nothing.
use Rattle.std.proofs.Common.{sym, rules}
use Rattle.text.proofs.TextLaws.{then}
use Rattle.printing.proofs.FieldsLaws.{wrote_as, wrote_none, numbers-none, numbers-next, number-room}
use Rattle.printing.proofs.put_numbers.Goals as goal

pub loop-x-init : goal.loop-x-init
loop-x-init c = wrote_as (sym (numbers-none c.args.numbers.now)) (wrote_none _ _)

pub put_number-next-requires : goal.put_number-next-requires
put_number-next-requires c = number-room c.args.numbers.now c.loop-x.x-index (search rules) c.requires c.loop-x.invariant

pub loop-x-preserved : goal.loop-x-preserved
loop-x-preserved c =
    wrote_as (sym (numbers-next c.args.numbers.now c.loop-x.x-index (search rules))) (then c.loop-x.invariant c.put_number-next.ensures)
