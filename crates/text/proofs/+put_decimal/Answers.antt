-- The digits of x / 10 are written, then the last digit of x. Assumes nothing.
use Rattle.std.proofs.Common.{arith}
use Rattle.text.proofs.Decimal.{decimal-small, decimal-more, length-small, length_more}
use Rattle.text.proofs.TextLaws.{wrote_one, then}
use Rattle.text.proofs.+put_decimal.Goals as goal

pub bounds-out-at : goal.bounds-out-at
bounds-out-at t c = omega (arith, length-small c.args.x c.if-x-lt10.true)

pub put_decimal-next-requires : goal.put_decimal-next-requires
put_decimal-next-requires t c =
    let more = length_more c.args.x c.if-x-lt10.false in
    (omega arith, record { fits = omega arith })

pub bounds-out-next : goal.bounds-out-next
bounds-out-next t c = omega (arith, length_more c.args.x c.if-x-lt10.false)

pub overflow_add-result-else-x-lt10 : goal.overflow_add-result-else-x-lt10
overflow_add-result-else-x-lt10 t c = omega (arith, length_more c.args.x c.if-x-lt10.false)

pub returns-then-x-lt10 : goal.returns-then-x-lt10
returns-then-x-lt10 t c = rw (decimal-small c.args.x c.if-x-lt10.true) (wrote_one _ _ _)

pub returns-else-x-lt10 : goal.returns-else-x-lt10
returns-else-x-lt10 t c = rw (decimal-more c.args.x c.if-x-lt10.false) (then c.put_decimal-next.ensures (wrote_one _ _ _))
