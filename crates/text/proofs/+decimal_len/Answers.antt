-- A digit more than x / 10 has. Assumes nothing.
use Rattle.std.proofs.Common.{◌≡◌, ◌+◌, length, sym, arith}
use Rattle.model.specs.Listing.{decimal}
use Rattle.text.proofs.Decimal.{length-small, length_more, decimal-word}
use Rattle.text.proofs.+decimal_len.Goals as goal

pub returns-then-x-ge10 : goal.returns-then-x-ge10
returns-then-x-ge10 t c =
    let is-length : c.decimal_len.result + 1 ≡ length (decimal c.args.x) = omega (arith, length_more c.args.x c.if-x-ge10.true) in
    record { is = is-length; within = omega (arith, decimal-word c.args.x c.ranges.x.fits) }

pub returns-else-x-ge10 : goal.returns-else-x-ge10
returns-else-x-ge10 t c = record { is = sym (length-small c.args.x c.if-x-ge10.false); within = omega arith }
