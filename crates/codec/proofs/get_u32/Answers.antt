-- The four bytes, by their places. Assumes nothing.
use Rattle.std.proofs.Common.{arith}
use Rattle.codec.proofs.NumberLaws.{value-four}
use Rattle.codec.proofs.get_u32.Goals as goal

pub returns : goal.returns
returns c = omega (arith, value-four c.args.at c.args.b.now c.requires, c.from_le_bytes.ensures)
