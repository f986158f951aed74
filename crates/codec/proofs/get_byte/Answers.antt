-- The byte is the number of one byte. Assumes nothing.
use mathlib.Core.Path.{sym}
use Rattle.codec.proofs.NumberLaws.{value-byte}
use Rattle.codec.proofs.get_byte.Goals as goal

pub returns : goal.returns
returns c = sym (value-byte c.args.at c.args.b.now c.requires)
