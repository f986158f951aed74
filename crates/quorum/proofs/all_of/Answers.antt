-- One less than a power of 2. Assumes nothing.
use native.Mathlib.Omega.{arith}
use lib.Pow.{pow_pos}
use Rattle.quorum.proofs.SetLaws.{one_shifted}
use Rattle.quorum.proofs.all_of.Goals as goal

pub overflow_sub-result : goal.overflow_sub-result
overflow_sub-result c = omega (arith, one_shifted c.args.n c.requires, pow_pos c.args.n)

pub returns : goal.returns
returns c = omega (arith, one_shifted c.args.n c.requires)
