-- The bits below bit j are the rest by its power of 2. Assumes nothing.
use Prim.Native.Nat.{ℕ, ◌-◌, ◌%◌}
use native.Mathlib.Omega.{arith}
use mathlib.Core.Path.{ap}
use lib.Dec.{eqb}
use lib.Pow.{pow_pos}
use Rattle.quorum.proofs.SetLaws.{one_shifted}
use Rattle.printing.proofs.none_below.Goals as goal

pub nonzero_rem-result : goal.nonzero_rem-result
nonzero_rem-result c = omega (arith, one_shifted (c.args.i - 1) (omega arith), pow_pos (c.args.i - 1))

pub returns : goal.returns
returns c = ap (λ (p : ℕ). eqb (c.args.m % p) 0) (one_shifted (c.args.i - 1) (omega arith))
