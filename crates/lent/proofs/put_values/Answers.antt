-- `lent::put_values` meets its contract. Assumes nothing.
use lib.Seq.{length-sets}
use lib.ListN.{length}
use mathlib.Core.Path.{ap}
use native.Mathlib.Omega.{arith}
use borrow.Author.Rules.{rules}
use Rattle.calls.specs.Lent.{words_bytes}
use Rattle.lent.proofs.Words.{put_next, put_rest}
use Rattle.lent.proofs.put_values.Goals as goal

pub loop-i-init : goal.loop-i-init
unfolding words_bytes
loop-i-init c = search rules

pub put_u32-requires : goal.put_u32-requires
put_u32-requires c = omega (arith, simp length-sets at (ap length c.loop-i.invariant))

pub loop-i-preserved : goal.loop-i-preserved
loop-i-preserved c =
    put_next c.args.out.now c.loop-i.i c.args.values.now c.loop-i.out _ (omega arith) c.loop-i.invariant c.put_u32.ensures

pub clear-requires : goal.clear-requires
clear-requires c = omega (arith, simp length-sets at (ap length c.loop-i.invariant))

pub returns : goal.returns
returns c = put_rest c.args.out.now c.args.values.now c.loop-i.out _ c.loop-i.i (omega arith) c.loop-i.invariant c.clear.ensures
