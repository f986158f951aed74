-- Number and set. Assumes nothing.
use Prim.Native.Nat.{◌^◌, ◌≤◌}
use native.Mathlib.Omega.{arith}
use lib.Pow.{pow_mono}
use Rattle.ranges.proofs.CellPartsLaws.{view-part}
use Rattle.ranges.proofs.valid_view.Goals as goal

pub overflow_cast-all_of : goal.overflow_cast-all_of
overflow_cast-all_of c =
    let most : 2 ^ c.args.n ≤ 2 ^ 8 = pow_mono c.requires.1 in
    omega (arith, c.all_of.ensures, most)

pub returns : goal.returns
returns c =
    let a = c.args in
    cc (view-part a.n a.at a.b.now c.requires.2 (λ i. (c.type_inv.b i).fits))
