-- It stands in place k - 1. Assumes nothing.
use Prim.Native.Nat.{◌-◌}
use native.Mathlib.Omega.{arith}
use mathlib.Core.Path.{sym}
use lib.Seq.{get_or-take}
use Rattle.base.specs.Lists.{nth}
use Rattle.codec.proofs.byte_at.Goals as goal

pub returns : goal.returns
unfolding nth
returns c =
    let a = c.args in
    sym (get_or-take a.l.len a.l.places (a.k - 1) 0 (omega arith))
