-- The count stands first. Assumes nothing.
use native.Mathlib.Omega.{arith}
use Rattle.undo.proofs.BufferLaws.{held-slots}
use Rattle.undo.proofs.Rooms.{count-is, long-enough}
use Rattle.undo.proofs.count.Goals as goal

pub bounds-u-0 : goal.bounds-u-0
bounds-u-0 c = omega (arith, long-enough c.args.u.now c.requires)

pub returns : goal.returns
returns c =
    let u = c.args.u.now in
    let e = count-is u c.requires in
    record {
      value = e;
      small = omega (arith, e, (held-slots u c.requires).0);
    }
