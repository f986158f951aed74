-- There is room, or the others are moved down. Assumes nothing.
use native.Mathlib.Omega.{arith}
use mathlib.Core.Path.{subst, sym}
use Rattle.undo.specs.Code.{RoomMade}
use Rattle.undo.proofs.BufferLaws.{held-slots}
use Rattle.undo.proofs.Rooms.{room-left, room-made, long-enough}
use Rattle.undo.proofs.make_room.Goals as goal

pub returns-then-n-lt-SLOTS : goal.returns-then-n-lt-SLOTS
returns-then-n-lt-SLOTS c =
    let u = c.args.u.now in
    let n = c.count-n.ensures.value in
    subst (λ m. RoomMade u m u) (sym n) (room-left u c.requires (omega (arith, n, c.if-n-lt-SLOTS.true)))

pub move_down-requires : goal.move_down-requires
move_down-requires c =
    (omega arith, omega (arith, long-enough c.args.u.now c.requires))

pub returns : goal.returns
returns c =
    let u = c.args.u.now in
    room-made u c.requires
    (omega (arith, (held-slots u c.requires).0, c.count-n.ensures.value, c.if-n-lt-SLOTS.false))
    _ c.move_down.ensures
