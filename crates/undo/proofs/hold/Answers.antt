-- Room is made, the slot written there, and the count. Assumes nothing.
use Prim.Native.Nat.{ℕ, ◌+◌}
use native.Mathlib.Omega.{arith}
use mathlib.Core.Path.{ap₂, ◌∙◌}
use mathlib.Core.List.{List}
use lib.Seq.{sets}
use Rattle.codec.proofs.NumberLaws.{digits-byte}
use Rattle.model.specs.Call.{words_of}
use Rattle.model.specs.KindNumbers.{kind_number}
use Rattle.undo.specs.Parts.{slot_of}
use Rattle.undo.proofs.PartsCover.{accepted-small, slot_ok}
use Rattle.undo.proofs.Rooms.{long-enough}
use Rattle.undo.proofs.hold.Goals as goal

pub put_slot-requires : goal.put_slot-requires
put_slot-requires c =
    (c.requires.1, omega (arith, long-enough c.args.u.now c.requires.0, c.make_room-n.ensures.few, c.make_room-n.auto.u))

pub put_byte-requires : goal.put_byte-requires
put_byte-requires c =
    omega (arith, long-enough c.args.u.now c.requires.0, c.make_room-n.auto.u, c.put_slot.auto.u)

pub returns : goal.returns
returns c =
    let a = c.args in
    let b = a.b.now in
    let w = words_of (kind_number a.k) a.r a.a a.d in
    let p = c.requires.1 in
    let low = accepted-small b p.holds w p.low p.accepts in
    let room = c.make_room-n in
    c.put_byte.ensures
    ∙ ap₂ (λ (x y : List ℕ). sets x 0 y) c.put_slot.ensures (digits-byte (room.result + 1) (omega (arith, room.ensures.few)))
    ∙ room.ensures.pushes (slot_of b w) (slot_ok b p.holds w low.0 low.1 p.low low.2)
