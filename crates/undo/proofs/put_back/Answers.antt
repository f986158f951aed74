-- The first part, then the second. Assumes nothing.
use Prim.Native.Nat.{◌+◌}
use native.Mathlib.Omega.{arith}
use mathlib.Core.Path.{sym, ap, ◌∙◌}
use Rattle.undo.specs.Buffer.{put_back}
use Rattle.undo.specs.Code.{part_back}
use Rattle.undo.proofs.PartAt.{Bytes}
use Rattle.undo.proofs.SlotAt.{second_at, first_fits, second_fits, both-back}
use Rattle.undo.proofs.Rooms.{some_same}
use Rattle.undo.proofs.put_back.Goals as goal

pub put_part_back-requires : goal.put_part_back-requires
put_part_back-requires c =
    let at = c.newest_at-at in
    let k : Bytes c.args.u.now = λ i. (c.type_inv.u i).fits in
    first_fits at.result c.args.u.now at.ensures.room k at.ensures.valid c.args.b.now c.requires.1

pub put_part_back-requires-2 : goal.put_part_back-requires-2
put_part_back-requires-2 c =
    let at = c.newest_at-at in
    let k : Bytes c.args.u.now = λ i. (c.type_inv.u i).fits in
    second_fits at.result c.args.u.now at.ensures.room k at.ensures.valid _ (omega (arith, c.requires.1, c.put_part_back.auto.b))

pub returns : goal.returns
returns c s e =
    let at = c.newest_at-at in
    let k : Bytes c.args.u.now = λ i. (c.type_inv.u i).fits in
    c.put_part_back-2.ensures
    ∙ ap (part_back c.args.u.now (at.result + second_at)) c.put_part_back.ensures
    ∙ both-back at.result c.args.u.now at.ensures.room k at.ensures.valid c.args.b.now
    ∙ ap (put_back c.args.b.now) (some_same (sym at.ensures.slot ∙ e))
