-- The four words at the slot's c. Assumes nothing.
use mathlib.Core.Path.{sym, ap, ◌∙◌}
use Rattle.undo.specs.Buffer.{Slot}
use Rattle.undo.proofs.SlotAt.{words_same, slot-words}
use Rattle.undo.proofs.PartAt.{Bytes}
use Rattle.undo.proofs.Rooms.{some_same}
use Rattle.undo.proofs.newest_action.Goals as goal

pub returns : goal.returns
returns c s e =
    let at = c.newest_at-at in
    let k : Bytes c.args.u.now = λ i. (c.type_inv.u i).fits in
    words_same c.get_u32.ensures c.get_u32-2.ensures c.get_u32-3.ensures c.get_u32-4.ensures
    ∙ sym (slot-words at.result c.args.u.now at.ensures.room k)
    ∙ ap (λ (x : Slot). x.words) (some_same (sym at.ensures.slot ∙ e))
