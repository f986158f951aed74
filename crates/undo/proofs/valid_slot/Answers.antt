-- By its two parts. Assumes nothing.
use mathlib.Core.Path.{sym, ap₂, ◌∙◌}
use mathlib.Core.Bool.{◌&&◌}
use Rattle.undo.proofs.SlotAt.{slot-valid}
use Rattle.undo.proofs.valid_slot.Goals as goal

pub returns : goal.returns
returns c =
    ap₂ ◌&&◌ c.valid_part.ensures c.valid_part-2.ensures
    ∙ sym (slot-valid c.args.at c.args.u.now c.requires (λ i. (c.type_inv.u i).fits))
