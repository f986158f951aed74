-- 31, 43 by the buffer, 43 by what it holds. Assumes nothing.
use mathlib.Core.Path.{sym, ap, ◌∙◌}
use mathlib.Core.Bool.{Bool, not}
use Rattle.base.specs.Chains.{refuse}
use Rattle.model.proofs.RefusalNumbersLaws.{stops, goes-on}
use Rattle.step.proofs.StepsLaws.{bytes-hold}
use Rattle.stepback.specs.Held.{back_number}
use Rattle.stepback.proofs.HeldLaws.{undo-in_form}
use Rattle.stepback.proofs.step_back_refusal.Goals as goal

pub returns-in_err-bytes_refusal : goal.returns-in_err-bytes_refusal
unfolding back_number
returns-in_err-bytes_refusal c = stops c.from_residual.result _ _ c.from_residual.ensures.1 c.in_err-bytes_refusal.ensures

pub returns-in_err-undo_refusal : goal.returns-in_err-undo_refusal
unfolding back_number
returns-in_err-undo_refusal c =
    let r = c.from_residual-in_err-undo_refusal in
    goes-on c.in_ok-bytes_refusal.ensures (stops r.result _ _ r.ensures.1 c.in_err-undo_refusal.ensures)

pub can_step_back-requires : goal.can_step_back-requires
can_step_back-requires c = (
  bytes-hold c.args.hall.now (sym c.in_ok-bytes_refusal.ensures),
  undo-in_form c.args.undo.now (sym c.in_ok-undo_refusal.ensures),
)

pub returns : goal.returns
unfolding back_number
returns c =
    goes-on c.in_ok-bytes_refusal.ensures
    (goes-on c.in_ok-undo_refusal.ensures (c.refuse.ensures ∙ ap (λ (t : Bool). refuse (not t) 43) c.can_step_back.ensures))
