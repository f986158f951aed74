-- Refused, or the newest slot is put back and popped. Assumes nothing.
use Rattle.store.proofs.StoredFormLaws.{is_stored-long}
use Rattle.stepback.proofs.BackLaws.{back-holds, back-refused, back_done}
use Rattle.stepback.proofs.step_back.Goals as goal

pub returns-in_err-step_back_refusal : goal.returns-in_err-step_back_refusal
returns-in_err-step_back_refusal c =
    let a = c.args in
    back-refused a.hall.now a.undo.now c.from_residual.result _ c.from_residual.ensures.1 c.in_err-step_back_refusal.ensures

pub put_back-requires : goal.put_back-requires
put_back-requires c =
    let a = c.args in
    let h = back-holds a.hall.now a.undo.now c.in_ok-step_back_refusal.ensures in
    (h.1, is_stored-long a.hall.now h.0)

pub pop-requires : goal.pop-requires
pop-requires c = (back-holds c.args.hall.now c.args.undo.now c.in_ok-step_back_refusal.ensures).1

pub returns : goal.returns
returns c = back_done c.args.hall.now c.args.undo.now c.in_ok-step_back_refusal.ensures _ _ c.put_back.ensures c.pop.ensures
