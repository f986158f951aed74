-- 31, 42, 43, or what a settle on a copy gives. Assumes nothing.
use mathlib.Core.Path.{sym}
use Rattle.model.proofs.RefusalNumbersLaws.{stops, goes-on}
use Rattle.step.proofs.StepsLaws.{bytes-hold}
use Rattle.stepback.specs.Held.{settle_held_number}
use Rattle.stepback.proofs.settle_held_refusal.Goals as goal

pub returns-in_err-bytes_refusal : goal.returns-in_err-bytes_refusal
unfolding settle_held_number
returns-in_err-bytes_refusal c = stops c.from_residual.result _ _ c.from_residual.ensures.1 c.in_err-bytes_refusal.ensures

pub bar_refusal-requires : goal.bar_refusal-requires
bar_refusal-requires c = bytes-hold c.args.hall.now (sym c.in_ok-bytes_refusal.ensures)

pub returns-in_err-bar_refusal : goal.returns-in_err-bar_refusal
unfolding settle_held_number
returns-in_err-bar_refusal c =
    let r = c.from_residual-in_err-bar_refusal in
    goes-on c.in_ok-bytes_refusal.ensures (stops r.result _ _ r.ensures.1 c.in_err-bar_refusal.ensures)

pub returns-in_err-undo_refusal : goal.returns-in_err-undo_refusal
unfolding settle_held_number
returns-in_err-undo_refusal c =
    let r = c.from_residual-in_err-undo_refusal in
    goes-on c.in_ok-bytes_refusal.ensures (goes-on c.in_ok-bar_refusal.ensures (stops r.result _ _ r.ensures.1 c.in_err-undo_refusal.ensures))

pub returns : goal.returns
unfolding settle_held_number
returns c =
    goes-on c.in_ok-bytes_refusal.ensures (goes-on c.in_ok-bar_refusal.ensures (goes-on c.in_ok-undo_refusal.ensures c.settle_refusal.ensures))
