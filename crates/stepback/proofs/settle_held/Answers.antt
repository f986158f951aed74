-- Judged, then its turns. Assumes nothing.
use mathlib.Core.Path.{sym}
use Rattle.settling.proofs.CopyLaws.{view-there}
use Rattle.stepback.specs.Held.{bench_of}
use Rattle.stepback.proofs.HeldLaws.{settle-links}
use Rattle.stepback.proofs.HeldCode.{settle-refuses}
use Rattle.stepback.proofs.HeldTurns.{settle-free, settle-turns}
use Rattle.stepback.proofs.settle_held.Goals as goal

pub returns-in_err-settle_held_refusal : goal.returns-in_err-settle_held_refusal
returns-in_err-settle_held_refusal c =
    let a = c.args in
    settle-refuses a.hall.now a.undo.now c.from_residual.result _ c.from_residual.ensures.1 c.in_err-settle_held_refusal.ensures

pub view_count-requires : goal.view_count-requires
view_count-requires c = (settle-links (bench_of c.args.hall.now c.args.undo.now) (sym c.in_ok-settle_held_refusal.ensures)).0

pub greatest_view-v-requires : goal.greatest_view-v-requires
greatest_view-v-requires c =
    let a = c.args in
    let z = c.in_ok-settle_held_refusal.ensures in
    let many = c.view_count.ensures.value in (
      (settle-links (bench_of a.hall.now a.undo.now) (sym z)).0,
      view-there a.hall.now c.view_count.result many (settle-free (bench_of a.hall.now a.undo.now) z),
      many,
    )

pub take_turns-requires : goal.take_turns-requires
take_turns-requires c =
    let a = c.args in
    let links = settle-links (bench_of a.hall.now a.undo.now) (sym c.in_ok-settle_held_refusal.ensures) in
    (record { holds = links.0; view = c.greatest_view-v.ensures }, links.1)

pub returns : goal.returns
returns c =
    let a = c.args in
    let v = c.greatest_view-v in
    settle-turns a.hall.now a.undo.now c.in_ok-settle_held_refusal.ensures v.result v.ensures _ _ _ c.take_turns.ensures
