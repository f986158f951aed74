-- The call's words. Assumes nothing.
use mathlib.Core.Path.{sym, ap, subst, ◌∙◌}
use Rattle.model.specs.Call.{Words}
use Rattle.model.specs.KindNumbers.{kind_number}
use Rattle.model.specs.Settle.{settle_call}
use Rattle.undo.specs.Code.{Accepts}
use Rattle.stepback.specs.Held.{bench_of, step_held_on}
use Rattle.stepback.specs.Steps.{Left}
use Rattle.stepback.proofs.HeldTurns.{call-words}
use Rattle.stepback.proofs.take_call.Goals as goal

pub take_held-requires : goal.take_held-requires
take_held-requires c =
    let a = c.args in
    let w = c.view_word-a in
    let e = w.ensures ∙ ap (λ n. (settle_call a.v.number n 0).a) c.from.ensures in
    (c.requires.0, subst (Accepts a.hall.now) (sym (call-words a.v.number (kind_number a.k) a.r w.result e)) c.requires.1)

pub returns : goal.returns
returns c =
    let a = c.args in
    let w = c.view_word-a in
    let e = w.ensures ∙ ap (λ n. (settle_call a.v.number n 0).a) c.from.ensures in
    let t = c.take_held in
    subst (λ (w : Words). Left (step_held_on (bench_of a.hall.now a.undo.now) w).left t.new.hall t.new.undo)
    (call-words a.v.number (kind_number a.k) a.r w.result e) t.ensures.left
