-- 11 and 31, then 43, then the step's own. Assumes nothing.
use mathlib.Core.Path.{sym, ap, ◌∙◌}
use Rattle.model.specs.Answers.{plain}
use Rattle.model.specs.Call.{words_of}
use Rattle.model.proofs.RefusalNumbersLaws.{exit, stops, goes-on}
use Rattle.calls.specs.Calls.{step_on}
use Rattle.step.proofs.StepsLaws.{early-passed}
use Rattle.stepback.specs.Held.{bench_of}
use Rattle.stepback.proofs.HeldLaws.{step-number}
use Rattle.stepback.proofs.step_held_refusal.Goals as goal

pub returns-in_err-kind-clause-number : goal.returns-in_err-kind-clause-number
returns-in_err-kind-clause-number c =
    let a = c.args in
    stops c.from_residual.result _ _ c.from_residual.ensures.1 c.in_err-kind.ensures.number
    ∙ sym (step-number (bench_of a.hall.now a.undo.now) (words_of a.k a.r a.a a.b))

pub returns-in_err-undo_refusal-clause-number : goal.returns-in_err-undo_refusal-clause-number
returns-in_err-undo_refusal-clause-number c =
    let a = c.args in
    let r = c.from_residual-in_err-undo_refusal in
    goes-on c.in_ok-kind.ensures.number (stops r.result _ _ r.ensures.1 c.in_err-undo_refusal.ensures)
    ∙ sym (step-number (bench_of a.hall.now a.undo.now) (words_of a.k a.r a.a a.b))

pub refusal_kind-requires : goal.refusal_kind-requires
refusal_kind-requires c = early-passed _ _ c.in_ok-kind.ensures.number

pub returns-in_err-refusal_kind-clause-number : goal.returns-in_err-refusal_kind-clause-number
returns-in_err-refusal_kind-clause-number c =
    let a = c.args in
    let r = c.from_residual-in_err-refusal_kind in
    let words =
    exit r.result _ r.ensures.1 ∙ c.in_err-refusal_kind.ensures
    ∙ ap (λ j. (plain (step_on a.hall.now (words_of j a.r a.a a.b)).answer).number) c.in_ok-kind.ensures.kind in
    goes-on c.in_ok-kind.ensures.number (goes-on c.in_ok-undo_refusal.ensures words)
    ∙ sym (step-number (bench_of a.hall.now a.undo.now) (words_of a.k a.r a.a a.b))

pub returns-clause-number : goal.returns-clause-number
returns-clause-number c =
    let a = c.args in
    goes-on c.in_ok-kind.ensures.number
    (goes-on c.in_ok-undo_refusal.ensures
    (c.in_ok-refusal_kind.ensures
    ∙ ap (λ j. (plain (step_on a.hall.now (words_of j a.r a.a a.b)).answer).number) c.in_ok-kind.ensures.kind))
    ∙ sym (step-number (bench_of a.hall.now a.undo.now) (words_of a.k a.r a.a a.b))
