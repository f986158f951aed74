-- `marshal::step_held_into` meets its contract. Assumes nothing.
use native.Mathlib.Omega.{arith}
use mathlib.Core.Path.{sym, ap, ◌∙◌}
use lib.ListN.{length}
use Rattle.model.specs.Answers.{Answer, plain}
use Rattle.model.specs.Call.{words_of}
use Rattle.answer.specs.Meaning.{meaning}
use Rattle.calls.specs.Lent.{with_answer}
use Rattle.stepback.specs.Held.{bench_of, step_held_on}
use Rattle.stepback.specs.Lent.{step_held_lent}
use Rattle.stepback.proofs.HeldLaws.{step-keeps-bench}
use Rattle.stepback.proofs.LentLaws.{held-tried, held-refused, held-done}
use Rattle.marshal.proofs.Answers.{answer-values}
use Rattle.marshal.proofs.step_held_into.Goals as goal

pub returns-then-out-lt-ANSWER : goal.returns-then-out-lt-ANSWER
unfolding step_held_lent
returns-then-out-lt-ANSWER c =
    let a = c.args in
    held-tried (plain (step_held_on (bench_of a.hall.now a.undo.now) (words_of a.k a.r a.a a.b)).answer) (bench_of a.hall.now a.undo.now) (step_held_on (bench_of a.hall.now a.undo.now) (words_of a.k a.r a.a a.b)).left a.out.now _ c.try_step_held.ensures c.if-out-lt-ANSWER.true

pub returns-then-x-ne0 : goal.returns-then-x-ne0
unfolding step_held_lent
returns-then-x-ne0 c =
    let a = c.args in
    let y = c.step_held.ensures in
    let e = c.plain-x.ensures.number ∙ ap (λ (x : Answer). (plain x).number) y.answer in
    held-refused (plain (step_held_on (bench_of a.hall.now a.undo.now) (words_of a.k a.r a.a a.b)).answer) (bench_of a.hall.now a.undo.now) (step_held_on (bench_of a.hall.now a.undo.now) (words_of a.k a.r a.a a.b)).left a.out.now _ e c.if-x-ne0.true (step-keeps-bench (bench_of a.hall.now a.undo.now) (words_of a.k a.r a.a a.b) (λ z. c.if-x-ne0.true (e ∙ z))) y.left

pub put_values-requires : goal.put_values-requires
put_values-requires c = (omega (arith, ap length c.plain-x.ensures.values, answer-values (meaning c.step_held.result)), omega (arith, c.if-out-lt-ANSWER.false))

pub returns : goal.returns
unfolding step_held_lent
returns c =
    let a = c.args in
    let y = c.step_held.ensures in
    let p = c.plain-x.ensures in
    held-done (plain (step_held_on (bench_of a.hall.now a.undo.now) (words_of a.k a.r a.a a.b)).answer) (bench_of a.hall.now a.undo.now) (step_held_on (bench_of a.hall.now a.undo.now) (words_of a.k a.r a.a a.b)).left a.out.now (sym (p.number ∙ ap (λ (x : Answer). (plain x).number) y.answer) ∙ c.if-x-ne0.false) (omega (arith, c.if-out-lt-ANSWER.false)) y.left
    (c.put_values.ensures ∙ ap (with_answer a.out.now) (p.values ∙ ap (λ (x : Answer). (plain x).values) y.answer))
