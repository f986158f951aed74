-- `marshal::step_into` meets its contract. Assumes nothing.
use lib.ListN.{length}
use mathlib.Core.Path.{sym, ap, ◌∙◌}
use native.Mathlib.Omega.{arith}
use Rattle.model.specs.Call.{words_of}
use Rattle.model.specs.Answers.{Answer, plain}
use Rattle.answer.specs.Meaning.{meaning}
use Rattle.calls.specs.Lent.{with_answer, step_lent}
use Rattle.calls.specs.Calls.{step_on}
use Rattle.calls.proofs.Refused.{step_keeps, lent-refused, lent-tried, lent-done}
use Rattle.marshal.proofs.Answers.{answer-values}
use Rattle.marshal.proofs.step_into.Goals as goal

pub returns-then-out-lt-ANSWER : goal.returns-then-out-lt-ANSWER
unfolding step_lent
returns-then-out-lt-ANSWER c =
    let a = c.args in
    let w = words_of a.k a.r a.a a.b in
    lent-tried (plain (step_on a.hall.now w).answer) a.hall.now (step_on a.hall.now w).bytes a.out.now _ c.try_step.ensures c.if-out-lt-ANSWER.true

pub returns-then-x-ne0 : goal.returns-then-x-ne0
unfolding step_lent
returns-then-x-ne0 c =
    let a = c.args in
    let w = words_of a.k a.r a.a a.b in
    let l = lent-refused (plain (step_on a.hall.now w).answer) a.hall.now (step_on a.hall.now w).bytes a.out.now _ (c.plain-x.ensures.number ∙ ap (λ (x : Answer). (plain x).number) c.step.ensures.answer) c.if-x-ne0.true in
    record { number = l.number; bytes = c.step.ensures.bytes ∙ step_keeps a.hall.now w (λ z. c.if-x-ne0.true ((c.plain-x.ensures.number ∙ ap (λ (x : Answer). (plain x).number) c.step.ensures.answer) ∙ z)) ∙ l.bytes; answer = l.answer }

pub put_values-requires : goal.put_values-requires
put_values-requires c = (omega (arith, ap length c.plain-x.ensures.values, answer-values (meaning c.step.result)), omega (arith, c.if-out-lt-ANSWER.false))

pub returns : goal.returns
unfolding step_lent
returns c =
    let a = c.args in
    let w = words_of a.k a.r a.a a.b in
    let e = c.put_values.ensures ∙ ap (with_answer a.out.now) (c.plain-x.ensures.values ∙ ap (λ (x : Answer). (plain x).values) c.step.ensures.answer) in
    let l = lent-done (plain (step_on a.hall.now w).answer) a.hall.now (step_on a.hall.now w).bytes a.out.now (sym (c.plain-x.ensures.number ∙ ap (λ (x : Answer). (plain x).number) c.step.ensures.answer) ∙ c.if-x-ne0.false) (omega (arith, c.if-out-lt-ANSWER.false)) in
    record { number = l.number; bytes = c.step.ensures.bytes ∙ l.bytes; answer = e ∙ l.answer }
