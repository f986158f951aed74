-- `marshal::settle_held_into` meets its contract. Assumes nothing.
use native.Mathlib.Omega.{arith}
use mathlib.Core.Path.{sym, ap, ◌∙◌}
use lib.ListN.{length}
use Rattle.model.specs.Answers.{Plain}
use Rattle.calls.specs.Lent.{with_answer}
use Rattle.stepback.specs.Held.{bench_of, settle_held_on}
use Rattle.stepback.specs.Lent.{settle_held_lent}
use Rattle.stepback.proofs.HeldLaws.{settle-keeps-bench}
use Rattle.stepback.proofs.LentLaws.{held-tried, held-refused, held-done}
use Rattle.marshal.proofs.Answers.{settled-values}
use Rattle.marshal.proofs.settle_held_into.Goals as goal

pub returns-then-out-lt-ANSWER : goal.returns-then-out-lt-ANSWER
unfolding settle_held_lent
returns-then-out-lt-ANSWER c =
    let a = c.args in
    held-tried (settle_held_on (bench_of a.hall.now a.undo.now)).answer (bench_of a.hall.now a.undo.now) (settle_held_on (bench_of a.hall.now a.undo.now)).left a.out.now _ c.try_settle_held.ensures c.if-out-lt-ANSWER.true

pub returns-then-x-ne0 : goal.returns-then-x-ne0
unfolding settle_held_lent
returns-then-x-ne0 c =
    let a = c.args in
    let y = c.settle_held.ensures in
    let e = c.plain_settled-x.ensures.number ∙ ap (λ (x : Plain). x.number) y.answer in
    held-refused (settle_held_on (bench_of a.hall.now a.undo.now)).answer (bench_of a.hall.now a.undo.now) (settle_held_on (bench_of a.hall.now a.undo.now)).left a.out.now _ e c.if-x-ne0.true (settle-keeps-bench (bench_of a.hall.now a.undo.now) (λ z. c.if-x-ne0.true (e ∙ z))) y.left

pub put_values-requires : goal.put_values-requires
put_values-requires c = (omega (arith, ap length c.plain_settled-x.ensures.values, settled-values c.settle_held.result), omega (arith, c.if-out-lt-ANSWER.false))

pub returns : goal.returns
unfolding settle_held_lent
returns c =
    let a = c.args in
    let y = c.settle_held.ensures in
    let p = c.plain_settled-x.ensures in
    held-done (settle_held_on (bench_of a.hall.now a.undo.now)).answer (bench_of a.hall.now a.undo.now) (settle_held_on (bench_of a.hall.now a.undo.now)).left a.out.now (sym (p.number ∙ ap (λ (x : Plain). x.number) y.answer) ∙ c.if-x-ne0.false) (omega (arith, c.if-out-lt-ANSWER.false)) y.left
    (c.put_values.ensures ∙ ap (with_answer a.out.now) (p.values ∙ ap (λ (x : Plain). x.values) y.answer))
