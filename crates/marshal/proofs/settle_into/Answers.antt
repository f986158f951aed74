-- `marshal::settle_into` meets its contract. Assumes nothing.
use lib.ListN.{length}
use mathlib.Core.Path.{sym, ap, ◌∙◌}
use native.Mathlib.Omega.{arith}
use Rattle.model.specs.Answers.{Plain}
use Rattle.calls.specs.Lent.{with_answer, settle_lent}
use Rattle.calls.specs.Calls.{settle_on}
use Rattle.calls.proofs.Refused.{refused-keeps, lent-refused, lent-tried, lent-done}
use Rattle.marshal.proofs.Answers.{settled-values}
use Rattle.marshal.proofs.settle_into.Goals as goal

pub returns-then-out-lt-ANSWER : goal.returns-then-out-lt-ANSWER
unfolding settle_lent
returns-then-out-lt-ANSWER c =
    let a = c.args in
    lent-tried (settle_on a.hall.now).answer a.hall.now (settle_on a.hall.now).bytes a.out.now _ c.try_settle.ensures c.if-out-lt-ANSWER.true

pub returns-then-x-ne0 : goal.returns-then-x-ne0
unfolding settle_lent
returns-then-x-ne0 c =
    let a = c.args in
    let b = a.hall.now in
    let number = c.plain_settled-x.ensures.number ∙ ap (λ (p : Plain). p.number) c.settle.ensures.answer in
    let l = lent-refused (settle_on b).answer b (settle_on b).bytes a.out.now _ number c.if-x-ne0.true in
    record {
      number = l.number;
      bytes = c.settle.ensures.bytes ∙ refused-keeps.settle b (λ z. c.if-x-ne0.true (number ∙ z)) ∙ l.bytes;
      answer = l.answer;
    }

pub put_values-requires : goal.put_values-requires
put_values-requires c =
    (omega (arith, ap length c.plain_settled-x.ensures.values, settled-values c.settle.result), omega (arith, c.if-out-lt-ANSWER.false))

pub returns : goal.returns
unfolding settle_lent
returns c =
    let a = c.args in
    let b = a.hall.now in
    let answer = c.settle.ensures.answer in
    let e = c.put_values.ensures ∙ ap (with_answer a.out.now) (c.plain_settled-x.ensures.values ∙ ap (λ (p : Plain). p.values) answer) in
    let l = lent-done (settle_on b).answer b (settle_on b).bytes a.out.now
    (sym (c.plain_settled-x.ensures.number ∙ ap (λ (p : Plain). p.number) answer) ∙ c.if-x-ne0.false) (omega (arith, c.if-out-lt-ANSWER.false)) in
    record { number = l.number; bytes = c.settle.ensures.bytes ∙ l.bytes; answer = e ∙ l.answer }
