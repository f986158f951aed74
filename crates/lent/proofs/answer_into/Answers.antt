-- `lent::answer_into` meets its contract. Assumes nothing.
use native.Mathlib.Omega.{arith}
use mathlib.Core.Path.{refl, sym, subst, ◌∙◌}
use Rattle.calls.specs.Lent.{taken, lent_call, Leaves}
use Rattle.calls.proofs.Refused.{lent-short, lent-done}
use Rattle.lent.proofs.answer_into.Goals as goal

pub returns-then-out-lt-ANSWER : goal.returns-then-out-lt-ANSWER
returns-then-out-lt-ANSWER c =
    let a = c.args in
    λ h. subst (λ n. Leaves (lent_call (taken a.values.now) h h a.out.now) n h a.out.now) (sym c.from.ensures)
    (lent-short (taken a.values.now) h h a.out.now refl c.if-out-lt-ANSWER.true)

pub returns : goal.returns
returns c =
    let a = c.args in
    λ h.
    let l = lent-done (taken a.values.now) h h a.out.now refl (omega (arith, c.if-out-lt-ANSWER.false)) in
    record { number = l.number; bytes = l.bytes; answer = c.put_values.ensures ∙ l.answer }
