-- By the room. Assumes nothing.
use Rattle.std.proofs.Common.{rules}
use Rattle.marshal_text.proofs.LineLaws.{print-no-text, print-no-answer, print-done}
use Rattle.marshal_text.proofs.put_line.Goals as goal
use Rattle.marshal_text.proofs.put_line.Goals.{then-text-x-via-then-text-x, then-text-x-via-else-text-x+then-out-lt-ANSWER}

pub returns-then-text-x : goal.returns-then-text-x
returns-then-text-x c = λ t p.
    let a = c.args in
    rw c.from.ensures (elim c.then-text-x.branch [
      | then-text-x-via-then-text-x w ↦ print-no-text t a.text.now a.out.now a.x p w.if-text-x.true
      | then-text-x-via-else-text-x+then-out-lt-ANSWER w ↦ print-no-answer t a.text.now a.out.now a.x p w.if-text-x.false w.if-out-lt-ANSWER.true
    ])

pub returns : goal.returns
returns c = λ t p.
    let a = c.args in
    print-done t a.text.now a.out.now a.x p (search rules) (search rules) _ _ c.put_bytes.ensures c.put_values.ensures
