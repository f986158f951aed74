-- By the listing. Assumes nothing.
use native.Mathlib.Omega.{arith}
use Rattle.replaying.proofs.LentLaws.{list-no-room, list-refused, list_done, list_length}
use Rattle.marshal_text.proofs.list_into.Goals as goal

pub returns-then-out-lt-ANSWER : goal.returns-then-out-lt-ANSWER
returns-then-out-lt-ANSWER c =
    let a = c.args in
    rw c.from.ensures (list-no-room a.file.now a.hall.now a.text.now a.out.now c.if-out-lt-ANSWER.true)

pub returns-in-Err : goal.returns-in-Err
returns-in-Err c =
    let a = c.args in
    rw c.from-in-Err.ensures (list-refused a.file.now a.hall.now a.text.now a.out.now c.in-Err.ensures)

pub overflow_cast-length : goal.overflow_cast-length
overflow_cast-length c =
    let a = c.args in
    omega (arith, list_length a.file.now a.hall.now a.text.now a.out.now c.in-Ok.ensures (λ i. (c.type_inv.file i).fits))

pub returns-in-Ok : goal.returns-in-Ok
returns-in-Ok c =
    let a = c.args in
    list_done a.file.now a.hall.now a.text.now a.out.now c.in-Ok.ensures (omega (arith, c.if-out-lt-ANSWER.false)) c.put_values.ensures
