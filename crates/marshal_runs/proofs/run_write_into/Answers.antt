-- `marshal_runs::run_write_into` meets its contract. Assumes nothing.
use native.Mathlib.Omega.{arith}
use mathlib.Core.Path.{sym, ap, ◌∙◌}
use Rattle.model.specs.RunFile.{WriteAnswer, write_file}
use Rattle.model.proofs.RefusalNumbersLaws.{has-number}
use Rattle.runfile.specs.Answers.{file_opening, run_of, written_meaning}
use Rattle.calls.specs.Lent.{with_answer}
use Rattle.calls.specs.RunsLent.{written_words, run_write_lent}
use Rattle.calls.proofs.Refused.{lent-refused, lent-tried, lent-done}
use Rattle.marshal_runs.proofs.Runs.{written_is, refused-write, write-length}
use Rattle.marshal_runs.proofs.run_write_into.Goals as goal

pub returns-then-out-lt-ANSWER : goal.returns-then-out-lt-ANSWER
unfolding run_write_lent
returns-then-out-lt-ANSWER c =
    let a = c.args in
    let o = write_file (run_of (file_opening a.o) a.actions.now) a.file.now in
    lent-tried (written_words o.answer) a.file.now o.bytes a.out.now _ (c.try_write.ensures a.file.now) c.if-out-lt-ANSWER.true

pub overflow_cast-length : goal.overflow_cast-length
unfolding written_meaning
overflow_cast-length c = omega (arith, write-length _ _ _ (written_is c.write.ensures.0 c.in-Ok.is))

pub returns-in-Err : goal.returns-in-Err
unfolding run_write_lent written_meaning written_words
returns-in-Err c =
    let a = c.args in
    let x = run_of (file_opening a.o) a.actions.now in
    let o = write_file x a.file.now in
    let w = written_is c.write.ensures.0 c.in-Err.is in
    let l =
    lent-refused (written_words o.answer) a.file.now o.bytes a.out.now c.from.result
    (c.from.ensures ∙ sym (ap (λ (z : WriteAnswer). (written_words z).number) w))
    (λ z. has-number c.in-Err.why (sym c.from.ensures ∙ z)) in
    record { number = l.number; bytes = c.write.ensures.1 ∙ (refused-write x a.file.now _ w).1 ∙ l.bytes; answer = l.answer }

pub returns-in-Ok : goal.returns-in-Ok
unfolding run_write_lent written_meaning written_words
returns-in-Ok c =
    let a = c.args in
    let o = write_file (run_of (file_opening a.o) a.actions.now) a.file.now in
    let w = written_is c.write.ensures.0 c.in-Ok.is in
    let l = lent-done (written_words o.answer) a.file.now o.bytes a.out.now (ap (λ (z : WriteAnswer). (written_words z).number) w) (omega (arith, c.if-out-lt-ANSWER.false)) in
    record {
      number = l.number;
      bytes = c.write.ensures.1 ∙ l.bytes;
      answer = c.put_values.ensures ∙ ap (λ (z : WriteAnswer). with_answer a.out.now (written_words z).values) (sym w) ∙ l.answer;
    }
