-- The field, read. Assumes nothing.
use Rattle.std.proofs.Common.{None, Some, rules}
use Rattle.parsing.proofs.LinesAt.{field-off, field-on}
use Rattle.parsing.proofs.take_field.Goals as goal

pub returns-in_err-value : goal.returns-in_err-value
returns-in_err-value g c = λ value reads.
    let s = c.next_field-f in
    rw c.from_residual.ensures
    (field-off c.args.text.now c.args.at s.result.from s.result.to s.ensures value (reads _ None (search rules)))

pub returns : goal.returns
returns g c = λ value reads.
    let s = c.next_field-f in
    field-on c.args.text.now c.args.at s.result.from s.result.to s.ensures value c.in_ok-value.value (reads _ (Some c.in_ok-value.value) (search rules))
