-- What the check says of the bytes. Assumes nothing.
use mathlib.Core.Path.{sym, ◌∙◌}
use Rattle.base.proofs.Bools.{by_cases}
use Rattle.model.proofs.RefusalNumbersLaws.{has-number}
use Rattle.store.specs.StoredForm.{is_stored}
use Rattle.step.proofs.StepsLaws.{bytes-hall, bytes-hold}
use Rattle.runfile.specs.Answers.{actions_of}
use Rattle.bench_api.proofs.Runs.{run-broken}
use Rattle.bench_api.proofs.hall_steps.Goals as goal

pub returns-in-Err-clause-bytes : goal.returns-in-Err-clause-bytes
returns-in-Err-clause-bytes c =
    let a = c.args in
    run-broken a.hall.now (actions_of a.actions.now)
    (by_cases (is_stored a.hall.now) (λ t. absurd (has-number c.in-Err.why (c.in-Err.ensures ∙ sym (bytes-hall a.hall.now t)))) (λ t. t))

pub run-requires : goal.run-requires
run-requires c = bytes-hold _ (sym c.in_default.ensures)
