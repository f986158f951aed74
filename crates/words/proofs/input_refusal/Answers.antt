-- The four tests in turn. Assumes nothing.
use mathlib.Core.Path.{◌≡◌, ◌∙◌}
use Rattle.model.specs.KindNumbers.{kind_meaning}
use Rattle.model.proofs.RefusalNumbersLaws.{stops, goes-on}
use Rattle.words.proofs.WordsLaws.{by_row, of_test, of-tests}
use Rattle.words.proofs.input_refusal.Goals as goal

pub returns-in_err-refuse : goal.returns-in_err-refuse
returns-in_err-refuse c =
    let a = c.args in
    let u = c.uses_of-of_r in
    stops c.from_residual.result _ _ c.from_residual.ensures.1 (of_test 12 c.in_err-refuse.ensures c.wrong_recorder-recorder.ensures)
    ∙ by_row a.n (kind_meaning a.k) a.r a.a a.b u.result u.ensures

pub returns-in_err-refuse-2 : goal.returns-in_err-refuse-2
returns-in_err-refuse-2 c =
    let a = c.args in
    let u = c.uses_of-of_r in
    let r = c.from_residual-in_err-refuse-2 in
    goes-on (of_test 12 c.in_ok-refuse.ensures c.wrong_recorder-recorder.ensures)
    (stops r.result _ _ r.ensures.1 (of-tests 13 c.in_err-refuse-2.ensures c.stray_word.ensures c.stray_word-2.ensures))
    ∙ by_row a.n (kind_meaning a.k) a.r a.a a.b u.result u.ensures

pub returns-in_err-refuse-3 : goal.returns-in_err-refuse-3
returns-in_err-refuse-3 c =
    let a = c.args in
    let u = c.uses_of-of_r in
    let r = c.from_residual-in_err-refuse-3 in
    goes-on (of_test 12 c.in_ok-refuse.ensures c.wrong_recorder-recorder.ensures)
    (goes-on (of-tests 13 c.in_ok-refuse-2.ensures c.stray_word.ensures c.stray_word-2.ensures)
    (stops r.result _ _ r.ensures.1 (of-tests 14 c.in_err-refuse-3.ensures c.wrong_number.ensures c.wrong_number-2.ensures)))
    ∙ by_row a.n (kind_meaning a.k) a.r a.a a.b u.result u.ensures

pub returns : goal.returns
returns c =
    let a = c.args in
    let u = c.uses_of-of_r in
    goes-on (of_test 12 c.in_ok-refuse.ensures c.wrong_recorder-recorder.ensures)
    (goes-on (of-tests 13 c.in_ok-refuse-2.ensures c.stray_word.ensures c.stray_word-2.ensures)
    (goes-on (of-tests 14 c.in_ok-refuse-3.ensures c.wrong_number.ensures c.wrong_number-2.ensures)
    (of-tests 15 c.refuse-4.ensures c.wrong_set.ensures c.wrong_set-2.ensures)))
    ∙ by_row a.n (kind_meaning a.k) a.r a.a a.b u.result u.ensures
