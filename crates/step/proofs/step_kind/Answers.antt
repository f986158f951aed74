-- 12 to 15, then the kind. Assumes nothing.
use mathlib.Core.Path.{refl}
use Rattle.model.specs.KindNumbers.{kind_meaning, kind_number}
use Rattle.model.proofs.KindNumbersLaws.{number-names}
use Rattle.step.proofs.StepsLaws as steps
use Rattle.step.proofs.step_kind.Goals as goal

pub returns-in_err-input_refusal : goal.returns-in_err-input_refusal
returns-in_err-input_refusal c =
    let a = c.args in
    steps.refused a.bytes.now (kind_number a.k) a.r a.a a.b _
    (steps.words-is a.bytes.now (kind_number a.k) a.r a.a a.b (kind_meaning a.k) (number-names a.k) c.requires _ _ c.size.ensures.value c.in_err-input_refusal.ensures)
    _ refl c.from_residual.result c.from_residual.ensures.1

pub act-requires : goal.act-requires
act-requires c =
    let a = c.args in
    steps.judged a.bytes.now (kind_number a.k) a.r a.a a.b (kind_meaning a.k) (number-names a.k) c.requires _ c.size.ensures.value c.in_ok-input_refusal.ensures

pub returns : goal.returns
returns c =
    let a = c.args in
    let j = steps.judged a.bytes.now (kind_number a.k) a.r a.a a.b (kind_meaning a.k) (number-names a.k) c.requires _ c.size.ensures.value c.in_ok-input_refusal.ensures in
    steps.acted a.bytes.now (kind_number a.k) a.r a.a a.b (kind_meaning a.k) (number-names a.k) c.requires _ _ j c.act.ensures
