-- 11, then the kind. Assumes nothing.
use mathlib.Core.Path.{ap, subst, ◌∙◌}
use Rattle.model.specs.Answers.{plain}
use Rattle.model.specs.Call.{words_of}
use Rattle.model.specs.RefusalNumbers.{number}
use Rattle.calls.specs.Calls.{step_on}
use Rattle.calls.specs.Steps.{Steps}
use Rattle.step.proofs.StepsLaws as steps
use Rattle.step.proofs.step_hall.Goals as goal

pub returns-in_err-kind : goal.returns-in_err-kind
returns-in_err-kind c =
    let a = c.args in
    let e = c.in_err-kind.ensures in
    steps.refused a.bytes.now a.k a.r a.a a.b 11 (steps.kind-is a.bytes.now a.k a.r a.a a.b e.0) _ (ap number e.1) c.from_residual.result c.from_residual.ensures.1

pub returns : goal.returns
returns c = subst (λ j. Steps c.args.bytes.now j c.args.r c.args.a c.args.b c.step_kind.result c.step_kind.new.bytes) c.in_ok-kind.ensures.1 c.step_kind.ensures
