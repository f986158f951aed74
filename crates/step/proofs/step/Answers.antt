-- 11 and 31, then the kind. Assumes nothing.
use mathlib.Core.Path.{refl, ap, subst, ◌∙◌}
use Rattle.model.specs.Answers.{plain}
use Rattle.model.specs.Call.{words_of}
use Rattle.calls.specs.Calls.{step_on}
use Rattle.calls.specs.Steps.{Steps}
use Rattle.step.proofs.StepsLaws as steps
use Rattle.step.proofs.step.Goals as goal

pub returns-in_err-kind : goal.returns-in_err-kind
returns-in_err-kind c =
    let a = c.args in
    steps.refused a.bytes.now a.k a.r a.a a.b _ (steps.early-is a.bytes.now a.k a.r a.a a.b _ c.in_err-kind.ensures.number) _ refl c.from_residual.result c.from_residual.ensures.1

pub step_kind-requires : goal.step_kind-requires
step_kind-requires c = steps.early-passed _ _ c.in_ok-kind.ensures.number

pub returns : goal.returns
returns c = subst (λ j. Steps c.args.bytes.now j c.args.r c.args.a c.args.b c.step_kind.result c.step_kind.new.bytes) c.in_ok-kind.ensures.kind c.step_kind.ensures
