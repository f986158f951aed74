-- 11 and 31, then the kind. Assumes nothing.
use mathlib.Core.Path.{refl, ap, subst, ◌∙◌}
use Rattle.model.specs.Answers.{plain}
use Rattle.model.specs.Call.{words_of}
use Rattle.calls.specs.Calls.{step_on}
use Rattle.calls.specs.Steps.{Steps}
use Rattle.step.proofs.StepsLaws as steps
use Rattle.step.proofs.refusal.Goals as goal

pub returns-in_err-kind : goal.returns-in_err-kind
returns-in_err-kind c =
    let a = c.args in
    steps.refused-number a.bytes.now a.k a.r a.a a.b _ (steps.early-is a.bytes.now a.k a.r a.a a.b _ c.in_err-kind.ensures.number) _ refl c.from_residual.result c.from_residual.ensures.1

pub refusal_kind-requires : goal.refusal_kind-requires
refusal_kind-requires c = steps.early-passed _ _ c.in_ok-kind.ensures.number

pub returns : goal.returns
returns c = c.refusal_kind.ensures ∙ ap (λ j. (plain (step_on c.args.bytes.now (words_of j c.args.r c.args.a c.args.b)).answer).number) c.in_ok-kind.ensures.kind
