-- 11, then 31. Assumes nothing.
use mathlib.Core.Path.{◌≡◌, sym, ap, ap₂, subst, ◌∙◌}
use Rattle.std.specs.Prelude.{IfOk}
use Rattle.std.specs.Result.{result_and}
use Rattle.base.specs.Chains.{◌⨾◌}
use Rattle.model.specs.KindNumbers.{kind_number}
use Rattle.model.specs.RefusalNumbers.{refused_by}
use Rattle.step.proofs.StepsLaws.{kind-test, early, early-kind}
use Rattle.step.proofs.early_refusal.Goals as goal

pub returns : goal.returns
returns c =
    let k = c.try_from-kind in
    let s = c.bytes_refusal-stored in
    let is = c.and-2.ensures ∙ ap (λ x. result_and x k.result) c.and.ensures in
    record {
      number = ap refused_by is ∙ early k.result s.result ∙ ap₂ ◌⨾◌ (kind-test c.args.k k.result k.ensures) s.ensures;
      kind = subst (λ x. IfOk x (λ κ. kind_number κ ≡ c.args.k)) (sym is) (early-kind c.args.k k.result s.result k.ensures);
    }
