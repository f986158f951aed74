-- The two tests in turn. Assumes nothing.
use mathlib.Core.Path.{ap, ◌∙◌}
use Rattle.base.specs.Chains.{refuse}
use Rattle.model.specs.Opening.{open_refusal}
use Rattle.model.proofs.RefusalNumbersLaws.{stops, goes-on}
use Rattle.words.proofs.opening_refusal.Goals as goal

pub returns-in_err-refuse : goal.returns-in_err-refuse
unfolding open_refusal
returns-in_err-refuse c =
    stops c.from_residual.result _ _ c.from_residual.ensures.1 (c.in_err-refuse.ensures ∙ ap (λ t. refuse t 16) c.wrong_opening-size.ensures)

pub returns : goal.returns
unfolding open_refusal
returns c =
    goes-on (c.in_ok-refuse.ensures ∙ ap (λ t. refuse t 16) c.wrong_opening-size.ensures)
    (c.refuse-2.ensures ∙ ap (λ t. refuse t 41) c.wrong_row-votes.ensures)
