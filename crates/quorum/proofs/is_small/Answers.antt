-- Each vote is tested. Assumes nothing.
use Rattle.std.proofs.Common.{◌∙◌, rules, tests}
use Rattle.std.proofs.lemmas.Iterator.{YieldsList-from_slice}
use Rattle.std.proofs.lemmas.Iterator.Search.{all_from_yields_List}
use lib.Dec.{leb}
use Rattle.base.proofs.ListsLaws.{list_all-all}
use Rattle.quorum.specs.Votes.{max_vote, small_row}
use Rattle.quorum.proofs.is_small.Goals as goal

pub returns : goal.returns
unfolding small_row
returns c =
    all_from_yields_List (λ v. leb v max_vote) _ _ _ c.all.ensures.ran (YieldsList-from_slice c.args.row.now cc) (λ x b q k. search (rules, tests))
    ∙ list_all-all _ _
