-- Each vote past the first n is tested. Assumes nothing.
use Rattle.std.proofs.Common.{◌∙◌, rules, tests, eqb}
use Rattle.std.proofs.lemmas.Iterator.{YieldsList-from_slice}
use Rattle.std.proofs.lemmas.Iterator.Adapters.{YieldsList-from_skip}
use Rattle.std.proofs.lemmas.Iterator.Search.{all_from_yields_List}
use Rattle.base.proofs.ListsLaws.{list_all-all}
use Rattle.quorum.specs.Votes.{no_votes}
use Rattle.quorum.proofs.none_above.Goals as goal

pub returns : goal.returns
unfolding no_votes
returns c =
    all_from_yields_List (λ v. eqb v 0) _ _ _ c.all.ensures.ran (YieldsList-from_skip c.args.n (YieldsList-from_slice c.args.row.now cc) cc) (λ x b q k. search (rules, tests))
    ∙ list_all-all _ _
