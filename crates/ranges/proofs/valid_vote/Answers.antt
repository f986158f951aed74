-- The number that the four bytes hold. Assumes nothing.
use mathlib.Core.Path.{sym, ap, ◌∙◌}
use lib.Dec.{leb}
use Rattle.quorum.specs.Votes.{max_vote}
use Rattle.ranges.proofs.CellPartsLaws.{vote-part}
use Rattle.ranges.proofs.valid_vote.Goals as goal

pub returns : goal.returns
returns c =
    let a = c.args in
    ap (λ v. leb v max_vote) c.get_u32.ensures ∙ sym (vote-part a.at a.b.now)
