-- The recorder's place in the row. Assumes nothing.
use Prim.Native.Nat.{ℕ}
use mathlib.Core.Path.{sym, ap, ◌∙◌}
use lib.Dec.{leb}
use Rattle.quorum.specs.Votes.{share}
use Rattle.quorum.proofs.VoteLaws.{row_at}
use Rattle.quorum.proofs.vote.Goals as goal

pub returns : goal.returns
returns c =
    let a = c.args in
    c.share.ensures ∙ ap (λ (v : ℕ). share (leb a.k a.n) v) (sym (row_at a.row.now a.k c.requires.0))
