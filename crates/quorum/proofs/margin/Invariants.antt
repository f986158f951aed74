-- The loop's invariant: the walk from recorder k on gives the margin, and what is gathered is at most 1,000 for each recorder
-- done. Assumes nothing.
use Prim.Native.Nat.{◌-◌, ◌*◌, ◌≤◌}
use mathlib.Core.Path.{◌≡◌}
use Rattle.quorum.specs.Sets.{in_mask}
use Rattle.quorum.specs.Votes.{row_of, margin, walk, max_vote}
use Rattle.quorum.proofs.margin.Given as goal

abbrev pub invariant-loop-k : goal.invariant-loop-k
invariant-loop-k l =
    record {
      walked : walk (row_of l.row) l.n (in_mask l.set) l.k l.of_set l.of_hall ≡ margin (row_of l.row) l.n (in_mask l.set);
      some : l.of_set ≤ l.of_hall;
      few : l.of_hall ≤ (8 - l.k) * max_vote;
    }
