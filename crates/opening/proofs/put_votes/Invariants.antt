-- The invariant: the votes passed are written. Assumes nothing.
use mathlib.Core.Path.{◌≡◌}
use lib.ListN.{take}
use lib.Seq.{sets}
use Rattle.store.specs.Layout.{votes_at}
use Rattle.opening.specs.Opened.{vote_bytes}
use Rattle.opening.proofs.put_votes.Given as goal

abbrev pub invariant-loop-i : goal.invariant-loop-i
invariant-loop-i l = l.b ≡ sets l.initial.b votes_at (vote_bytes (take l.i l.votes))
