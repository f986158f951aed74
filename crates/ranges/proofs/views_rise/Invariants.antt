-- The invariant: the views left rise above the last number just where all rise. Assumes nothing.
use Rattle.ranges.proofs.TablePartsLaws.{Rises}
use Rattle.ranges.proofs.views_rise.Given as goal

abbrev pub invariant-loop-i : goal.invariant-loop-i
invariant-loop-i l = Rises l.m l.b l.i l.last
