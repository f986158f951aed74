-- The invariant: the calls taken so far, and what is left of the settle. Assumes nothing.
use Rattle.settling.proofs.TakenLaws.{Going}
use Rattle.settling.proofs.take_turns.Given as goal

abbrev pub invariant-loop-count : goal.invariant-loop-count
invariant-loop-count l = Going l.initial.work l.v l.count l.work
