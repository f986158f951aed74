-- The invariant: the calls taken so far are held, and what is left of the settle. Assumes nothing.
use Rattle.stepback.proofs.HeldTurns.{GoingHeld}
use Rattle.stepback.proofs.take_turns.Given as goal

abbrev pub invariant-loop-count : goal.invariant-loop-count
invariant-loop-count l = GoingHeld l.initial.hall l.initial.undo l.v l.count l.hall l.undo
