-- The invariant: the kinds passed so far give nothing. Assumes nothing.
use mathlib.Core.Path.{◌≡◌}
use Rattle.quorum.specs.Sets.{members}
use Rattle.model.specs.Call.{hl3}
use Rattle.model.specs.Settle.{settle_calls}
use Rattle.store.specs.StoredForm.{hall_of}
use Rattle.progress.specs.AnyTurn.{any_turn}
use Rattle.settling.proofs.TurnSteps.{turn_from}
use Rattle.settling.proofs.find_turn.Given as goal

abbrev pub invariant-loop-k : goal.invariant-loop-k
invariant-loop-k l =
    any_turn hl3 (hall_of l.b) (settle_calls l.v.number (members (hall_of l.b).size l.v.set))
    ≡ turn_from (hall_of l.b) l.v.number (members (hall_of l.b).size l.v.set) l.k-index
