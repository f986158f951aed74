-- The invariant: the calls at the members passed so far give nothing. Assumes nothing.
use Prim.Native.Nat.{◌+◌, ◌-◌}
use mathlib.Core.Path.{◌≡◌}
use mathlib.Core.List.{map}
use Rattle.quorum.specs.Sets.{members}
use Rattle.model.specs.Call.{hl3}
use Rattle.model.specs.KindNumbers.{kind_number}
use Rattle.model.specs.Settle.{settle_call}
use Rattle.store.specs.StoredForm.{hall_of}
use Rattle.progress.specs.AnyTurn.{any_turn}
use Rattle.settling.proofs.TurnSteps.{turn_over}
use Rattle.settling.proofs.find_call.Given as goal

abbrev pub invariant-loop-r : goal.invariant-loop-r
invariant-loop-r l =
    any_turn hl3 (hall_of l.b) (map (settle_call l.v.number (kind_number l.k)) (members (hall_of l.b).size l.v.set))
    ≡ turn_over (hall_of l.b) l.v (kind_number l.k) l.r (l.r-end + 1 - l.r)
