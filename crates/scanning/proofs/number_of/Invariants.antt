-- The digits still to come decide. Assumes nothing.
use Rattle.std.proofs.Common.{◌≡◌, drop}
use Rattle.story.specs.Numbers.{digits_from}
use Rattle.scanning.proofs.number_of.Given as goal

abbrev pub invariant-loop-b : goal.invariant-loop-b
invariant-loop-b l = digits_from 0 l.field ≡ digits_from l.sum (drop l.b-index l.field)
