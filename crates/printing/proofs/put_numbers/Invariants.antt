-- The invariant: the numbers passed are written. Assumes nothing.
use lib.ListN.{take}
use mathlib.Core.List.{map}
use Rattle.model.specs.Listing.{decimal}
use Rattle.text.specs.Text.{Wrote}
use Rattle.printing.specs.Lines.{spaced}
use Rattle.printing.proofs.put_numbers.Given as goal

abbrev pub invariant-loop-x : goal.invariant-loop-x
invariant-loop-x l = Wrote l.initial.out l.at (spaced (map decimal (take l.x-index l.numbers))) l.out l.next
