-- `lent::put_values` meets its contract. Assumes nothing.
use lib.Seq.{sets}
use lib.ListN.{take}
use mathlib.Core.Path.{◌≡◌}
use Rattle.calls.specs.Lent.{words_bytes}
use Rattle.lent.proofs.put_values.Given as goal

abbrev pub invariant-loop-i : goal.invariant-loop-i
invariant-loop-i l = l.out ≡ sets l.initial.out 0 (words_bytes (take l.i l.values))
