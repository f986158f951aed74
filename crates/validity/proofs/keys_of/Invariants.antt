-- The invariant: the array has the keys of the entries passed. Assumes nothing.
use mathlib.Core.Path.{◌≡◌}
use lib.ListN.{length}
use Rattle.model.specs.Hall.{max_entries}
use Rattle.validity.specs.CrossParts.{Keys}
use Rattle.validity.proofs.keys_of.Given as goal

abbrev pub invariant-loop-i : goal.invariant-loop-i
invariant-loop-i l = (length l.keys ≡ max_entries) × Keys l.b l.i l.keys
