-- The invariant: the table has the labels of the entries passed. Assumes nothing.
use Prim.Native.Nat.{ℕ, ◌*◌}
use mathlib.Core.Path.{◌≡◌}
use mathlib.Core.Bool.{Bool}
use lib.ListN.{length}
use Rattle.validity.specs.Marks.{byte_values, message_marked}
use Rattle.validity.proofs.CodeLaws.{passed_mark}
use Rattle.validity.proofs.unnamed_of.Given as goal

abbrev pub invariant-loop-i : goal.invariant-loop-i
invariant-loop-i l =
    (length l.unnamed ≡ 2 * byte_values) × ((sent : Bool) (x : ℕ) → message_marked l.unnamed sent x ≡ passed_mark l.b l.i sent x)
