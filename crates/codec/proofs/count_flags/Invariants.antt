-- The invariant: the sum is the count of those passed. Assumes nothing.
use Prim.Native.Nat.{◌≤◌}
use mathlib.Core.Path.{◌≡◌}
use Rattle.base.specs.Lists.{count_of}
use Rattle.base.specs.Numbers.{up_to}
use Rattle.codec.specs.Flags.{set_of}
use Rattle.codec.proofs.count_flags.Given as goal

abbrev pub invariant-loop-i : goal.invariant-loop-i
invariant-loop-i l =
    record {
      within : l.i ≤ l.n;
      small : l.sum ≤ l.i;
      sum : l.sum ≡ count_of (set_of l.row) (up_to l.i);
    }
