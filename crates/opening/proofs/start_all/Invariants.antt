-- `opening::start_all` meets its contract. The loop's invariant: recorders 1 to k have started.
-- The measure is how many are left. Assumes nothing.
use Prim.Native.Nat.{ℕ, ◌-◌, ◌≤◌}
use mathlib.Core.Path.{◌≡◌}
use mathlib.Core.List.{List, ◌++◌}
use lib.ListN.{length}
use Rattle.store.specs.StoredForm.{stored}
use Rattle.opening.specs.Opened.{begun, Taken}
use Rattle.opening.proofs.start_all.Given as goal

abbrev pub invariant-loop-k : goal.invariant-loop-k
invariant-loop-k l =
    (length l.b ≡ length l.initial.b)
    × ((row rest : List ℕ) → Taken l.n row l.set l.initial.b → l.initial.b ≡ stored (begun l.n row l.set 0) ++ rest → l.b ≡ stored (begun l.n row l.set l.k) ++ rest)
