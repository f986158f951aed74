-- The invariant: the bytes hold a hall, and the actions that are left lead where all of them lead. Assumes nothing.
use mathlib.Core.Path.{◌≡◌}
use mathlib.Core.Bool.{true}
use lib.ListN.{length}
use Rattle.std.specs.Slice.Iter.{chunks_exact_rest, chunks_exact_size}
use Rattle.store.specs.StoredForm.{is_stored}
use Rattle.calls.specs.Calls.{run_on}
use Rattle.runfile.specs.Answers.{actions_of}
use Rattle.bench_api.proofs.run.Given as goal

abbrev pub invariant-loop-w : goal.invariant-loop-w
invariant-loop-w l =
    (is_stored l.hall ≡ true)
    × (length l.hall ≡ length l.initial.hall)
    × (chunks_exact_size l.w-iterator ≡ 4)
    × (run_on l.hall (actions_of (chunks_exact_rest l.w-iterator)) ≡ run_on l.initial.hall (actions_of l.actions))
