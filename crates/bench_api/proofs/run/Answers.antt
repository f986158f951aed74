-- One step more each time, until fewer than four words are left. Assumes nothing.
use native.Mathlib.Omega.{arith}
use borrow.Author.Rules.{rules}
use lib.ListN.{get_or}
use Prim.Native.Nat.{◌<◌, ◌^◌}
use mathlib.Core.Path.{sym, ap, ◌∙◌}
use Rattle.std.specs.Slice.Iter.{chunks_exact_rest}
use Rattle.store.specs.StoredForm.{is_stored}
use Rattle.calls.proofs.HeldSteps.{step-holds}
use Rattle.bench_api.proofs.Runs.{run-next, run-none}
use Rattle.bench_api.proofs.run.Goals as goal

pub step_hall-requires : goal.step_hall-requires
step_hall-requires c = c.loop-w.invariant.0

pub loop-w-preserved : goal.loop-w-preserved
loop-w-preserved c =
    let inv = c.loop-w.invariant in
    let step = c.in-Some.ensures.steps in
    let word : get_or c.in-Some.w.now 2 0 < 2 ^ 32 = search rules in
    let e = c.step_hall.ensures.bytes in (
      ap is_stored e ∙ step-holds c.loop-w.hall inv.0 _ word,
      c.step_hall.auto.bytes ∙ inv.1,
      step.0 ∙ inv.2,
      run-next c.loop-w.hall _ _ c.in-Some.w.now (chunks_exact_rest c.next.new.self) step.1.0 (step.1.1 ∙ inv.2) e ∙ inv.3,
    )

pub returns : goal.returns
returns c =
    let inv = c.loop-w.invariant in
    sym (run-none c.loop-w.hall _ (omega (arith, inv.2, c.in-None.ensures.steps.1.0))) ∙ inv.3
