-- Calls of the C interface on a bench, whatever slices their answers had: they leave the bench of the calls that they stand
-- for. So what is proved of those is proved of them.
-- Assumes nothing.
use Prim.Native.Nat.{ℕ}
use native.Mathlib.Omega.{arith}
use mathlib.Core.Path.{◌≡◌, refl, sym, ap, ap₂, ◌∙◌, subst}
use mathlib.Core.Bool.{Bool, true, false}
use mathlib.Core.List.{List, [], ◌∷◌}
use lib.Dec.{eqb, ltb}
use lib.ListN.{length}
use borrow.Author.Tests.{eqb-true, eqb-false}
use Rattle.base.specs.Chains.{refuse}
use Rattle.base.proofs.ChainsLaws.{chain-none, first_passes}
use Rattle.model.specs.Answers.{Plain, plain}
use Rattle.model.specs.Opening.{Opening}
use Rattle.model.specs.Agreed.{Agreed}
use Rattle.calls.specs.Lent.{answer_length, with_answer, lent_number}
use Rattle.calls.specs.Histories.{Opens, history_on}
use Rattle.undo.specs.Buffer.{is_undo, held_in}
use Rattle.stepback.specs.Held.{Bench, bench_of, step_held_on, settle_held_on, back_on}
use Rattle.stepback.specs.Lent.{HeldLent, held_call, step_held_lent, settle_held_lent}
use Rattle.stepback.specs.Runs.{BenchCall, step, settle, CallsFit, after, after_all, remaining, held_count}
use Rattle.stepback.specs.LentRuns.{LentCall, steps, settles, backs, LentMet, LentFit, lent_after, with_room, lent_calls}
use Rattle.stepback.specs.Promises.{BenchRun}
use Rattle.stepback.specs.Kept.{KeepsBench}
use Rattle.stepback.proofs.HeldLaws.{step-keeps-bench, settle-keeps-bench}
use Rattle.stepback.proofs.BenchRun.{bench-run, bench-agrees}

-- what a call into a lent slice leaves
module _ (p : Plain) (x next : Bench) (out : List ℕ) where
  by_number : Bool → HeldLent
  by_number t =
      elim t [
        | true ↦ record { number = 0; left = next; answer = with_answer out p.values }
        | false ↦ record { number = lent_number p.number out; left = x; answer = out }
      ]

  -- without room for its answer it is refused
  short-left : ltb (length out) answer_length ≡ true → (held_call p x next out).left ≡ x
  unfolding held_call by_number lent_number refuse
  short-left t = go (eqb (lent_number p.number out) 0) refl
    where
      go : (s : Bool) → eqb (lent_number p.number out) 0 ≡ s → (by_number s).left ≡ x
      go true s =
          let z = (chain-none p.number _ (eqb-true (lent_number p.number out) 0 s)).1 in
          let n : ◌≡◌ {A = ℕ} 18 0 = ap (λ (b : Bool). refuse b 18) (sym t) ∙ z in
          absurd (omega arith)
      go false s = refl

  -- with room it leaves its own bench, which is x if it is refused
  room-left : ltb (length out) answer_length ≡ false → KeepsBench p.number x next → (held_call p x next out).left ≡ next
  unfolding held_call by_number lent_number refuse
  room-left t keeps = go (eqb (lent_number p.number out) 0) refl
    where
      go : (s : Bool) → eqb (lent_number p.number out) 0 ≡ s → (by_number s).left ≡ next
      go true s = refl
      go false s =
          sym
          (keeps (λ z.
          eqb-false (lent_number p.number out) 0 s
          (first_passes p.number _ z ∙ ap (λ (b : Bool). refuse b 18) t)))

-- one call more, with or without room
room-step : (out : List ℕ) (c : BenchCall) (cs : List BenchCall) (x y : Bench) → (ltb (length out) answer_length ≡ true → y ≡ x)
    → (ltb (length out) answer_length ≡ false → y ≡ after x c) → after_all y cs ≡ after_all x (with_room out c cs)
unfolding with_room after_all
room-step out c cs x y short long = go (ltb (length out) answer_length) refl
  where
    go : (t : Bool) → ltb (length out) answer_length ≡ t → after_all y cs ≡ after_all x (elim t [ true ↦ cs | false ↦ c ∷ cs ])
    go true t = ap (λ (z : Bench). after_all z cs) (short t)
    go false t = ap (λ (z : Bench). after_all z cs) (long t)

-- C calls leave the bench of the calls that they stand for
pub lent-run : (x : Bench) (cs : List LentCall) → LentMet x cs → lent_after x cs ≡ after_all x (lent_calls cs)
unfolding lent_after lent_calls after_all after step_held_lent settle_held_lent
lent-run x [] met = refl
lent-run x (steps c ∷ cs) met =
    let m = met.0 in
    let o = step_held_on x c.words in
    let left : c.left ≡ (step_held_lent x c.words c.out).left = ap₂ bench_of m.hall m.undo in
    lent-run c.left cs met.1
    ∙ room-step c.out (step c.words) (lent_calls cs) x c.left
    (λ t. left ∙ short-left (plain o.answer) x o.left c.out t)
    (λ t. left ∙ room-left (plain o.answer) x o.left c.out t (step-keeps-bench x c.words))
lent-run x (settles c ∷ cs) met =
    let m = met.0 in
    let o = settle_held_on x in
    let left : c.left ≡ (settle_held_lent x c.out).left = ap₂ bench_of m.hall m.undo in
    lent-run c.left cs met.1
    ∙ room-step c.out settle (lent_calls cs) x c.left
    (λ t. left ∙ short-left o.answer x o.left c.out t)
    (λ t. left ∙ room-left o.answer x o.left c.out t (settle-keeps-bench x))
lent-run x (backs c ∷ cs) met =
    let left : c.left ≡ (back_on x).left = ap₂ bench_of met.0.left.hall met.0.left.undo in
    lent-run c.left cs met.1 ∙ ap (λ (z : Bench). after_all z (lent_calls cs)) left

room-fit : (out : List ℕ) (c : BenchCall) (cs : List BenchCall) → CallsFit (c ∷ cs) → CallsFit cs → CallsFit (with_room out c cs)
unfolding with_room
room-fit out c cs both rest = go (ltb (length out) answer_length)
  where
    go : (t : Bool) → CallsFit (elim t [ true ↦ cs | false ↦ c ∷ cs ])
    go true = rest
    go false = both

lent-fit : (cs : List LentCall) → LentFit cs → CallsFit (lent_calls cs)
unfolding lent_calls
lent-fit [] fit = tt
lent-fit (steps c ∷ cs) fit = let later = lent-fit cs fit.1 in room-fit c.out (step c.words) (lent_calls cs) (fit.0, later) later
lent-fit (settles c ∷ cs) fit = let later = lent-fit cs fit in room-fit c.out settle (lent_calls cs) later later
lent-fit (backs c ∷ cs) fit = lent-fit cs fit

-- `hall_open` returned 0, the buffer u holds none, and then any such calls
module _ (b : List ℕ) (o : Opening) (n : ℕ) (d : List ℕ) (opens : Opens b o n d) (zero : n ≡ 0) (u : List ℕ) (i : is_undo u ≡ true) (none : held_in u ≡ [])
    (cs : List LentCall) (met : LentMet (bench_of d u) cs) (fit : LentFit cs) where
  -- the bytes are those of the run of what remains, and the buffer holds the slots of its newest actions
  pub c-bench-run : BenchRun d u (held_count (bench_of d u) 0 (lent_calls cs)) (remaining (bench_of d u) (lent_calls cs)) (lent_after (bench_of d u) cs)
  c-bench-run =
      subst (BenchRun d u (held_count (bench_of d u) 0 (lent_calls cs)) (remaining (bench_of d u) (lent_calls cs)))
      (sym (lent-run (bench_of d u) cs met)) (bench-run b o n d opens zero u i none (lent_calls cs) (lent-fit cs fit))

  -- demand 3 for what remains
  pub c-bench-agrees : Agreed (history_on d (remaining (bench_of d u) (lent_calls cs)).actions)
  c-bench-agrees = bench-agrees b o n d opens zero u i none (lent_calls cs) (lent-fit cs fit)
