-- How many slots are held along calls on a bench: specs/Runs `held_count`. Assumes nothing.
use Prim.Native.Nat.{ℕ, ◌+◌, ◌-◌, ◌^◌, ◌<◌, min}
use native.Mathlib.Omega.{arith}
use mathlib.Core.Path.{◌≡◌, refl, sym, ap, ◌∙◌, subst}
use mathlib.Core.Bool.{Bool, true, false}
use mathlib.Core.List.{List, [], ◌∷◌, ◌++◌}
use lib.Dec.{eqb}
use lib.ListN.{length, length-append, length-take, length-drop}
use borrow.Author.Tests.{eqb-true, eqb-false}
use Rattle.model.specs.Answers.{accepted}
use Rattle.model.specs.Call.{Words, WordsIn}
use Rattle.model.specs.Settle.{calls_taken}
use Rattle.store.specs.StoredForm.{is_stored}
use Rattle.calls.specs.Calls.{step_on, settling_on}
use Rattle.calls.proofs.HeldSteps.{step-holds}
use Rattle.calls.proofs.SettleLaws.{settle-low}
use Rattle.undo.specs.Buffer.{Slot, slot_form, max_slots, is_undo, held_in, newest, older, pushed}
use Rattle.undo.specs.Parts.{slot_of}
use Rattle.undo.proofs.BufferLaws.{held-slots, pushed-is_undo, pushed-held_in, popped-held_in}
use Rattle.stepback.specs.Held.{Bench, step_held_on, held_run, settle_held_on, back_on}
use Rattle.stepback.specs.Runs.{BenchCall, step, settle, back, CallsFit, after, after_all, AllTaken, count_after, held_count}
use Rattle.stepback.proofs.HeldLaws.{step-refused, step-taken, step-takes, settle-taken, settle-keeps-bench, back-taken, back-takes, back-keeps-bench}
use Rattle.stepback.proofs.BackUndoes.{slot-fits}
use Rattle.stepback.proofs.RunsLaws.{settle-all}
use Rattle.stepback.proofs.CallsStand.{CallFits, fits-first}

-- slots held
abbrev pub held# : Bench → ℕ
held# x = length (held_in x.undo)

pub held-most : (u : List ℕ) → is_undo u ≡ true → length (held_in u) < max_slots + 1
held-most u i = omega (arith, (held-slots u i).0)

push-count : (u : List ℕ) → is_undo u ≡ true → (s : Slot) → slot_form.ok s → length (held_in (pushed u s)) ≡ min max_slots (length (held_in u) + 1)
unfolding newest
push-count u i s ok =
    let xs = held_in u ++ (s ∷ []) in
    ap length (pushed-held_in u i s ok) ∙ length-drop (length xs - max_slots) xs ∙ omega (arith, length-append (held_in u) (s ∷ []))

pub older-length : (xs : List Slot) → length (older xs) ≡ length xs - 1
unfolding older
older-length xs = omega (arith, length-take (length xs - 1) xs)

-- ## One action, and a run of them

module _ (x : Bench) (w : Words) (s : is_stored x.hall ≡ true) (i : is_undo x.undo ≡ true) (low : w.a < 2 ^ 32)
    (a : accepted (step_on x.hall w).answer ≡ true) where
  step_count : held# (step_held_on x w).left ≡ min max_slots (held# x + 1)
  step_count =
      ap held# (step-takes x w s i a) ∙ push-count x.undo i (slot_of x.hall w) (slot-fits x.hall s w low a)

  step-stored : is_stored (step_held_on x w).left.hall ≡ true
  step-stored = ap (λ (y : Bench). is_stored y.hall) (step-takes x w s i a) ∙ step-holds x.hall s w low

  step-in_form : is_undo (step_held_on x w).left.undo ≡ true
  step-in_form =
      ap (λ (y : Bench). is_undo y.undo) (step-takes x w s i a)
      ∙ pushed-is_undo x.undo i (slot_of x.hall w) (slot-fits x.hall s w low a)

pub run-count : (ws : List Words) (x : Bench) → is_stored x.hall ≡ true → is_undo x.undo ≡ true → WordsIn ws → AllTaken x.hall ws
    → held# (held_run x ws) ≡ min max_slots (held# x + length ws)
unfolding held_run
run-count [] x s i low p = omega (arith, held-most x.undo i)
run-count (w ∷ ws) x s i low p =
    let y = (step_held_on x w).left in
    let later = run-count ws y (step-stored x w s i low.0 p.0) (step-in_form x w s i low.0 p.0) low.1
    (subst (λ (z : Bench). AllTaken z.hall ws) (sym (step-takes x w s i p.0)) p.1) in
    omega (arith, later, step_count x w s i low.0 p.0)

-- ## Any call

by-step : (x : Bench) (w : Words) → w.a < 2 ^ 32 → (v : Bool) → accepted (step_held_on x w).answer ≡ v
    → held# (step_held_on x w).left ≡ elim v [ true ↦ min max_slots (held# x + 1) | false ↦ held# x ]
by-step x w low true v = let a = step-taken x w v in step_count x w a.0 a.1 low a.2
by-step x w low false v = ap held# (step-refused x w v)

by-settle : (x : Bench) → (v : Bool) → eqb (settle_held_on x).answer.number 0 ≡ v
    → held# (settle_held_on x).left
    ≡ elim v [ true ↦ min max_slots (held# x + length (calls_taken (settling_on x.hall))) | false ↦ held# x ]
by-settle x true v =
    let t = settle-taken x (eqb-true (settle_held_on x).answer.number 0 v) in
    ap held# t.2 ∙ run-count (calls_taken (settling_on x.hall)) x t.0 t.1 (settle-low x.hall) (settle-all x.hall)
by-settle x false v = ap held# (settle-keeps-bench x (eqb-false (settle_held_on x).answer.number 0 v))

by-back : (x : Bench) → (v : Bool) → eqb (back_on x).number 0 ≡ v → held# (back_on x).left ≡ elim v [ true ↦ held# x - 1 | false ↦ held# x ]
by-back x true v =
    let t = back-taken x (eqb-true (back_on x).number 0 v) in
    ap held# (back-takes x t.0 t.1 t.2).1 ∙ ap length (popped-held_in x.undo t.1) ∙ older-length (held_in x.undo)
by-back x false v = ap held# (back-keeps-bench x (eqb-false (back_on x).number 0 v))

count-call : (x : Bench) (c : BenchCall) → CallFits c → held# (after x c) ≡ count_after x (held# x) c
unfolding after count_after
count-call x (step w) fit = by-step x w fit (accepted (step_held_on x w).answer) refl
count-call x settle fit = by-settle x (eqb (settle_held_on x).answer.number 0) refl
count-call x back fit = by-back x (eqb (back_on x).number 0) refl

-- after any list of calls, on any bench
pub count-all : (x : Bench) (cs : List BenchCall) → CallsFit cs → held# (after_all x cs) ≡ held_count x (held# x) cs
unfolding after_all held_count
count-all x [] fit = refl
count-all x (c ∷ cs) fit =
    let f = fits-first c cs fit in
    count-all (after x c) cs f.1 ∙ ap (λ (m : ℕ). held_count (after x c) m cs) (count-call x c f.0)
