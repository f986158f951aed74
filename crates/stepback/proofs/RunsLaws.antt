-- Laws of specs/Runs: a run on bytes in two parts, the slots along it, the run of a settle, all but the last. Assumes nothing.
use Prim.Native.Nat.{ℕ, suc}
use mathlib.Core.Path.{◌≡◌, refl, sym, ap, ◌∙◌, subst}
use mathlib.Core.Bool.{true}
use mathlib.Core.List.{List, [], ◌∷◌, ◌++◌}
use lib.ListN.{length}
use Rattle.base.proofs.Bools.{by_cases}
use Rattle.model.specs.Hall.{Hall}
use Rattle.model.specs.Answers.{accepted}
use Rattle.model.specs.Call.{Words, WordsIn, hl3}
use Rattle.model.specs.Settle.{Settling, settled, refused, settle, calls_taken, AllAccepted}
use Rattle.model.proofs.Settling.SettleRun.{settle-run}
use Rattle.store.specs.StoredForm.{hall_of, is_stored}
use Rattle.calls.specs.Calls.{step_on, run_on, settling_on}
use Rattle.calls.proofs.HeldSteps.{step-answer, step-holds, step-hall}
use Rattle.calls.proofs.SettleLaws.{settling-held, settling-broken, settle-low}
use Rattle.undo.specs.Buffer.{Slot}
use Rattle.undo.specs.Parts.{slot_of}
use Rattle.stepback.specs.Runs.{but_last, slots_of, AllTaken}

-- ## Two parts

run-append : (b : List ℕ) (xs ys : List Words) → run_on b (xs ++ ys) ≡ run_on (run_on b xs) ys
unfolding run_on
run-append b [] ys = refl
run-append b (w ∷ xs) ys = run-append (step_on b w).bytes xs ys

-- one step more
pub run-snoc : (b : List ℕ) (ws : List Words) (w : Words) → run_on b (ws ++ (w ∷ [])) ≡ (step_on (run_on b ws) w).bytes
unfolding run_on
run-snoc b ws w = run-append b ws (w ∷ [])

slots-append : (b : List ℕ) (xs ys : List Words) → slots_of b (xs ++ ys) ≡ slots_of b xs ++ slots_of (run_on b xs) ys
unfolding slots_of run_on
slots-append b [] ys = refl
slots-append b (w ∷ xs) ys = ap (λ (l : List Slot). slot_of b w ∷ l) (slots-append (step_on b w).bytes xs ys)

pub slots-snoc : (b : List ℕ) (ws : List Words) (w : Words) → slots_of b (ws ++ (w ∷ [])) ≡ slots_of b ws ++ (slot_of (run_on b ws) w ∷ [])
unfolding slots_of
slots-snoc b ws w = slots-append b ws (w ∷ [])

pub slots_length : (b : List ℕ) (ws : List Words) → length (slots_of b ws) ≡ length ws
unfolding slots_of
slots_length b [] = refl
slots_length b (w ∷ ws) = ap suc (slots_length (step_on b w).bytes ws)

pub taken-append : (b : List ℕ) (xs ys : List Words) → AllTaken b xs → AllTaken (run_on b xs) ys → AllTaken b (xs ++ ys)
unfolding run_on
taken-append b [] ys p q = q
taken-append b (w ∷ xs) ys p q = (p.0, taken-append (step_on b w).bytes xs ys p.1 q)

pub taken-left : (b : List ℕ) (xs ys : List Words) → AllTaken b (xs ++ ys) → AllTaken b xs
taken-left b [] ys p = tt
taken-left b (w ∷ xs) ys p = (p.0, taken-left (step_on b w).bytes xs ys p.1)

pub taken-right : (b : List ℕ) (xs ys : List Words) → AllTaken b (xs ++ ys) → AllTaken (run_on b xs) ys
unfolding run_on
taken-right b [] ys p = p
taken-right b (w ∷ xs) ys p = taken-right (step_on b w).bytes xs ys p.1

-- a run keeps a hall
pub run_holds : (b : List ℕ) (ws : List Words) → is_stored b ≡ true → WordsIn ws → is_stored (run_on b ws) ≡ true
unfolding run_on
run_holds b [] s low = s
run_holds b (w ∷ ws) s low = run_holds (step_on b w).bytes ws (step-holds b s w low.0) low.1

-- ## The run of a settle

on-bytes : (b : List ℕ) (ws : List Words) → is_stored b ≡ true → WordsIn ws → AllAccepted hl3 (hall_of b) ws → AllTaken b ws
on-bytes b [] s low p = tt
on-bytes b (w ∷ ws) s low p = (
  ap accepted (step-answer b s w) ∙ p.0,
  on-bytes (step_on b w).bytes ws (step-holds b s w low.0) low.1
      (subst (λ (h : Hall). AllAccepted hl3 h ws) (sym (step-hall b s w low.0)) p.1),
)

-- each of its actions is accepted, in turn
pub settle-all : (b : List ℕ) → AllTaken b (calls_taken (settling_on b))
unfolding calls_taken
settle-all b = by_cases (is_stored b) held (λ f. taken_of (settling_on b) (refused 31) (settling-broken b f) tt)
  where
    taken_of : (x y : Settling) → x ≡ y → AllTaken b (calls_taken y) → AllTaken b (calls_taken x)
    taken_of x y e = subst (λ (z : Settling). AllTaken b (calls_taken z)) (sym e)

    held : is_stored b ≡ true → AllTaken b (calls_taken (settling_on b))
    held s = by (settle hl3 (hall_of b)) refl
      where
        by : (x : Settling) → settle hl3 (hall_of b) ≡ x → AllTaken b (calls_taken (settling_on b))
        by (settled ws) e =
            let is = settling-held b s ∙ e in
            taken_of (settling_on b) (settled ws) is
            (on-bytes b ws s (subst (λ (z : Settling). WordsIn (calls_taken z)) is (settle-low b)) (settle-run hl3 (hall_of b) ws e))
        by (refused n) e = taken_of (settling_on b) (refused n) (settling-held b s ∙ e) tt

-- ## All but the last

pub but_last_lem : (ws : List Words) (w : Words) → but_last (ws ++ (w ∷ [])) ≡ ws
unfolding but_last
but_last_lem [] w = refl
but_last_lem (v ∷ []) w = refl
but_last_lem (v ∷ u ∷ ws) w = ap (λ (l : List Words). v ∷ l) (but_last_lem (u ∷ ws) w)
