-- A settle is the run of its calls, every one accepted (02, A5: "the number of steps of the run it stands for"); a list of calls
-- with settles among them is a run.
-- Assumes nothing.
use Prim.Native.Nat.{ℕ, zero, suc, ◌^◌, ◌<◌}
use native.Mathlib.Omega.{arith}
use mathlib.Core.Path.{◌≡◌, refl, sym, ◌∙◌, subst}
use mathlib.Core.Bool.{Bool, true, false, ◌||◌}
use mathlib.Core.List.{List, [], ◌∷◌, ◌++◌}
use lib.Dec.{eqb}
use borrow.Author.Tests.{eq-eqb}
use Rattle.model.specs.Hall.{Hall}
use Rattle.model.specs.Answers.{accepted}
use Rattle.model.specs.Refusals.{Rules}
use Rattle.model.specs.Opening.{Opening, open_refusal, opened}
use Rattle.model.specs.Call.{Words, WordsIn, step}
use Rattle.model.specs.Run.{run, history}
use Rattle.model.specs.Settle.{greatest_view, cannot_settle, Turn, takes, full, none, turn_of, settle_call, settle_calls, Settling, settled, refused, and_then, max_turns, settle_from, settle, calls_taken, AllAccepted, Call, stands_for, calls_of, run_calls}
use Rattle.model.specs.Agreed.{FairRules, Agreed}
use Rattle.model.proofs.Agreement.Theorem.{agreement}
use Rattle.model.proofs.Settling.TurnLaws.{Finds, finds, call-of}

-- what a settle that gives x owes
unfoldable Runs : Rules → Hall → Settling → Type 0
Runs rules h (settled ws) = AllAccepted rules h ws
Runs rules h (refused n) = Unit {0}

and-then : (rules : Rules) (h : Hall) (w : Words) → accepted (step rules h w).answer ≡ true → (x : Settling)
    → Runs rules (step rules h w).hall x → Runs rules h (and_then w x)
unfolding Runs and_then
and-then rules h w t (settled ws) r = (t, r)
and-then rules h w t (refused n) r = tt

from-runs : (rules : Rules) (n g : ℕ) (h : Hall) → Runs rules h (settle_from rules n g h)
unfolding Runs settle_from Finds accepted turn_of
from-runs rules zero g h = tt
from-runs rules (suc n) g h = go (λ h. from-runs rules n g h) (turn_of rules h g) (finds rules h g (settle_calls g (h.service.members g)))
  where
    go : ((h : Hall) → Runs rules h (settle_from rules n g h)) → (t : Turn) → Finds rules h g (settle_calls g (h.service.members g)) t
        → Runs rules h (elim t [ takes w ↦ and_then w (settle_from rules n g (step rules h w).hall) | full ↦ refused 40 | none ↦ settled [] ])
    go ih (takes w) f = and-then rules h w (eq-eqb _ 0 f.number) (settle_from rules n g (step rules h w).hall) (ih (step rules h w).hall)
    go ih full f = tt
    go ih none f = tt

settle-runs : (rules : Rules) (h : Hall) → Runs rules h (settle rules h)
unfolding settle Runs
settle-runs rules h = go (cannot_settle h)
  where
    go : (t : Bool) → Runs rules h (elim t [ true ↦ refused 42 | false ↦ settle_from rules max_turns (greatest_view h) h ])
    go true = tt
    go false = from-runs rules max_turns (greatest_view h) h

-- every call that a settle stands for is accepted, in turn
pub settle-run : (rules : Rules) (h : Hall) (ws : List Words) → settle rules h ≡ settled ws → AllAccepted rules h ws
unfolding Runs
settle-run rules h ws e = subst (Runs rules h) e (settle-runs rules h)

-- ## Its refusals

-- a refusal has a number
unfoldable pub Numbered : Settling → Type 0
Numbered (settled ws) = Unit {0}
Numbered (refused n) = n ≡ 0 → ⊥

and-numbered : (w : Words) (x : Settling) → Numbered x → Numbered (and_then w x)
unfolding Numbered and_then
and-numbered w (settled ws) r = tt
and-numbered w (refused n) r = r

from-numbered : (rules : Rules) (n g : ℕ) (h : Hall) → Numbered (settle_from rules n g h)
unfolding Numbered settle_from
from-numbered rules zero g h = tt
from-numbered rules (suc n) g h = go (λ h. from-numbered rules n g h) (turn_of rules h g)
  where
    go : ((h : Hall) → Numbered (settle_from rules n g h)) → (t : Turn)
        → Numbered (elim t [ takes w ↦ and_then w (settle_from rules n g (step rules h w).hall) | full ↦ refused 40 | none ↦ settled [] ])
    go ih (takes w) = and-numbered w (settle_from rules n g (step rules h w).hall) (ih (step rules h w).hall)
    go ih full = λ e. omega arith
    go ih none = tt

pub settle-numbered : (rules : Rules) (h : Hall) → Numbered (settle rules h)
unfolding settle Numbered
settle-numbered rules h = go (cannot_settle h)
  where
    go : (t : Bool) → Numbered (elim t [ true ↦ refused 42 | false ↦ settle_from rules max_turns (greatest_view h) h ])
    go true = λ e. omega arith
    go false = from-numbered rules max_turns (greatest_view h) h

-- ## Its words

pub call-low : (g k r : ℕ) → g < 2 ^ 32 → (settle_call g k r).a < 2 ^ 32
unfolding settle_call
call-low g k r low = go (eqb k 6 || eqb k 7)
  where
    go : (t : Bool) → elim t [ true ↦ g | false ↦ 0 ] < 2 ^ 32
    go true = low
    go false = omega arith

and_low : (w : Words) → w.a < 2 ^ 32 → (x : Settling) → WordsIn (calls_taken x) → WordsIn (calls_taken (and_then w x))
unfolding calls_taken and_then
and_low w low (settled ws) r = (low, r)
and_low w low (refused n) r = tt

from_low : (rules : Rules) (n g : ℕ) → g < 2 ^ 32 → (h : Hall) → WordsIn (calls_taken (settle_from rules n g h))
unfolding settle_from calls_taken Finds turn_of
from_low rules zero g low h = tt
from_low rules (suc n) g low h = go (λ h. from_low rules n g low h) (turn_of rules h g) (finds rules h g (settle_calls g (h.service.members g)))
  where
    go : ((h : Hall) → WordsIn (calls_taken (settle_from rules n g h))) → (t : Turn) → Finds rules h g (settle_calls g (h.service.members g)) t
        → WordsIn (calls_taken (elim t [ takes w ↦ and_then w (settle_from rules n g (step rules h w).hall) | full ↦ refused 40 | none ↦ settled [] ]))
    go ih (takes w) f =
        let c = call-of g (h.service.members g) f.before f.after w f.split in
        and_low w (subst (λ (v : Words). v.a < 2 ^ 32) (sym c.words) (call-low g c.kind c.recorder low))
        (settle_from rules n g (step rules h w).hall) (ih (step rules h w).hall)
    go ih full f = tt
    go ih none f = tt

-- each A of its calls has 32 bits, if the view's number has
pub settle-words : (rules : Rules) (h : Hall) → greatest_view h < 2 ^ 32 → WordsIn (calls_taken (settle rules h))
unfolding settle calls_taken
settle-words rules h low = go (cannot_settle h)
  where
    go : (t : Bool) → WordsIn (calls_taken (elim t [ true ↦ refused 42 | false ↦ settle_from rules max_turns (greatest_view h) h ]))
    go true = tt
    go false = from_low rules max_turns (greatest_view h) low h

-- ## Lists of calls

pub run-append : (rules : Rules) (h : Hall) (xs ys : List Words) → run rules h (xs ++ ys) ≡ run rules (run rules h xs) ys
unfolding run
run-append rules h [] ys = refl
run-append rules h (x ∷ xs) ys = run-append rules (step rules h x).hall xs ys

-- calls, settles among them, leave the hall of the run that they stand for
pub calls-run : (rules : Rules) (h : Hall) (cs : List Call) → run_calls rules h cs ≡ run rules h (calls_of rules h cs)
unfolding run_calls calls_of run
calls-run rules h [] = refl
calls-run rules h (c ∷ cs) =
    let ws = stands_for rules h c in
    let h' = run rules h ws in
    calls-run rules h' cs ∙ sym (run-append rules h ws (calls_of rules h' cs))

-- demand 3 of any list of calls, settles among them: that of the run
pub calls-agreement : (rules : Rules) → FairRules rules → (o : Opening) → open_refusal o ≡ 0 → (cs : List Call)
    → Agreed (history rules (opened o) (calls_of rules (opened o) cs)) × (run_calls rules (opened o) cs ≡ run rules (opened o) (calls_of rules (opened o) cs))
calls-agreement rules fair o taken cs = (agreement rules fair o taken (calls_of rules (opened o) cs), calls-run rules (opened o) cs)
