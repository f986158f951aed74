-- Lists of calls on a bench: held steps, held settles and steps back, each lent what the one before left; and the accepted
-- actions that remain (02, A7). Refused calls are left out.
-- Assumes nothing.
use Rattle.std.specs.Prelude.{ℕ, zero, suc, ◌+◌, ◌-◌, ◌^◌, ◌<◌, min, ◌≡◌, true, false, List, [], ◌∷◌, ◌++◌, eqb, length}
use Rattle.model.specs.Answers.{accepted}
use Rattle.model.specs.Call.{Words}
use Rattle.model.specs.Settle.{calls_taken}
use Rattle.calls.specs.Calls.{step_on, settling_on}
use Rattle.undo.specs.Buffer.{Slot, max_slots}
use Rattle.undo.specs.Parts.{slot_of}
use Rattle.stepback.specs.Held.{Bench, step_held_on, settle_held_on, back_on}

pub data BenchCall : Type 0 where
  step : Words → BenchCall
  settle : BenchCall
  back : BenchCall

-- each step's A is a 32-bit word
abbrev pub CallsFit : List BenchCall → Type 0
CallsFit [] = Unit {0}
CallsFit (step w ∷ cs) = (w.a < 2 ^ 32) × CallsFit cs
CallsFit (settle ∷ cs) = CallsFit cs
CallsFit (back ∷ cs) = CallsFit cs

-- the bench after one call, and after all
unfoldable pub after : Bench → BenchCall → Bench
after x (step w) = (step_held_on x w).left
after x settle = (settle_held_on x).left
after x back = (back_on x).left

unfoldable pub after_all : Bench → List BenchCall → Bench
after_all x [] = x
after_all x (c ∷ cs) = after_all (after x c) cs

-- k steps back
unfoldable pub backs : ℕ → List BenchCall
backs zero = []
backs (suc k) = back ∷ backs k

-- ## What remains

-- accepted actions that are not taken back, in turn, and the bench on which the first of them was made
pub record Remaining : Type 0 where
  pub start : Bench
  pub actions : List Words

unfoldable pub more : Remaining → List Words → Remaining
more t ws = record { start = t.start; actions = t.actions ++ ws }

-- all but the last; of the empty list none
unfoldable pub but_last : List Words → List Words
but_last [] = []
but_last (w ∷ []) = []
but_last (w ∷ v ∷ ws) = w ∷ but_last (v ∷ ws)

-- the newest taken back; where none remains, an older one was, and x is the bench from which later ones count
unfoldable pub less : Bench → Remaining → Remaining
less x t = elim t.actions [ [] ↦ record { start = x; actions = [] } | w ∷ ws ↦ record { start = t.start; actions = but_last (w ∷ ws) } ]

-- what remains after one call on the bench x
unfoldable pub follow : Bench → Remaining → BenchCall → Remaining
follow x t (step w) = elim (accepted (step_held_on x w).answer) [ true ↦ more t (w ∷ []) | false ↦ t ]
follow x t settle = elim (eqb (settle_held_on x).answer.number 0) [ true ↦ more t (calls_taken (settling_on x.hall)) | false ↦ t ]
follow x t back = elim (eqb (back_on x).number 0) [ true ↦ less (back_on x).left t | false ↦ t ]

unfoldable pub follow_all : Bench → Remaining → List BenchCall → Remaining
follow_all x t [] = t
follow_all x t (c ∷ cs) = follow_all (after x c) (follow x t c) cs

-- what remains of calls on the bench x
unfoldable pub remaining : Bench → List BenchCall → Remaining
remaining x cs = follow_all x (record { start = x; actions = [] }) cs

-- the slots of a run of accepted actions from the bytes b, oldest first
unfoldable pub slots_of : List ℕ → List Words → List Slot
slots_of b [] = []
slots_of b (w ∷ ws) = slot_of b w ∷ slots_of (step_on b w).bytes ws

-- each action of a run from the bytes b is accepted, in turn
abbrev pub AllTaken : List ℕ → List Words → Type 0
AllTaken b [] = Unit {0}
AllTaken b (w ∷ ws) = (accepted (step_on b w).answer ≡ true) × AllTaken (step_on b w).bytes ws

-- each of k steps back is accepted, in turn
abbrev pub AllBack : Bench → ℕ → Type 0
AllBack x zero = Unit {0}
AllBack x (suc k) = ((back_on x).number ≡ 0) × AllBack (back_on x).left k

-- ## How many are held

-- after one call on the bench x, if m were held before: n more actions, of which the newest 16 are held, or one taken back
unfoldable pub count_after : Bench → ℕ → BenchCall → ℕ
count_after x m (step w) = elim (accepted (step_held_on x w).answer) [ true ↦ min max_slots (m + 1) | false ↦ m ]
count_after x m settle =
    elim (eqb (settle_held_on x).answer.number 0) [
      | true ↦ min max_slots (m + length (calls_taken (settling_on x.hall)))
      | false ↦ m
    ]
count_after x m back = elim (eqb (back_on x).number 0) [ true ↦ m - 1 | false ↦ m ]

-- after all
unfoldable pub held_count : Bench → ℕ → List BenchCall → ℕ
held_count x m [] = m
held_count x m (c ∷ cs) = held_count (after x c) (count_after x m c) cs
