-- Lists of calls of `hall_step_held`, `hall_settle_held` and `hall_step_back`, the C interface: each meets its contract on the
-- slices that the one before left.
-- Assumes nothing.
use Rattle.std.specs.Prelude.{ℕ, ◌^◌, ◌<◌, true, false, List, [], ◌∷◌, ltb, length}
use Rattle.model.specs.Call.{Words}
use Rattle.calls.specs.Lent.{answer_length}
use Rattle.stepback.specs.Held.{Bench}
use Rattle.stepback.specs.Steps.{StepsBack}
use Rattle.stepback.specs.Lent.{step_held_lent, settle_held_lent, LeavesHeld}
use Rattle.stepback.specs.Runs.{BenchCall, step, settle, back}

-- a call of `hall_step_held`: its words, the slice lent for its answer, the number that it returned, and the slices that it left
pub record LentStep : Type 0 where
  pub words : Words
  pub out : List ℕ
  pub number : ℕ
  pub left : Bench
  pub answer : List ℕ

-- a call of `hall_settle_held`
pub record LentSettle : Type 0 where
  pub out : List ℕ
  pub number : ℕ
  pub left : Bench
  pub answer : List ℕ

-- a call of `hall_step_back`
pub record LentBack : Type 0 where
  pub number : ℕ
  pub left : Bench

pub data LentCall : Type 0 where
  steps : LentStep → LentCall
  settles : LentSettle → LentCall
  backs : LentBack → LentCall

-- each call meets its contract on the bench that the one before left
abbrev pub LentMet : Bench → List LentCall → Type 0
LentMet x [] = Unit {0}
LentMet x (steps c ∷ cs) =
    LeavesHeld (step_held_lent x c.words c.out) c.number c.left.hall c.left.undo c.answer × LentMet c.left cs
LentMet x (settles c ∷ cs) =
    LeavesHeld (settle_held_lent x c.out) c.number c.left.hall c.left.undo c.answer × LentMet c.left cs
LentMet x (backs c ∷ cs) = StepsBack x.hall x.undo c.number c.left.hall c.left.undo × LentMet c.left cs

-- each step's A is a 32-bit word
abbrev pub LentFit : List LentCall → Type 0
LentFit [] = Unit {0}
LentFit (steps c ∷ cs) = (c.words.a < 2 ^ 32) × LentFit cs
LentFit (settles c ∷ cs) = LentFit cs
LentFit (backs c ∷ cs) = LentFit cs

-- the bench after the last call
unfoldable pub lent_after : Bench → List LentCall → Bench
lent_after x [] = x
lent_after x (steps c ∷ cs) = lent_after c.left cs
lent_after x (settles c ∷ cs) = lent_after c.left cs
lent_after x (backs c ∷ cs) = lent_after c.left cs

-- one call, if its answer's slice is long enough: one that is too short refuses it with 18 at the latest
unfoldable pub with_room : List ℕ → BenchCall → List BenchCall → List BenchCall
with_room out c cs = elim (ltb (length out) answer_length) [ true ↦ cs | false ↦ c ∷ cs ]

-- the calls that a list of C calls stands for
unfoldable pub lent_calls : List LentCall → List BenchCall
lent_calls [] = []
lent_calls (steps c ∷ cs) = with_room c.out (step c.words) (lent_calls cs)
lent_calls (settles c ∷ cs) = with_room c.out settle (lent_calls cs)
lent_calls (backs c ∷ cs) = back ∷ lent_calls cs
