-- A refused call leaves both slices, the hall's and the undo buffer's.
-- Assumes nothing.
use Rattle.std.specs.Prelude.{ℕ, ◌≡◌}
use Rattle.model.specs.Answers.{plain}
use Rattle.model.specs.Call.{Words}
use Rattle.stepback.specs.Held.{Bench, step_held_on, settle_held_on, back_on}

-- a call that returned the number n keeps both slices if it is refused
abbrev pub KeepsBench : ℕ → Bench → Bench → Type 0
KeepsBench n before left = (n ≡ 0 → ⊥) → left ≡ before

pub record HeldKeeps : Type 0 where
  pub step : (x : Bench) (w : Words) → KeepsBench (plain (step_held_on x w).answer).number x (step_held_on x w).left
  pub settle : (x : Bench) → KeepsBench (settle_held_on x).answer.number x (settle_held_on x).left
  pub back : (x : Bench) → KeepsBench (back_on x).number x (back_on x).left
