-- A held step and a held settle in C: what they return and leave, with their answer as words in a lent slice.
-- Assumes nothing.
use Rattle.std.specs.Prelude.{ℕ, ◌≡◌, true, false, List, eqb}
use Rattle.model.specs.Answers.{Plain, plain}
use Rattle.model.specs.Call.{Words}
use Rattle.calls.specs.Lent.{with_answer, lent_number}
use Rattle.stepback.specs.Held.{Bench, step_held_on, settle_held_on}

-- the number that a call returns, the bench that it leaves, and the answer's slice
pub record HeldLent : Type 0 where
  pub number : ℕ
  pub left : Bench
  pub answer : List ℕ

-- a call with the plain answer p that leaves the bench x as `next`: "all lent bytes keep their contents" if refused
unfoldable pub held_call : Plain → Bench → Bench → List ℕ → HeldLent
held_call p x next out =
    let why = lent_number p.number out in
    elim (eqb why 0) [
      | true ↦ record { number = 0; left = next; answer = with_answer out p.values }
      | false ↦ record { number = why; left = x; answer = out }
    ]

-- a held step: 11, 31, 43, 12 to 15, 32 to 40, and 18 last
unfoldable pub step_held_lent : Bench → Words → List ℕ → HeldLent
step_held_lent x w out = let o = step_held_on x w in held_call (plain o.answer) x o.left out

-- a held settle: 31, 42, 43, 40, and 18 last
unfoldable pub settle_held_lent : Bench → List ℕ → HeldLent
settle_held_lent x out = let o = settle_held_on x in held_call o.answer x o.left out

-- What a call returns and leaves, number n and slices b, u and y, is what the definition says.
pub record LeavesHeld (l : HeldLent) (n : ℕ) (b u y : List ℕ) : Type 0 where
  pub number : n ≡ l.number
  pub hall : b ≡ l.left.hall
  pub undo : u ≡ l.left.undo
  pub answer : y ≡ l.answer
