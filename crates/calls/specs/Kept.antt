-- "A refusal gives its number .., and all lent bytes keep their contents": stated of each call on bytes and of its C form.
-- `page` is lent bytes to read alone; `hall_page` is lent the hall to read and a slice for its answer, and so are
-- `hall_run_read` and `hall_run_action` a file.
-- Assumes nothing.
use Rattle.std.specs.Prelude.{ℕ, ◌≡◌, List}
use Rattle.model.specs.Answers.{plain}
use Rattle.model.specs.Opening.{Opening}
use Rattle.model.specs.Call.{Words}
use Rattle.model.specs.RunFile.{RunText}
use Rattle.calls.specs.Calls.{open_on, step_on, settle_on}
use Rattle.calls.specs.Lent.{step_lent, page_lent, settle_lent}
use Rattle.calls.specs.RunsLent.{run_read_lent, run_action_lent, run_write_lent}

-- a call that returned the number n keeps the lent bytes if it is refused
abbrev pub Keeps : ℕ → List ℕ → List ℕ → Type 0
Keeps n before after = (n ≡ 0 → ⊥) → after ≡ before

pub record RefusedKeeps : Type 0 where
  -- `open`, `hall_open`
  pub opening : (b : List ℕ) (o : Opening) → Keeps (open_on b o).number b (open_on b o).bytes
  -- `step`
  pub step : (b : List ℕ) (w : Words) → Keeps (plain (step_on b w).answer).number b (step_on b w).bytes
  -- `hall_step`: the hall's slice and the answer's
  pub step_hall : (b : List ℕ) (w : Words) (out : List ℕ) → Keeps (step_lent b w out).number b (step_lent b w out).bytes
  pub step_answer : (b : List ℕ) (w : Words) (out : List ℕ) → Keeps (step_lent b w out).number out (step_lent b w out).answer
  -- `settle`
  pub settle : (b : List ℕ) → Keeps (settle_on b).answer.number b (settle_on b).bytes
  -- `hall_settle`: the hall's slice and the answer's
  pub settle_hall : (b out : List ℕ) → Keeps (settle_lent b out).number b (settle_lent b out).bytes
  pub settle_answer : (b out : List ℕ) → Keeps (settle_lent b out).number out (settle_lent b out).answer
  -- `hall_page`
  pub page_hall : (b : List ℕ) (r k : ℕ) (out : List ℕ) → (page_lent b r k out).bytes ≡ b
  pub page_answer : (b : List ℕ) (r k : ℕ) (out : List ℕ) → Keeps (page_lent b r k out).number out (page_lent b r k out).answer
  -- `hall_run_read`
  pub run_read_file : (f out : List ℕ) → (run_read_lent f out).bytes ≡ f
  pub run_read_answer : (f out : List ℕ) → Keeps (run_read_lent f out).number out (run_read_lent f out).answer
  -- `hall_run_action`
  pub run_action_file : (f : List ℕ) (at : ℕ) (out : List ℕ) → (run_action_lent f at out).bytes ≡ f
  pub run_action_answer : (f : List ℕ) (at : ℕ) (out : List ℕ)
      → Keeps (run_action_lent f at out).number out (run_action_lent f at out).answer
  -- `hall_run_write`: the file's slice and the answer's
  pub run_write_file : (f : List ℕ) (x : RunText) (out : List ℕ)
      → Keeps (run_write_lent f x out).number f (run_write_lent f x out).bytes
  pub run_write_answer : (f : List ℕ) (x : RunText) (out : List ℕ)
      → Keeps (run_write_lent f x out).number out (run_write_lent f x out).answer
