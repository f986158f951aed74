-- What the calls `step_held`, `settle_held` and `step_back` return and leave: the definition's answer, as a value of the code,
-- and the definition's slices.
-- Assumes nothing.
use Rattle.std.specs.Prelude.{ℕ, ◌≡◌, List, Result}
use Rattle.model.specs.Call.{words_of}
use Rattle.model.specs.declared.refusals.Refusal.{Refusal}
use Rattle.answer.specs.declared.Answer.{Answer}
use Rattle.answer.specs.Meaning.{meaning, settled_meaning}
use Rattle.stepback.specs.Held.{Bench, bench_of, step_held_on, settle_held_on, back_on}

-- the slices c and v are those of a bench
pub record Left (x : Bench) (c v : List ℕ) : Type 0 where
  pub hall : c ≡ x.hall
  pub undo : v ≡ x.undo

pub record StepsHeld (b u : List ℕ) (k r a d : ℕ) (x : Result Answer Refusal) (c v : List ℕ) : Type 0 where
  pub answer : meaning x ≡ (step_held_on (bench_of b u) (words_of k r a d)).answer
  pub left : Left (step_held_on (bench_of b u) (words_of k r a d)).left c v

pub record SettlesHeld (b u : List ℕ) (x : Result ℕ Refusal) (c v : List ℕ) : Type 0 where
  pub answer : settled_meaning x ≡ (settle_held_on (bench_of b u)).answer
  pub left : Left (settle_held_on (bench_of b u)).left c v

pub record StepsBack (b u : List ℕ) (n : ℕ) (c v : List ℕ) : Type 0 where
  pub number : n ≡ (back_on (bench_of b u)).number
  pub left : Left (back_on (bench_of b u)).left c v
