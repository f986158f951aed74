-- What the calls `step` and `settle` return and leave: the definition's answer, as an enum of the code, and the definition's
-- bytes.
-- Assumes nothing.
use Rattle.std.specs.Prelude.{ℕ, ◌≡◌, List, Result}
use Rattle.model.specs.Call.{words_of}
use Rattle.model.specs.declared.refusals.Refusal.{Refusal}
use Rattle.answer.specs.declared.Answer.{Answer}
use Rattle.answer.specs.Meaning.{meaning, settled_meaning}
use Rattle.calls.specs.Calls.{step_on, settle_on}

-- the answer x and the bytes c are those of the step's definition on the bytes b
pub record Steps (b : List ℕ) (k r a d : ℕ) (x : Result Answer Refusal) (c : List ℕ) : Type 0 where
  pub answer : meaning x ≡ (step_on b (words_of k r a d)).answer
  pub bytes : c ≡ (step_on b (words_of k r a d)).bytes

-- the answer x and the bytes c are those of the settle's definition on the bytes b
pub record Settles (b : List ℕ) (x : Result ℕ Refusal) (c : List ℕ) : Type 0 where
  pub answer : settled_meaning x ≡ (settle_on b).answer
  pub bytes : c ≡ (settle_on b).bytes
