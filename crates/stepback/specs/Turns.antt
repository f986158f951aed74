-- What the code of a held settle leaves: a promise within this crate. Assumes nothing.
use Rattle.std.specs.Prelude.{ℕ, ◌≡◌, List, Result}
use Rattle.model.specs.Call.{hl3}
use Rattle.model.specs.Settle.{calls_taken, plain_settle, max_turns, settle_from}
use Rattle.model.specs.declared.refusals.Refusal.{Refusal}
use Rattle.store.specs.StoredForm.{hall_of}
use Rattle.answer.specs.Meaning.{settled_meaning}
use Rattle.hall.specs.declared.View.{View}
use Rattle.stepback.specs.Held.{bench_of, held_run}
use Rattle.stepback.specs.Steps.{Left}

-- turns in v from the slices b and u answered x; if they ended well, they left the held run of their calls
pub record TurnsHeld (b u : List ℕ) (v : View) (x : Result ℕ Refusal) (c d : List ℕ) : Type 0 where
  pub answer : settled_meaning x ≡ plain_settle (settle_from hl3 max_turns v.number (hall_of b))
  pub left : (settled_meaning x).number ≡ 0
      → Left (held_run (bench_of b u) (calls_taken (settle_from hl3 max_turns v.number (hall_of b)))) c d
