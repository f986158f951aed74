-- What 02, A5 promises of a settle, on bytes: of any settle that is taken, and of a settle after an opening that is taken and
-- any list of calls, settles among them. The proofs are in proofs/OnBytes.
-- Assumes nothing.
use Rattle.std.specs.Prelude.{ℕ, ◌≤◌, ◌≡◌, ◌⊎◌, List, ◌++◌, length}
use Rattle.model.specs.Call.{hl3}
use Rattle.model.specs.Settle.{greatest_view, none, turn_of, calls_taken, max_steps, Complete}
use Rattle.store.specs.StoredForm.{hall_of}
use Rattle.calls.specs.Calls.{settling_on, settle_on}
use Rattle.calls.specs.Histories.{Made, history_of, settle_made}

-- a settle of the bytes b that is taken
pub record Settled (b : List ℕ) : Type 0 where
  -- "it ends when none is left"
  pub ends : turn_of hl3 (hall_of (settle_on b).bytes) (greatest_view (hall_of b)) ≡ none
  -- "at most 2,392"
  pub bounded : length (calls_taken (settling_on b)) ≤ max_steps

-- a settle of the bytes b that the calls ms left
pub record Promised (ms : List Made) (b : List ℕ) : Type 0 where
  -- it is taken, or refused with 42
  pub never40 : ((settle_on b).answer.number ≡ 0) ⊎ ((settle_on b).answer.number ≡ 42)
  -- "every entry submitted at a member has then been delivered at all members"
  pub complete : (settle_on b).answer.number ≡ 0
      → Complete (history_of (ms ++ settle_made b) (settle_on b).bytes) ((hall_of b).service.members (greatest_view (hall_of b)))
