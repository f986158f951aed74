-- The bytes of an opened hall as a sequence of writes: a blank hall with its votes, view 1 formed in it, then one recorder after
-- another. Assumes nothing.
use Rattle.std.specs.Prelude.{ℕ, ◌^◌, ◌≤◌, ◌<◌, ◌≡◌, false, List, [], ◌∷◌, ◌++◌, length}
use Rattle.std.proofs.lemmas.List.Edits.{sets}
use Rattle.base.specs.Update.{upd}
use Rattle.quorum.specs.Sets.{members}
use Rattle.quorum.specs.Votes.{row_of, wrong_row}
use Rattle.model.specs.Hall.{Hall, max_recorders}
use Rattle.model.specs.Fields.{set_created, set_members, set_service}
use Rattle.model.specs.Opening.{first_view, open_service, open_recorders, open_hall}
use Rattle.codec.specs.Number.{digits}
use Rattle.store.specs.Layout.{word_size, stored_length}
use Rattle.store.specs.Cells.{RecorderCell, recorder_at}

-- ## Halls on the way

-- the hall of n recorders with the given votes and views, in which the listed recorders stand in view 1 and all else is blank
unfoldable pub hall_with : ℕ → (ℕ → ℕ) → List ℕ → (ℕ → List ℕ) → List ℕ → Hall
hall_with n votes created sets started =
    set_service (set_created created (set_members sets (open_service started))) (open_hall n votes started)

-- view 1 is formed with the set of mask m, and its members among recorders 1 to k have started
unfoldable pub begun : ℕ → List ℕ → ℕ → ℕ → Hall
begun n row m k = hall_with n (row_of row) (1 ∷ []) (upd (λ g. []) 1 (members n m)) (members k m)

-- recorder r of the opened hall
abbrev pub start_of : ℕ → ℕ → ℕ → RecorderCell
start_of n m r = let founders = members n m in recorder_at (first_view founders) (open_recorders founders) r

-- ## The writes

-- the votes of a row, one after another
unfoldable pub vote_bytes : List ℕ → List ℕ
vote_bytes [] = []
vote_bytes (v ∷ vs) = digits word_size v ++ vote_bytes vs

-- what is known of N, the row of votes, the founders' mask and the bytes of an opening that is not refused
pub record Taken (n : ℕ) (row : List ℕ) (m : ℕ) (b : List ℕ) : Type 0 where
  pub size : (1 ≤ n) × (n ≤ max_recorders)
  pub votes : wrong_row n row ≡ false
  pub founders : (1 ≤ m) × (m < 2 ^ n)
  pub long : stored_length ≤ length b
