-- What the code tests of the tables, and of the whole. Assumes nothing.
use Rattle.std.specs.Prelude.{ℕ, zero, suc, ◌+◌, ◌*◌, ◌≤◌, ◌<◌, ◌≡◌, Bool, ◌&&◌, List, [], ◌∷◌}
use Rattle.model.specs.Hall.{max_views, max_recorders}
use Rattle.codec.specs.Bytes.{part}
use Rattle.codec.specs.Number.{value}
use Rattle.codec.specs.Cells.{cells}
use Rattle.store.specs.Layout.{network_at, recorders_at, queues_at, votes_at, number_size, view_size, view_cells, entries_at}
use Rattle.store.specs.Layout.{entries_size, recorders_size, network_size, queues_size, votes_size}
use Rattle.store.specs.CellForms.{recorder_form, endpoint_form, queue_form, vote_form}
use Rattle.store.specs.HallForm.{entries_form}

-- ## The formed views

-- the numbers of m views from offset o
unfoldable pub view_numbers : ℕ → ℕ → List ℕ → List ℕ
view_numbers zero o b = []
view_numbers (suc m) o b = value (part o number_size b) ∷ view_numbers m (o + view_size) b

-- the number of the view at index i
abbrev pub view_at : List ℕ → ℕ → ℕ
view_at b i = value (part (view_cells + i * view_size) number_size b)

-- i is the first index at which the view g stands among m views, or m if it is none of them
pub record Found (m : ℕ) (b : List ℕ) (g i : ℕ) : Type 0 where
  pub within : i ≤ m
  pub here : i < m → view_at b i ≡ g
  pub before : (j : ℕ) → j < i → view_at b j ≡ g → ⊥

-- ## The other tables

-- the entries, recorders, network, queues and votes of n recorders and m views
unfoldable pub tables_in : ℕ → ℕ → List ℕ → Bool
tables_in n m b =
    (entries_form n).valid (part entries_at entries_size b)
    && ((cells recorder_form n max_recorders).valid (part recorders_at recorders_size b)
    && ((cells (cells endpoint_form m max_views) n max_recorders).valid (part network_at network_size b)
    && ((cells queue_form m max_views).valid (part queues_at queues_size b)
    && (cells vote_form n max_recorders).valid (part votes_at votes_size b))))
