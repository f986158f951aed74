-- The hall that bytes in range hold, before the cross rules are known: N, entries and views by their bytes.
-- Assumes nothing.
use Rattle.std.specs.Prelude.{ℕ, ◌+◌, ◌*◌, ◌≤◌, true, false, List, ltb, length, get_or}
use Rattle.model.specs.Hall.{Hall, max_entries, max_views, max_recorders}
use Rattle.codec.specs.Slice.{Held, value_of}
use Rattle.store.specs.Layout.{stored_length, view_set_at, view_size, views_at, view_cells, entries_at}
use Rattle.store.specs.HallForm.{hall_fields}

-- the hall of the first bytes of b
abbrev pub raw : List ℕ → Hall
raw b = value_of hall_fields b

-- the counts of recorders, views and entries
abbrev pub size_at : List ℕ → ℕ
size_at b = get_or b 0 0

abbrev pub view_count : List ℕ → ℕ
view_count b = get_or b views_at 0

abbrev pub entry_count : List ℕ → ℕ
entry_count b = get_or b entries_at 0

-- the set of the view at index i, none past the last
unfoldable pub set_at : List ℕ → ℕ → ℕ
set_at b i = elim (ltb i (view_count b)) [ true ↦ get_or b (view_cells + i * view_size + view_set_at) 0 | false ↦ 0 ]

-- bytes in range, with what the code's bounds go by
pub record Ranged (b : List ℕ) : Type 0 where
  pub held : Held hall_fields b
  pub fits : stored_length ≤ length b
  pub size : get_or b 0 0 ≤ max_recorders
  pub views : get_or b views_at 0 ≤ max_views
  pub entries : get_or b entries_at 0 ≤ max_entries
