-- The two parts of a hall's bytes that an action writes, at most, by its kind (02, A7; docs/undo-buffer.md), and the slot of an
-- action on these bytes.
-- Assumes nothing.
use Rattle.std.specs.Prelude.{ℕ, ◌+◌, ◌-◌, ◌*◌, true, false, List, length}
use Rattle.base.specs.Lists.{nth}
use Rattle.codec.specs.Bytes.{part}
use Rattle.codec.specs.Table.{index_of}
use Rattle.model.specs.Hall.{Hall}
use Rattle.model.specs.Kinds.{Kind, kind, no_kind, kind_of}
use Rattle.model.specs.Kinds.{submit, label, send_entry, send_summary, form, enter, place, receive, notice, confirm, deliver}
use Rattle.model.specs.Ordering.{waiting}
use Rattle.model.specs.Answers.{accepted}
use Rattle.model.specs.Call.{Words}
use Rattle.store.specs.Layout.{views_at, view_cells, view_size, entries_at, entry_cells, entry_size, recorders_at, recorder_size}
use Rattle.store.specs.Layout.{network_at, row_size, endpoint_size, queues_at, queue_size}
use Rattle.store.specs.StoredForm.{hall_of}
use Rattle.calls.specs.Calls.{step_on}
use Rattle.undo.specs.Buffer.{Part, Slot}

-- where a part stands and how many bytes it has
pub record Place : Type 0 where
  pub offset : ℕ
  pub size : ℕ

pub record Places : Type 0 where
  pub first : Place
  pub second : Place

-- ## The parts of a hall

abbrev pub place_at : ℕ → ℕ → Place
place_at o n = record { offset = o; size = n }

abbrev pub none : Place
none = place_at 0 0

-- the cell of the view at index i
abbrev view_place : ℕ → Place
view_place i = place_at (view_cells + i * view_size) view_size

-- the cell of the entry at index i
abbrev entry_place : ℕ → Place
entry_place i = place_at (entry_cells + i * entry_size) entry_size

abbrev pub recorder_place : ℕ → Place
recorder_place r = place_at (recorders_at + (r - 1) * recorder_size) recorder_size

-- recorder r's place in view g
abbrev pub endpoint_place : Hall → ℕ → ℕ → Place
endpoint_place h r g = place_at (network_at + (r - 1) * row_size + index_of h.service.created g * endpoint_size) endpoint_size

abbrev queue_place : Hall → ℕ → Place
queue_place h g = place_at (queues_at + index_of h.service.created g * queue_size) queue_size

-- ## By kind

abbrev pub both : Place → Place → Places
both x y = record { first = x; second = y }

-- 1: the new entry's cell, and the count of entries
abbrev pub entry_grown : Hall → Places
entry_grown h = both (entry_place h.entries.count) (place_at entries_at 1)

-- 5: the new view's cell, and the count of views
abbrev pub view_grown : Hall → Places
view_grown h = both (view_place (length h.service.created)) (place_at views_at 1)

-- the index of the first entry that waits at r
abbrev pub waiting_index : Hall → ℕ → ℕ
waiting_index h r = nth (waiting h.entries r) 1 0 - 1

-- 2: the recorder, and that entry's cell
abbrev pub in_label : Hall → ℕ → Places
in_label h r = both (recorder_place r) (entry_place (waiting_index h r))

-- 3, 4, 8 and 9: the recorder, and its place in its current view
abbrev pub in_current : Hall → ℕ → Places
in_current h r = both (recorder_place r) (endpoint_place h r (h.service.current r))

-- 6, 10 and 11: the recorder alone
abbrev pub alone : ℕ → Places
alone r = both (recorder_place r) none

-- 7: the view's queue, and the recorder's place in the view
abbrev pub in_queue : Hall → ℕ → ℕ → Places
in_queue h r a = both (queue_place h a) (endpoint_place h r a)

-- an action of a kind at recorder r, with argument a
unfoldable pub places_of : Hall → Kind → ℕ → ℕ → Places
places_of h submit r a = entry_grown h
places_of h label r a = in_label h r
places_of h send_entry r a = in_current h r
places_of h send_summary r a = in_current h r
places_of h form r a = view_grown h
places_of h enter r a = alone r
places_of h place r a = in_queue h r a
places_of h receive r a = in_current h r
places_of h notice r a = in_current h r
places_of h confirm r a = alone r
places_of h deliver r a = alone r

-- what no action writes
abbrev pub nothing : Places
nothing = both none none

-- an accepted action on the bytes b; a refused one writes nothing
unfoldable pub parts : List ℕ → Words → Places
parts b w =
    elim (accepted (step_on b w).answer) [
      | true ↦ elim (kind_of w.k) [ kind κ ↦ places_of (hall_of b) κ w.r w.a | no_kind ↦ nothing ]
      | false ↦ nothing
    ]

-- ## Its slot

-- the bytes that stand there
abbrev pub part_of : List ℕ → Place → Part
part_of b p = record { offset = p.offset; bytes = part p.offset p.size b }

unfoldable pub slot_of : List ℕ → Words → Slot
slot_of b w = record { words = w; first = part_of b (parts b w).first; second = part_of b (parts b w).second }
