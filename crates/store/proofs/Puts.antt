-- A hall with one cell replaced: an entry, a recorder's own fields, a recorder's endpoint in a view, a view's queue.
-- Assumes nothing.
use Prim.Native.Nat.{ℕ}
use mathlib.Core.List.{List}
use Rattle.base.specs.Update.{upd, upd₂}
use Rattle.model.specs.Hall.{Queued, Hall}
use Rattle.model.specs.Fields.{set_queue, set_entries, set_service, set_summaries, set_recorders}
use Rattle.store.specs.Cells.{EntryCell, entry_at, entries_from, RecorderCell, recorder_at, recorders_from, EndpointCell, endpoint_at, summaries_from, service_from}
use Rattle.store.specs.ViewForm.{Views}
use Rattle.store.specs.HallForm.{views_of}

-- the recorders' own fields of a hall, and their endpoints in views
abbrev pub recorder_of : Hall → ℕ → RecorderCell
recorder_of h = recorder_at h.service.current h.recorders

abbrev pub endpoint_of : Hall → ℕ → ℕ → EndpointCell
endpoint_of h = endpoint_at h.service h.summaries

-- h with these views, recorders, endpoints and queues: what actions change, but for the entries
abbrev pub with_cells : Hall → Views → (ℕ → RecorderCell) → (ℕ → ℕ → EndpointCell) → (ℕ → List Queued) → Hall
with_cells h v rs ps queue =
    set_service (service_from v.0 v.1 rs ps queue) (set_summaries (summaries_from ps) (set_recorders (recorders_from rs) h))

-- entry e is x
unfoldable pub put_entry : ℕ → EntryCell → Hall → Hall
put_entry e x h = set_entries (entries_from h.entries.count (upd (entry_at h.entries) e x)) h

-- recorder r's own fields are x
unfoldable pub put_recorder : ℕ → RecorderCell → Hall → Hall
put_recorder r x h = with_cells h (views_of h) (upd (recorder_of h) r x) (endpoint_of h) h.service.queue

-- recorder p's endpoint in view g is x
unfoldable pub put_endpoint : ℕ → ℕ → EndpointCell → Hall → Hall
put_endpoint p g x h = with_cells h (views_of h) (recorder_of h) (upd₂ (endpoint_of h) p g x) h.service.queue

-- view g's queue is x
unfoldable pub put_queue : ℕ → List Queued → Hall → Hall
put_queue g x h = set_service (set_queue (upd h.service.queue g x) h.service) h
