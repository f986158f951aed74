-- The cross rules of the hall that bytes in range hold, as the code tests them. Assumes nothing.
use Rattle.std.specs.Prelude.{ℕ, ◌+◌, ◌-◌, ◌*◌, ◌<◌, ◌≡◌, Bool, true, false, not, ◌&&◌, ◌||◌, List, eqb, get_or}
use Rattle.base.specs.Lists.{has, all}
use Rattle.base.specs.Numbers.{up_to}
use Rattle.quorum.specs.Sets.{members}
use Rattle.model.specs.Hall.{Entries, Hall, max_entries}
use Rattle.model.specs.Ordering.{is_labelled}
use Rattle.codec.specs.Bytes.{part}
use Rattle.codec.specs.Number.{value}
use Rattle.codec.specs.ByteList.{list_at}
use Rattle.store.specs.Valid.{labelled_entry, queue_names, endpoint_cross}
use Rattle.store.specs.Layout.{number_size, entry_label_at, entry_sequence_at, entry_size, entry_cells, summary_order_at, endpoint_sent_at, endpoint_summary_at}
use Rattle.validity.specs.Marks.{byte_values, message_marked, sent_at, set_ok}
use Rattle.validity.specs.RawHall.{Ranged, raw, size_at, set_at}

-- the message x, 0 for the summary, is a labelled entry of es, or the summary is sent
unfoldable pub named : Entries → Bool → ℕ → Bool
named es sent x = elim (eqb x 0) [ true ↦ sent | false ↦ labelled_entry es x ]

-- the table t marks the messages that are named
abbrev pub Labels : Entries → List ℕ → Type 0
Labels es t = (sent : Bool) (x : ℕ) → message_marked t sent x ≡ named es sent x

-- bytes in range, and t marks the messages that are named
pub record Labelled (b t : List ℕ) : Type 0 where
  pub ranged : Ranged b
  pub labels : Labels (raw b).entries t

-- the queued message at offset o, in the view at index i, is a member's and names what it may
unfoldable pub queued_ok : List ℕ → List ℕ → ℕ → ℕ → Bool
queued_ok t b i o =
    let source = get_or b o 0 in
    has (members (size_at b) (set_at b i)) source && message_marked t (sent_at b source i) (get_or b (o + 1) 0)

-- the summary of the endpoint at offset o, if it was sent
unfoldable pub summary_ok : List ℕ → List ℕ → ℕ → Bool
summary_ok t b o =
    not (eqb 1 (get_or b (o + endpoint_sent_at) 0))
    || (all (set_ok t b (o + endpoint_summary_at)) (up_to max_entries)
    && all (message_marked t false) (list_at b (o + endpoint_summary_at + summary_order_at)))

-- ## Entries

-- entries d and e have no label in common
unfoldable pub apart : Entries → ℕ → ℕ → Bool
apart es d e =
    eqb d e || (not (is_labelled es d)
    || not (eqb (es.label_view d) (es.label_view e)
    && (eqb (es.label_seq d) (es.label_seq e) && eqb (es.sender d) (es.sender e))))

-- a label as one number: its view, its sequence number and its sender; without a label, i
unfoldable pub key_of : (view sequence sender i : ℕ) → ℕ
key_of view sequence sender i = elim (eqb sequence 0) [ true ↦ i | false ↦ (view * byte_values + sequence) * byte_values + sender ]

-- that of the entry at index i
abbrev pub label_key : List ℕ → ℕ → ℕ
label_key b i =
    key_of (value (part (entry_cells + i * entry_size + entry_label_at) number_size b))
    (get_or b (entry_cells + i * entry_size + entry_sequence_at) 0)
    (get_or b (entry_cells + i * entry_size) 0)
    i

-- ks has the keys of the first m entries
abbrev pub Keys : List ℕ → ℕ → List ℕ → Type 0
Keys b m ks = (i : ℕ) → i < m → get_or ks i 0 ≡ label_key b i

-- the key at index i is none of those before it
unfoldable pub key_alone : List ℕ → ℕ → Bool
key_alone ks i = all (λ e. not (eqb (get_or ks (e - 1) 0) (get_or ks i 0))) (up_to i)

-- ## The whole

-- the rules of the view g: of its queue, and of each recorder in it
abbrev pub queue_cross : Hall → ℕ → Bool
queue_cross h g = queue_names h g (h.service.queue g)

abbrev pub view_cross : Hall → ℕ → Bool
view_cross h g = queue_cross h g && all (endpoint_cross h g) (up_to h.size)
