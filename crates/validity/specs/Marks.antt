-- What the code tests of the bytes for the cross rules. Assumes nothing.
use Rattle.std.specs.Prelude.{ℕ, ◌+◌, ◌-◌, ◌*◌, Bool, true, false, not, ◌&&◌, ◌||◌, List, eqb, ltb, get_or}
use Rattle.base.specs.Lists.{has}
use Rattle.quorum.specs.Sets.{members}
use Rattle.store.specs.Layout.{network_at, endpoint_size, row_size, endpoint_sent_at}
use Rattle.validity.specs.RawHall.{size_at}

-- how many values a byte has
abbrev pub byte_values : ℕ
byte_values = 256

-- where the messages of a source begin in the table of messages: those of one that did not send its summary come first
abbrev pub messages_from : Bool → ℕ
messages_from true = byte_values
messages_from false = 0

-- is the message x, 0 for the summary, a labelled entry or a summary that was sent? The table t has 0 for it, else 1
unfoldable pub message_marked : List ℕ → Bool → ℕ → Bool
message_marked t sent x = ltb x byte_values && eqb (get_or t (messages_from sent + x) 0) 0

-- flag k, 1 .., of those at offset o
abbrev pub flag_at : List ℕ → ℕ → ℕ → Bool
flag_at b o k = eqb 1 (get_or b (o + (k - 1)) 0)

-- where recorder p's endpoint in the view at index i stands, and whether its summary was sent
abbrev pub endpoint_off : ℕ → ℕ → ℕ
endpoint_off p i = network_at + (p - 1) * row_size + i * endpoint_size

abbrev pub sent_at : List ℕ → ℕ → ℕ → Bool
sent_at b p i = eqb 1 (get_or b (endpoint_off p i + endpoint_sent_at) 0)

-- an entry of a set is labelled
unfoldable pub set_ok : List ℕ → List ℕ → ℕ → ℕ → Bool
set_ok t b o e = not (flag_at b o e) || message_marked t false e

-- a safe source is a member of the set m
unfoldable pub source_ok : List ℕ → ℕ → ℕ → ℕ → Bool
source_ok b o m q = not (flag_at b o q) || has (members (size_at b) m) q

-- and a heard one has sent its summary in the view at index i
unfoldable pub heard_ok : List ℕ → ℕ → ℕ → ℕ → ℕ → Bool
heard_ok b o m i q = not (flag_at b o q) || (has (members (size_at b) m) q && sent_at b q i)
