-- The undo buffer (02, A7; docs/undo-buffer.md): up to 16 slots, oldest first, each an accepted action's words and two parts
-- of the hall's bytes as they were before it. Empty is all zeros.
-- Assumes nothing.
use Rattle.std.specs.Prelude.{ℕ, ◌+◌, ◌-◌, ◌*◌, Bool, List, [], ◌∷◌, ◌++◌, leb, length, take, drop}
use Rattle.std.proofs.Math.Option.{Option, none, some}
use Rattle.std.proofs.lemmas.List.Edits.{sets}
use Rattle.codec.specs.Form.{Form, renamed, guarded}
use Rattle.codec.specs.Number.{word, byte}
use Rattle.codec.specs.Pair.{pair}
use Rattle.codec.specs.Bounded.{listed, bounded}
use Rattle.codec.specs.Slice.{holds, value_of}
use Rattle.model.specs.Call.{Words, words_of}
use Rattle.store.specs.Layout.{word_size, recorder_size, endpoint_size, stored_length}

-- bytes of a hall, and where they stood
pub record Part : Type 0 where
  pub offset : ℕ
  pub bytes : List ℕ

-- an action and the two parts
pub record Slot : Type 0 where
  pub words : Words
  pub first : Part
  pub second : Part

-- ## The form

-- offset, length, and room for the longest part: a recorder first, an endpoint second
abbrev pub part_size : ℕ → ℕ
part_size room = word_size + (word_size + room * 1)

abbrev pub words_size : ℕ
words_size = word_size + (word_size + (word_size + word_size))

abbrev pub slot_size : ℕ
slot_size = words_size + (part_size recorder_size + part_size endpoint_size)

-- "up to 16 accepted actions"
abbrev pub max_slots : ℕ
max_slots = 16

abbrev pub undo_length : ℕ
undo_length = 1 + max_slots * slot_size

-- a part stands in the stored form of a hall
abbrev pub inside : Part → Bool
inside p = leb (p.offset + length p.bytes) stored_length

-- offset, length, the bytes, zeros
unfoldable pub part_form : (room : ℕ) → Form Part (part_size room)
part_form room =
    guarded
    (renamed (pair word (listed word_size (byte 0 255) room)) (λ p. record { offset = p.0; bytes = p.1 }) (λ p. (p.offset, p.bytes)))
    inside

unfoldable pub words_form : Form Words words_size
words_form =
    renamed (pair word (pair word (pair word word))) (λ p. words_of p.0 p.1.0 p.1.1.0 p.1.1.1)
    (λ w. (w.k, (w.r, (w.a, w.b))))

unfoldable pub slot_form : Form Slot slot_size
slot_form =
    renamed (pair words_form (pair (part_form recorder_size) (part_form endpoint_size)))
    (λ p. record { words = p.0; first = p.1.0; second = p.1.1 }) (λ s. (s.words, (s.first, s.second)))

unfoldable pub undo_form : Form (List Slot) undo_length
undo_form = bounded slot_form max_slots

-- ## On slices

-- is the slice an undo buffer? 43: "a buffer that is too short or not in the form described in docs/"
unfoldable pub is_undo : List ℕ → Bool
is_undo u = holds undo_form u

-- the slots that it holds, oldest first
unfoldable pub held_in : List ℕ → List Slot
held_in u = value_of undo_form u

-- the slice with these slots, its rest as it was
unfoldable pub with_held : List ℕ → List Slot → List ℕ
with_held u xs = undo_form.encode xs ++ drop undo_length u

-- the newest 16: "a 17th pushes out the oldest"
unfoldable pub newest : List Slot → List Slot
newest xs = drop (length xs - max_slots) xs

unfoldable pub pushed : List ℕ → Slot → List ℕ
pushed u s = with_held u (newest (held_in u ++ (s ∷ [])))

-- the one held last
unfoldable pub newest_of : List Slot → Option Slot
newest_of [] = none
newest_of (s ∷ []) = some s
newest_of (s ∷ t ∷ ss) = newest_of (t ∷ ss)

-- all but that one
unfoldable pub older : List Slot → List Slot
older xs = take (length xs - 1) xs

unfoldable pub popped : List ℕ → List ℕ
popped u = with_held u (older (held_in u))

-- ## Taking back

-- a hall's bytes with the two parts of a slot put back
unfoldable pub put_back : List ℕ → Slot → List ℕ
put_back b s = sets (sets b s.first.offset s.first.bytes) s.second.offset s.second.bytes
