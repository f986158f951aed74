-- What the code of the buffer asks, finds and leaves: promises to the crates of this repository. Assumes nothing.
use Rattle.std.specs.Prelude.{ℕ, ◌+◌, ◌*◌, ◌^◌, ◌≤◌, ◌<◌, ◌≡◌, true, List, [], ◌∷◌, length}
use Rattle.std.proofs.Math.Option.{some}
use Rattle.std.proofs.lemmas.List.Edits.{sets}
use Rattle.codec.specs.Bytes.{part}
use Rattle.codec.specs.Number.{value}
use Rattle.model.specs.Answers.{accepted}
use Rattle.model.specs.Call.{Words, words_of}
use Rattle.store.specs.StoredForm.{is_stored}
use Rattle.calls.specs.Calls.{step_on}
use Rattle.undo.specs.declared.Place as code
use Rattle.undo.specs.declared.Parts.{Parts}
use Rattle.undo.specs.declared.Action.{Action}
use Rattle.undo.specs.Buffer.{Slot, slot_size, max_slots, slot_form, is_undo, held_in, newest_of, pushed}
use Rattle.undo.specs.Parts.{Place, Places, place_at}

-- the places that the code found
abbrev pub place_in : code.Place → Place
place_in p = place_at p.offset p.size

abbrev pub places_in : Parts → Places
places_in p = record { first = place_in p.first; second = place_in p.second }

abbrev pub action_of : Action → Words
action_of x = words_of x.k x.r x.a x.b

-- b holds a hall, and it accepts the words w
pub record Accepts (b : List ℕ) (w : Words) : Type 0 where
  pub holds : is_stored b ≡ true
  pub low : w.a < 2 ^ 32
  pub accepts : accepted (step_on b w).answer ≡ true

-- v is the buffer u with room for one slot more at index n: with a slot written there, and the count, it is pushed
pub record RoomMade (u : List ℕ) (n : ℕ) (v : List ℕ) : Type 0 where
  pub few : n < max_slots
  pub pushes : (s : Slot) → slot_form.ok s
      → sets (sets v (1 + n * slot_size) (slot_form.encode s)) 0 ((n + 1) ∷ []) ≡ pushed u s

-- u is a buffer that holds an action
pub record Holding (u : List ℕ) : Type 0 where
  pub form : is_undo u ≡ true
  pub some : 0 < length (held_in u)

-- the newest slot of u stands at offset o
pub record NewestAt (u : List ℕ) (o : ℕ) : Type 0 where
  pub room : o + slot_size ≤ length u
  pub valid : slot_form.valid (part o slot_size u) ≡ true
  pub slot : newest_of (held_in u) ≡ some (slot_form.decode (part o slot_size u))

-- ## A part at an offset of a buffer

abbrev pub offset_at : List ℕ → ℕ → ℕ
offset_at u o = value (part o 4 u)

abbrev pub size_at : List ℕ → ℕ → ℕ
size_at u o = value (part (o + 4) 4 u)

-- it stands in u, and there is place for it in b
pub record PartFits (u : List ℕ) (o : ℕ) (b : List ℕ) : Type 0 where
  pub room : o + 8 + size_at u o ≤ length u
  pub place : offset_at u o + size_at u o ≤ length b

-- b with it put back
abbrev pub part_back : List ℕ → ℕ → List ℕ → List ℕ
part_back u o b = sets b (offset_at u o) (part (o + 8) (size_at u o) u)
