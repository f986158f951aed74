-- Calls that are lent a hall's slice and an undo buffer's (02, A7): a step and a settle that are held in the buffer, and a
-- step back. Stated for every pair of slices and all words, refused or not. Bytes past the stored length of a hall and past
-- that of a buffer are neither read nor written.
-- Assumes nothing.
use Rattle.std.specs.Prelude.{ℕ, Bool, true, false, not, ◌&&◌, List, [], ◌∷◌, eqb, take}
use Rattle.std.proofs.Math.Option.{Option, none, some}
use Rattle.base.specs.Chains.{refuse, ◌⨾◌}
use Rattle.codec.specs.Bytes.{same_bytes}
use Rattle.model.specs.Answers.{Answer, refused, Plain, accepted}
use Rattle.model.specs.Call.{Words}
use Rattle.model.specs.Settle.{cannot_settle, calls_taken}
use Rattle.store.specs.Layout.{stored_length}
use Rattle.store.specs.StoredForm.{hall_of, is_stored}
use Rattle.calls.specs.Calls.{step_on, settling_on, settle_on}
use Rattle.step.specs.Numbers.{word_kind_number, bytes_number}
use Rattle.undo.specs.Buffer.{Slot, is_undo, held_in, newest_of, pushed, popped, put_back}
use Rattle.undo.specs.Parts.{slot_of}

-- the two slices: a hall's and an undo buffer's
pub record Bench : Type 0 where
  pub hall : List ℕ
  pub undo : List ℕ

abbrev pub bench_of : List ℕ → List ℕ → Bench
bench_of b u = record { hall = b; undo = u }

-- 43: "a buffer that is too short or not in the form described in docs/"
unfoldable pub undo_number : List ℕ → ℕ
undo_number u = refuse (not (is_undo u)) 43

-- ## A held step: 11, 31, 43, 12 to 15, 32 to 40

pub record HeldStep : Type 0 where
  pub answer : Answer
  pub left : Bench

-- the numbers that come before those of the words
unfoldable pub early_number : Bench → Words → ℕ
early_number x w = word_kind_number w.k ⨾ bytes_number x.hall ⨾ undo_number x.undo

-- the buffer after a step: an accepted action is held, "refused actions leave no trace to take back"
unfoldable pub held_after : Bench → Words → List ℕ
held_after x w =
    elim (accepted (step_on x.hall w).answer) [ true ↦ pushed x.undo (slot_of x.hall w) | false ↦ x.undo ]

unfoldable pub step_held_on : Bench → Words → HeldStep
step_held_on x w =
    let why = early_number x w in
    let o = step_on x.hall w in
    elim (eqb why 0) [
      | true ↦ record { answer = o.answer; left = bench_of o.bytes (held_after x w) }
      | false ↦ record { answer = refused why; left = x }
    ]

-- a list of held steps
unfoldable pub held_run : Bench → List Words → Bench
held_run x [] = x
held_run x (w ∷ ws) = held_run (step_held_on x w).left ws

-- ## A held settle: 31, 42, 43, 40

pub record HeldSettle : Type 0 where
  pub answer : Plain
  pub left : Bench

unfoldable pub settle_held_number : Bench → ℕ
settle_held_number x =
    bytes_number x.hall
    ⨾ refuse (cannot_settle (hall_of x.hall)) 42
    ⨾ undo_number x.undo
    ⨾ (settle_on x.hall).answer.number

-- "A settle is held as the actions of its run."
unfoldable pub settle_held_on : Bench → HeldSettle
settle_held_on x =
    let why = settle_held_number x in
    elim (eqb why 0) [
      | true ↦ record { answer = (settle_on x.hall).answer; left = held_run x (calls_taken (settling_on x.hall)) }
      | false ↦ record { answer = record { number = why; values = 0 ∷ [] }; left = x }
    ]

-- ## A step back: 31, 43

-- Do the words w lead from the hall in c to the hall in b? c is a hall, it accepts them, and then its bytes are those of b.
unfoldable pub leads : List ℕ → Words → List ℕ → Bool
leads c w b =
    let o = step_on c w in
    is_stored c && (accepted o.answer && same_bytes (take stored_length o.bytes) (take stored_length b))

-- the hall that would be restored: the present one with the two parts of the newest slot put back
unfoldable pub restored_by : List ℕ → Option Slot → List ℕ
restored_by b none = b
restored_by b (some s) = put_back b s

-- 43: "when none is held or when the newest action held does not lead from the hall it would restore to the present one"
unfoldable pub can_step_back : List ℕ → Option Slot → Bool
can_step_back b none = false
can_step_back b (some s) = leads (put_back b s) s.words b

pub record SteppedBack : Type 0 where
  pub number : ℕ
  pub left : Bench

unfoldable pub back_number : Bench → ℕ
back_number x = bytes_number x.hall ⨾ undo_number x.undo ⨾ refuse (not (can_step_back x.hall (newest_of (held_in x.undo)))) 43

unfoldable pub back_on : Bench → SteppedBack
back_on x =
    let why = back_number x in
    elim (eqb why 0) [
      | true ↦ record { number = 0; left = bench_of (restored_by x.hall (newest_of (held_in x.undo))) (popped x.undo) }
      | false ↦ record { number = why; left = x }
    ]
