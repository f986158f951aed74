-- What 02, A7 promises of a step back: after one held step, and after any list of calls on a bench. The proofs are in
-- proofs/BackUndoes, proofs/Backs and proofs/BenchRun.
-- Assumes nothing.
use Rattle.std.specs.Prelude.{ℕ, ◌+◌, ◌-◌, ◌≤◌, ◌<◌, ◌≡◌, true, List, [], ◌++◌, length, take, drop}
use Rattle.model.specs.Call.{Words, WordsIn}
use Rattle.store.specs.StoredForm.{is_stored}
use Rattle.calls.specs.Calls.{run_on, settle_on}
use Rattle.calls.specs.Histories.{made_on}
use Rattle.progress.specs.Promises.{Settled, Promised}
use Rattle.undo.specs.Buffer.{Slot, max_slots, is_undo, held_in, with_held}
use Rattle.stepback.specs.Held.{Bench, bench_of, held_run, settle_held_on, back_on}
use Rattle.stepback.specs.Runs.{Remaining, after_all, backs, slots_of, AllTaken, AllBack}

-- ys is what is left of xs once its first were pushed out
pub record Pushed (xs ys : List Slot) : Type 0 where
  pub out : List Slot
  pub joins : out ++ ys ≡ xs

-- the slots of a buffer before the step that it then held: all but the oldest if there were 16
abbrev pub kept_of : List Slot → List Slot
kept_of xs = drop (length xs + 1 - max_slots) xs

-- a step back on y, the bench after a held step on x that was accepted
pub record Undone (x y : Bench) : Type 0 where
  pub number : (back_on y).number ≡ 0
  pub hall : (back_on y).left.hall ≡ x.hall
  pub held : held_in (back_on y).left.undo ≡ kept_of (held_in x.undo)
  pub undo : (back_on y).left.undo ≡ with_held x.undo (kept_of (held_in x.undo))
  -- nothing is pushed out where fewer than 16 were held
  pub same : length (held_in x.undo) < max_slots → (back_on y).left.undo ≡ x.undo

-- the bench y is that of the run of what remains, apart from slots pushed out
pub record Stands (t : Remaining) (y : Bench) : Type 0 where
  pub start_hall : is_stored t.start.hall ≡ true
  pub start_undo : is_undo t.start.undo ≡ true
  pub small : WordsIn t.actions
  pub taken : AllTaken t.start.hall t.actions
  pub hall : y.hall ≡ run_on t.start.hall t.actions
  pub stored : is_stored y.hall ≡ true
  pub in_form : is_undo y.undo ≡ true
  pub held : Pushed (held_in t.start.undo ++ slots_of t.start.hall t.actions) (held_in y.undo)
  pub undo : y.undo ≡ with_held t.start.undo (held_in y.undo)

-- the bench z shows what x showed, "apart from what was pushed out"
pub record Shows (x z : Bench) : Type 0 where
  pub hall : z.hall ≡ x.hall
  pub held : Pushed (held_in x.undo) (held_in z.undo)
  pub undo : z.undo ≡ with_held x.undo (held_in z.undo)

-- the actions but for the newest k
abbrev pub first_of : Remaining → ℕ → List Words
first_of t k = take (length t.actions - k) t.actions

-- "After k steps back .. hall and buffer show what they showed before those k actions": k steps back on the bench y, and the
-- bench after the actions but for those k
pub record TakenBack (t : Remaining) (y : Bench) (k : ℕ) : Type 0 where
  pub accepted : AllBack y k
  pub run : (after_all y (backs k)).hall ≡ run_on t.start.hall (first_of t k)
  pub shows : Shows (held_run t.start (first_of t k)) (after_all y (backs k))

-- "the run of the accepted actions that remain": from the bytes d and the buffer u, which holds none, with m slots held
pub record BenchRun (d u : List ℕ) (m : ℕ) (t : Remaining) (y : Bench) : Type 0 where
  -- no step back goes below the start
  pub start : t.start ≡ bench_of d u
  pub small : WordsIn t.actions
  pub taken : AllTaken d t.actions
  pub hall : y.hall ≡ run_on d t.actions
  -- the slots of its newest actions
  pub count : length (held_in y.undo) ≡ m
  pub most : m ≤ max_slots
  pub enough : m ≤ length t.actions
  pub held : held_in y.undo ≡ drop (length t.actions - m) (slots_of d t.actions)
  pub undo : y.undo ≡ with_held u (held_in y.undo)
  -- a step back is refused only with none held
  pub back : (held_in y.undo ≡ [] → ⊥) → (back_on y).number ≡ 0

-- 02, A5 of a held settle on the bench y, which the run of the actions ws from an opening's bytes d left: it answers and
-- leaves what a settle does on these bytes, so what is promised of that one is promised of it
pub record SettlesAfter (d : List ℕ) (ws : List Words) (y : Bench) : Type 0 where
  pub answer : (settle_held_on y).answer ≡ (settle_on y.hall).answer
  pub hall : (settle_held_on y).left.hall ≡ (settle_on y.hall).bytes
  pub promised : Promised (made_on d ws) y.hall
  pub settled : (settle_held_on y).answer.number ≡ 0 → Settled y.hall
