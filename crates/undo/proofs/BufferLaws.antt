-- Laws of specs/Buffer: the form is one, and what a slice holds once slots are written in it. Assumes nothing.
use Prim.Native.Nat.{ℕ, ◌-◌, ◌^◌, ◌≤◌, ◌<◌}
use native.Mathlib.Omega.{arith}
use mathlib.Core.Path.{◌≡◌, refl, ap, ◌∙◌}
use mathlib.Core.Bool.{true}
use mathlib.Core.List.{List, [], ◌∷◌, ◌++◌}
use mathlib.Core.Option.{some}
use lib.Dec.{lit<}
use lib.ListN.{length, take, drop, length-append, length-take, length-drop}
use lib.Seq.{take_at, drop_at}
use Rattle.base.specs.Lists.{Each}
use Rattle.codec.specs.Form.{mapped}
use Rattle.codec.specs.Number.{word, byte}
use Rattle.codec.specs.Pair.{pair}
use Rattle.codec.specs.Bounded.{listed, bounded, Within}
use Rattle.codec.specs.Slice.{Held}
use Rattle.codec.proofs.FormLaws.{Lawful, renamed-lawful, guarded-lawful}
use Rattle.codec.proofs.NumberLaws.{word-lawful, byte-lawful}
use Rattle.codec.proofs.PairLaws.{pair-lawful}
use Rattle.codec.proofs.CellsLaws.{Each-append, Each-take, Each-drop}
use Rattle.codec.proofs.BoundedLaws.{listed-lawful, bounded-lawful}
use Rattle.codec.proofs.SliceLaws.{held, encode-holds, value_of-encode, value-ok, whole-encode}
use Rattle.store.specs.Layout.{word_size, recorder_size, endpoint_size}
use Rattle.undo.specs.Buffer.{Slot, part_form, words_form, slot_form, undo_form, is_undo, held_in, with_held, newest, newest_of, older, pushed, popped, max_slots, undo_length, inside}

-- ## The form is lawful

pub part-lawful : (room : ℕ) → room < 256 ^ 4 → Lawful (part_form room)
unfolding part_form
part-lawful room h =
    guarded-lawful _ inside
    (renamed-lawful (pair word (listed word_size (byte 0 255) room)) _ _ (λ x. refl) (λ p. refl)
    (pair-lawful word (listed word_size (byte 0 255) room) word-lawful (listed-lawful word_size (byte 0 255) room (byte-lawful 0 255 (lit< tt)) h)))

pub words-lawful : Lawful words_form
unfolding words_form
words-lawful =
    renamed-lawful (pair word (pair word (pair word word))) _ _ (λ w. refl) (λ p. refl)
    (pair-lawful word (pair word (pair word word)) word-lawful
    (pair-lawful word (pair word word) word-lawful (pair-lawful word word word-lawful word-lawful)))

pub slot-lawful : Lawful slot_form
unfolding slot_form
slot-lawful =
    renamed-lawful (pair words_form (pair (part_form recorder_size) (part_form endpoint_size))) _ _ (λ s. refl) (λ p. refl)
    (pair-lawful words_form (pair (part_form recorder_size) (part_form endpoint_size)) words-lawful
    (pair-lawful (part_form recorder_size) (part_form endpoint_size) (part-lawful recorder_size (lit< tt)) (part-lawful endpoint_size (lit< tt))))

pub undo-lawful : Lawful undo_form
unfolding undo_form
undo-lawful = bounded-lawful slot_form max_slots slot-lawful (lit< tt)

-- ## Slots in range

-- what the slots of a buffer keep: at most 16, each with a form
abbrev pub Slots : List Slot → Type 0
Slots xs = Within slot_form.ok max_slots xs

module _ (u : List ℕ) (i : is_undo u ≡ true) where
  pub held-there : Held undo_form u
  unfolding is_undo
  held-there = held undo_form u i

  pub held-slots : Slots (held_in u)
  unfolding held_in undo_form bounded mapped
  held-slots = value-ok undo_form undo-lawful u held-there

  -- a buffer is the form of its slots, and its rest
  pub undo-whole : with_held u (held_in u) ≡ u
  unfolding with_held held_in
  undo-whole = whole-encode undo_form undo-lawful u held-there

-- the slice with these slots
module _ (u : List ℕ) (xs : List Slot) (w : Slots xs) where
  pub with-is_undo : is_undo (with_held u xs) ≡ true
  unfolding is_undo with_held undo_form bounded mapped
  with-is_undo = encode-holds undo_form undo-lawful xs w (drop undo_length u)

  pub with-held_in : held_in (with_held u xs) ≡ xs
  unfolding held_in with_held undo_form bounded mapped
  with-held_in = value_of-encode undo_form undo-lawful xs w (drop undo_length u)

  with_rest : drop undo_length (with_held u xs) ≡ drop undo_length u
  unfolding with_held undo_form bounded mapped
  with_rest = drop_at (undo_form.encode xs) (drop undo_length u) undo_length (undo-lawful.stored xs w).len

  -- and others written after them
  pub with-again : (ys : List Slot) → with_held (with_held u xs) ys ≡ with_held u ys
  unfolding with_held
  with-again ys = ap (λ (z : List ℕ). undo_form.encode ys ++ z) with_rest

-- ## The newest

pub newest-short : (xs : List Slot) → length xs ≤ max_slots → newest xs ≡ xs
unfolding newest
newest-short xs h = let e : length xs - max_slots ≡ 0 = omega arith in ap (λ (n : ℕ). drop n xs) e

pub newest-slots : (xs : List Slot) → Each slot_form.ok xs → Slots (newest xs)
unfolding newest
newest-slots xs k = (omega (arith, length-drop (length xs - max_slots) xs), Each-drop slot_form.ok (length xs - max_slots) xs k)

pub older-slots : (xs : List Slot) → Slots xs → Slots (older xs)
unfolding older
older-slots xs w = (omega (arith, length-take (length xs - 1) xs, w.0), Each-take slot_form.ok (length xs - 1) xs w.1)

-- of a list with s at its end
pub newest-last : (xs : List Slot) (s : Slot) → newest_of (xs ++ (s ∷ [])) ≡ some s
unfolding newest_of
newest-last [] s = refl
newest-last (x ∷ []) s = refl
newest-last (x ∷ y ∷ xs) s = newest-last (y ∷ xs) s

pub older-last : (xs : List Slot) (s : Slot) → older (xs ++ (s ∷ [])) ≡ xs
unfolding older
older-last xs s =
    let e : length (xs ++ (s ∷ [])) - 1 ≡ length xs = omega (arith, length-append xs (s ∷ [])) in
    ap (λ (n : ℕ). take n (xs ++ (s ∷ []))) e ∙ take_at xs (s ∷ []) (length xs) refl

-- ## A slot pushed, the newest popped

module _ (u : List ℕ) (i : is_undo u ≡ true) where
  module _ (s : Slot) (ok : slot_form.ok s) where
    pushed-slots : Slots (newest (held_in u ++ (s ∷ [])))
    pushed-slots = newest-slots (held_in u ++ (s ∷ [])) (Each-append slot_form.ok (held_in u) (s ∷ []) (held-slots u i).1 (ok, tt))

    pub pushed-is_undo : is_undo (pushed u s) ≡ true
    unfolding pushed
    pushed-is_undo = with-is_undo u (newest (held_in u ++ (s ∷ []))) pushed-slots

    pub pushed-held_in : held_in (pushed u s) ≡ newest (held_in u ++ (s ∷ []))
    unfolding pushed
    pushed-held_in = with-held_in u (newest (held_in u ++ (s ∷ []))) pushed-slots

  pub popped-is_undo : is_undo (popped u) ≡ true
  unfolding popped
  popped-is_undo = with-is_undo u (older (held_in u)) (older-slots (held_in u) (held-slots u i))

  pub popped-held_in : held_in (popped u) ≡ older (held_in u)
  unfolding popped
  popped-held_in = with-held_in u (older (held_in u)) (older-slots (held_in u) (held-slots u i))
