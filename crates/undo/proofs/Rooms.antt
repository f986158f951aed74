-- Slots in a buffer's bytes: one more written behind the others, all moved down at the 17th, the newest read and cleared.
-- Assumes nothing.
use Prim.Native.Nat.{ℕ, suc, ◌+◌, ◌-◌, ◌*◌, ◌≤◌, ◌<◌}
use native.Mathlib.Omega.{arith}
use mathlib.Core.Path.{◌≡◌, refl, sym, ap, ap₂, ◌∙◌, subst}
use mathlib.Core.Bool.{true}
use mathlib.Core.List.{List, [], ◌∷◌, ◌++◌, append_assoc, append-nil}
use mathlib.Core.Option.{Option, none, some}
use lib.Dec.{lit<}
use lib.ListN.{length, get_or, set, take, drop, length-append, length-replicate, length-take, length-drop, take-append-drop, replicate-append-replicate}
use lib.Seq.{sets, length-sets, take_at, get_or_at, drop-append-le}
use Rattle.base.specs.Lists.{Each}
use Rattle.codec.specs.Bytes.{part, zeros}
use Rattle.codec.specs.Form.{mapped}
use Rattle.codec.specs.Cells.{encode_all}
use Rattle.codec.specs.Bounded.{bounded}
use Rattle.codec.specs.Slice.{value_of}
use Rattle.codec.proofs.BytesLaws.{part-between, sets-between}
use Rattle.codec.proofs.CellsLaws.{suc-cells, Each-get_d, Each-append, Each-take, Each-drop, encode_all-append, encode_all-cons, encode_all-nil, block-encode_all}
use Rattle.codec.proofs.BoundedLaws.{bounded-encode, bounded-push, bounded-cell}
use Rattle.codec.proofs.SliceLaws.{sets-append-left, slice-room, slice-value, slice-valid}
use Rattle.codec.proofs.Piece.{Piece}
use Rattle.undo.specs.Buffer.{Slot, slot_size, max_slots, undo_length, slot_form, undo_form, is_undo, held_in, with_held, newest, newest_of, older, pushed, popped}
use Rattle.undo.specs.Code.{RoomMade, NewestAt}
use Rattle.undo.proofs.BufferLaws.{slot-lawful, undo-lawful, Slots, held-there, held-slots, undo-whole, newest-short, newest-last, older-last}

-- ## Lists of slots

-- a list by its last element
pub record Snoc {A : Type 0} (xs : List A) : Type 0 where
  pub front : List A
  pub last : A
  pub joins : xs ≡ front ++ (last ∷ [])

-- a list that is not empty has a last element
pub snoc_of : {A : Type 0} (x : A) (xs : List A) → Snoc (x ∷ xs)
snoc_of x [] = record { front = []; last = x; joins = refl }
snoc_of {A} x (y ∷ ys) =
    let s = snoc_of y ys in
    record { front = x ∷ s.front; last = s.last; joins = ap (λ (l : List A). x ∷ l) s.joins }

pub ended : (xs : List Slot) → 0 < length xs → Snoc xs
ended [] h = absurd (omega arith)
ended (x ∷ xs) h = snoc_of x xs

pub some_same : {s t : Slot} → some s ≡ some t → s ≡ t
some_same {s} e = ap (λ (o : Option Slot). elim o [ none ↦ s | some x ↦ x ]) e

-- ## A buffer's bytes

module _ (u : List ℕ) (i : is_undo u ≡ true) where
  abbrev xs : List Slot
  xs = held_in u

  abbrev n : ℕ
  n = length (held_in u)

  abbrev rest : List ℕ
  rest = drop undo_length u

  abbrev all : List ℕ
  all = encode_all slot_form (held_in u)

  few : n ≤ max_slots
  few = (held-slots u i).0

  all-long : length all ≡ n * slot_size
  all-long = (block-encode_all slot_form slot-lawful xs (held-slots u i).1).len

  -- the count, the slots, zeros, and what follows
  bytes-are : (ys : List Slot) → Slots ys → with_held u ys ≡ length ys ∷ (encode_all slot_form ys ++ (zeros ((max_slots - length ys) * slot_size) ++ rest))
  unfolding with_held undo_form
  bytes-are ys w =
      ap (λ (z : List ℕ). z ++ rest) (bounded-encode slot_form max_slots ys (omega (arith, w.0)))
      ∙ ap (λ (z : List ℕ). length ys ∷ z) (append_assoc (encode_all slot_form ys) (zeros ((max_slots - length ys) * slot_size)) rest)

  pub buffer-bytes : u ≡ n ∷ (all ++ (zeros ((max_slots - n) * slot_size) ++ rest))
  buffer-bytes = sym (undo-whole u i) ∙ bytes-are xs (held-slots u i)

  pub long-enough : undo_length ≤ length u
  long-enough = (held-there u i).long

  -- the count stands first
  pub count-is : get_or u 0 0 ≡ n
  count-is = ap (λ (z : List ℕ). get_or z 0 0) buffer-bytes

  -- ## One slot more

  whole : undo_form.encode xs ++ rest ≡ u
  unfolding with_held
  whole = undo-whole u i

  module _ (s : Slot) (ok : slot_form.ok s) where
    abbrev enc : List ℕ
    enc = slot_form.encode s

    enc-long : length enc ≡ slot_size
    enc-long = (slot-lawful.stored s ok).len

    longer : length (xs ++ (s ∷ [])) ≡ n + 1
    longer = length-append xs (s ∷ [])

    behind : n < max_slots → undo_form.encode (xs ++ (s ∷ [])) ≡ sets (sets (undo_form.encode xs) (1 + n * slot_size) enc) 0 ((n + 1) ∷ [])
    unfolding undo_form
    behind l = bounded-push slot_form max_slots slot-lawful (lit< tt) xs s (held-slots u i) l ok

    -- below 16 it is written behind the others
    pushes-left : n < max_slots → sets (sets u (1 + n * slot_size) enc) 0 ((n + 1) ∷ []) ≡ pushed u s
    unfolding pushed with_held undo_form bounded mapped
    pushes-left l =
        let q = undo_form.encode xs in
        let q-long : length q ≡ undo_length = (undo-lawful.stored xs (held-slots u i)).len in
        ap (λ (z : List ℕ). sets (sets z (1 + n * slot_size) enc) 0 ((n + 1) ∷ [])) (sym whole)
        ∙ ap (λ (z : List ℕ). sets z 0 ((n + 1) ∷ [])) (sets-append-left q rest (1 + n * slot_size) enc (omega (arith, enc-long)))
        ∙ sets-append-left (sets q (1 + n * slot_size) enc) rest 0 ((n + 1) ∷ []) (rw length-sets (omega arith))
        ∙ ap (λ (z : List ℕ). z ++ rest) (sym (behind l))
        ∙ sym (ap (λ (z : List Slot). undo_form.encode z ++ rest) (newest-short (xs ++ (s ∷ [])) (omega (arith, longer))))

    -- of 16 the oldest goes: the others are moved down, and it is written behind them
    module _ (full : n ≡ max_slots) where
      abbrev kept : List Slot
      kept = drop 1 (held_in u)

      kept-many : length kept ≡ 15
      kept-many = length-drop 1 xs ∙ omega arith

      kept-slots : Each slot_form.ok kept
      kept-slots = Each-drop slot_form.ok 1 xs (held-slots u i).1

      kept-long : length (encode_all slot_form kept) ≡ 15 * slot_size
      kept-long = (block-encode_all slot_form slot-lawful kept kept-slots).len ∙ ap (λ (m : ℕ). m * slot_size) kept-many

      -- the sixteen slots, and what follows
      u-full : u ≡ 16 ∷ (all ++ rest)
      u-full =
          let none : (max_slots - n) * slot_size ≡ 0 = ap (λ (m : ℕ). (max_slots - m) * slot_size) full in
          buffer-bytes ∙ ap₂ (λ (m k : ℕ). m ∷ (all ++ (zeros k ++ rest))) full none

      all_split : all ≡ slot_form.encode (get_or xs 0 s) ++ encode_all slot_form kept
      all_split = by xs (omega arith)
        where
          by : (ys : List Slot) → 0 < length ys → encode_all slot_form ys ≡ slot_form.encode (get_or ys 0 s) ++ encode_all slot_form (drop 1 ys)
          by [] l = absurd (omega arith)
          by (y ∷ ys) l = encode_all-cons slot_form y ys

      first-long : length (slot_form.encode (get_or xs 0 s)) ≡ slot_size
      first-long = (slot-lawful.stored (get_or xs 0 s) (Each-get_d slot_form.ok xs 0 s (omega arith) (held-slots u i).1)).len

      others : part (1 + slot_size) (15 * slot_size) u ≡ encode_all slot_form kept
      others =
          let x = slot_form.encode (get_or xs 0 s) in
          let y = encode_all slot_form kept in
          ap (part (1 + slot_size) (15 * slot_size)) (u-full ∙ ap (λ (z : List ℕ). 16 ∷ (z ++ rest)) all_split ∙ ap (λ (z : List ℕ). 16 ∷ z) (append_assoc x y rest))
          ∙ part-between (16 ∷ x) y rest (1 + slot_size) (15 * slot_size) (omega (arith, first-long)) kept-long

      newest-full : newest (xs ++ (s ∷ [])) ≡ kept ++ (s ∷ [])
      unfolding newest
      newest-full =
          let e : length (xs ++ (s ∷ [])) - max_slots ≡ 1 = omega (arith, longer) in
          ap (λ (m : ℕ). drop m (xs ++ (s ∷ []))) e ∙ drop-append-le 1 xs (s ∷ []) (omega arith)

      kept-s : length (kept ++ (s ∷ [])) ≡ 16
      kept-s = length-append kept (s ∷ []) ∙ omega (arith, kept-many)

      pushed-full : pushed u s ≡ 16 ∷ ((encode_all slot_form kept ++ enc) ++ rest)
      unfolding pushed
      pushed-full =
          ap (with_held u) newest-full
          ∙ bytes-are (kept ++ (s ∷ [])) (omega (arith, kept-s), Each-append slot_form.ok kept (s ∷ []) kept-slots (ok, tt))
          ∙ ap (λ (m : ℕ). m ∷ (encode_all slot_form (kept ++ (s ∷ [])) ++ (zeros ((max_slots - m) * slot_size) ++ rest))) kept-s
          ∙ ap (λ (z : List ℕ). 16 ∷ (z ++ rest))
          (encode_all-append slot_form kept (s ∷ []) ∙ ap (λ (z : List ℕ). encode_all slot_form kept ++ z) (encode_all-cons slot_form s [] ∙ ap (λ (z : List ℕ). enc ++ z) (encode_all-nil slot_form) ∙ append-nil enc))

      pushes_full : sets (sets (sets u 1 (part (1 + slot_size) (15 * slot_size) u)) (1 + 15 * slot_size) enc) 0 (16 ∷ []) ≡ pushed u s
      pushes_full =
          let y = encode_all slot_form kept in
          let a = take (15 * slot_size) all in
          let c = drop (15 * slot_size) all in
          let a-long : length a ≡ 15 * slot_size = length-take (15 * slot_size) all ∙ omega (arith, all-long, full) in
          let c-long : length c ≡ slot_size = length-drop (15 * slot_size) all ∙ omega (arith, all-long, full) in
          let split : u ≡ (16 ∷ []) ++ (a ++ (c ++ rest)) =
          u-full ∙ ap (λ (z : List ℕ). 16 ∷ (z ++ rest)) (sym (take-append-drop (15 * slot_size) all)) ∙ ap (λ (z : List ℕ). 16 ∷ z) (append_assoc a c rest) in
          let moved : sets u 1 (part (1 + slot_size) (15 * slot_size) u) ≡ (16 ∷ y) ++ (c ++ rest) =
          ap (sets u 1) others ∙ ap (λ (z : List ℕ). sets z 1 y) split
          ∙ sets-between (16 ∷ []) a (c ++ rest) 1 (15 * slot_size) refl a-long y kept-long in
          ap (λ (z : List ℕ). sets (sets z (1 + 15 * slot_size) enc) 0 (16 ∷ [])) moved
          ∙ ap (λ (z : List ℕ). sets z 0 (16 ∷ [])) (sets-between (16 ∷ y) c rest (1 + 15 * slot_size) slot_size (omega (arith, kept-long)) c-long enc enc-long)
          ∙ ap (λ (z : List ℕ). 16 ∷ z) (sym (append_assoc y enc rest)) ∙ sym pushed-full

  pub room-left : n < max_slots → RoomMade u n u
  room-left l = record { few = l; pushes = λ s ok. pushes-left s ok l }

  pub room-made : n ≡ max_slots → (v : List ℕ) → v ≡ sets u 1 (part (1 + slot_size) (15 * slot_size) u) → RoomMade u 15 v
  room-made full v e =
      record {
        few = omega arith;
        pushes = λ s ok. ap (λ (z : List ℕ). sets (sets z (1 + 15 * slot_size) (slot_form.encode s)) 0 (16 ∷ [])) e ∙ pushes_full s ok full;
      }

  -- ## The newest

  module _ (some-held : 0 < n) where
    abbrev end : Snoc (held_in u)
    end = ended (held_in u) some-held

    front-many : length end.front ≡ n - 1
    front-many = let e = ap length end.joins ∙ length-append end.front (end.last ∷ []) in omega (arith, e)

    last-is : get_or xs (n - 1) end.last ≡ end.last
    last-is =
        ap (λ (z : List Slot). get_or z (n - 1) end.last) end.joins
        ∙ get_or_at end.front end.last [] end.last (n - 1) front-many

    in_cell : Piece undo_form slot_form (1 + (n - 1) * slot_size) (λ ys. n - 1 < length ys) (λ ys. get_or ys (n - 1) end.last) (λ ys y. set ys (n - 1) y)
    unfolding undo_form
    in_cell = bounded-cell slot_form max_slots slot-lawful (lit< tt) (n - 1) end.last

    there : n - 1 < length (value_of undo_form u)
    unfolding held_in
    there = omega arith

    pub newest-there : NewestAt u (1 + (n - 1) * slot_size)
    unfolding held_in
    newest-there =
        record {
          room = omega (arith, long-enough, slice-room undo-lawful slot-lawful u (held-there u i) there in_cell.view);
          valid = slice-valid undo-lawful slot-lawful u (held-there u i) there in_cell.view;
          slot =
              ap newest_of end.joins ∙ newest-last end.front end.last
              ∙ ap some (sym (slice-value undo-lawful slot-lawful u (held-there u i) there in_cell.view ∙ last-is));
        }

    -- its place cleared, and the count one less
    pub pops : sets (sets u (1 + (n - 1) * slot_size) (zeros slot_size)) 0 ((n - 1) ∷ []) ≡ popped u
    unfolding popped
    pops =
        let ys = end.front in
        let y = encode_all slot_form ys in
        let z = slot_form.encode end.last in
        let k : ℕ = (max_slots - n) * slot_size in
        let slots = held-slots u i in
        let ok : Each slot_form.ok (ys ++ (end.last ∷ [])) = subst (Each slot_form.ok) end.joins slots.1 in
        let ys-ok : Each slot_form.ok ys = subst (Each slot_form.ok) (take_at ys (end.last ∷ []) (length ys) refl) (Each-take slot_form.ok (length ys) (ys ++ (end.last ∷ [])) ok) in
        let last_ok : slot_form.ok end.last = subst slot_form.ok last-is (Each-get_d slot_form.ok xs (n - 1) end.last (omega arith) slots.1) in
        let y-long : length y ≡ (n - 1) * slot_size = (block-encode_all slot_form slot-lawful ys ys-ok).len ∙ ap (λ (m : ℕ). m * slot_size) front-many in
        let z-long : length z ≡ slot_size = (slot-lawful.stored end.last last_ok).len in
        let split : u ≡ (n ∷ y) ++ (z ++ (zeros k ++ rest)) =
        buffer-bytes
        ∙ ap (λ (l : List ℕ). n ∷ (l ++ (zeros k ++ rest)))
        (ap (encode_all slot_form) end.joins ∙ encode_all-append slot_form ys (end.last ∷ [])
        ∙ ap (λ (l : List ℕ). y ++ l) (encode_all-cons slot_form end.last [] ∙ ap (λ (l : List ℕ). z ++ l) (encode_all-nil slot_form) ∙ append-nil z))
        ∙ ap (λ (l : List ℕ). n ∷ l) (append_assoc y z (zeros k ++ rest)) in
        let less : max_slots - (n - 1) ≡ suc (max_slots - n) = omega (arith, few) in
        let blank : zeros ((max_slots - (n - 1)) * slot_size) ≡ zeros slot_size ++ zeros k =
        ap zeros (ap (λ (m : ℕ). m * slot_size) less ∙ suc-cells (max_slots - n) slot_size) ∙ sym (replicate-append-replicate slot_size k 0) in
        ap (λ (l : List ℕ). sets (sets l (1 + (n - 1) * slot_size) (zeros slot_size)) 0 ((n - 1) ∷ [])) split
        ∙ ap (λ (l : List ℕ). sets l 0 ((n - 1) ∷ []))
        (sets-between (n ∷ y) z (zeros k ++ rest) (1 + (n - 1) * slot_size) slot_size (omega (arith, y-long)) z-long (zeros slot_size) (length-replicate {A = ℕ} slot_size 0))
        ∙ ap (λ (l : List ℕ). (n - 1) ∷ (y ++ l)) (sym (ap (λ (l : List ℕ). l ++ rest) blank ∙ append_assoc (zeros slot_size) (zeros k) rest))
        ∙ sym
        (ap (with_held u) (ap older end.joins ∙ older-last ys end.last)
        ∙ bytes-are ys (omega (arith, front-many, few), ys-ok)
        ∙ ap (λ (m : ℕ). m ∷ (y ++ (zeros ((max_slots - m) * slot_size) ++ rest))) front-many)
