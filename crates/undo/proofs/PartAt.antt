-- A part and a slot at an offset of a buffer, as the code tests, reads and writes them. Assumes nothing.
use Prim.Native.Nat.{ℕ, suc, ◌+◌, ◌-◌, ◌*◌, ◌≤◌, ◌<◌}
use native.Mathlib.Omega.{arith}
use native.Mathlib.Nat.{mul-one}
use mathlib.Core.Path.{◌≡◌, refl, sym, ap, ap₂, ◌∙◌, subst}
use mathlib.Core.Bool.{Bool, true, false, ◌&&◌, and-eq-true_iff, true≢false}
use mathlib.Core.List.{List, [], ◌∷◌, ◌++◌}
use lib.Dec.{leb, lit<}
use lib.Pow.{are_bytes}
use lib.ListN.{length, get_or, take, drop}
use lib.Seq.{sets, take-take}
use borrow.Author.Tests.{le-leb, lt-leb, leb-true, leb-false}
use Rattle.base.specs.Lists.{Each}
use Rattle.base.proofs.Bools.{by_cases}
use Rattle.codec.specs.Bytes.{part, zeros, all_zero}
use Rattle.codec.specs.Form.{mapped, renamed, guarded}
use Rattle.codec.specs.Number.{value, digits, between, number, byte, word}
use Rattle.codec.specs.Pair.{given}
use Rattle.codec.specs.Cells.{valid_all, encode_all, decode_all, cells}
use Rattle.codec.specs.Bounded.{listed}
use Rattle.codec.specs.ByteList.{all_in}
use Rattle.codec.specs.Slice.{holds}
use Rattle.codec.proofs.SliceLaws.{are_bytes-of}
use Rattle.codec.proofs.BytesLaws.{drop-part, block-part, sets-append}
use Rattle.codec.proofs.NumberLaws.{true-between, block-digits}
use Rattle.codec.proofs.ByteListLaws.{encode-bytes, decode-bytes, valid-bytes}
use Rattle.codec.proofs.PutBack.{part_length}
use Rattle.ranges.proofs.Loops.{bounded-over, bounded-within}
use Rattle.ranges.proofs.Parts.{given-part, given-value, word-part}
use Rattle.store.specs.Layout.{word_size, stored_length}
use Rattle.undo.specs.Buffer.{Part, part_size, slot_size, max_slots, undo_length, inside, part_form, slot_form, undo_form, is_undo}
use Rattle.undo.specs.Code.{offset_at, size_at}

-- every element is a byte
abbrev pub Bytes : List ℕ → Type 0
Bytes u = (i : ℕ) → get_or u i 0 < 256

bytes-in : (xs : List ℕ) → Bytes xs → all_in 0 255 xs ≡ true
unfolding all_in
bytes-in [] k = refl
bytes-in (x ∷ xs) k = (and-eq-true_iff (between 0 255 x) (all_in 0 255 xs)).1 (true-between 0 255 x (omega arith) (omega (arith, k 0)), bytes-in xs (λ i. k (suc i)))

pub bytes_ok : (xs : List ℕ) → Bytes xs → Each (byte 0 255).ok xs
unfolding number
bytes_ok [] k = tt
bytes_ok (x ∷ xs) k = ((omega arith, omega (arith, k 0)), bytes_ok xs (λ i. k (suc i)))

pub bytes-part : (o n : ℕ) (u : List ℕ) → o + n ≤ length u → Bytes u → Bytes (part o n u)
bytes-part o n u h k = (block-part o n h (record { len = refl; byte = k })).byte

-- ## A part with room for so many bytes

module _ (room o : ℕ) (u : List ℕ) (h : o + part_size room ≤ length u) (k : Bytes u) where
  abbrev size : ℕ
  size = size_at u o

  abbrev rest : List ℕ
  rest = part (o + 4 + 4) (room * 1) u

  plain : size + 0 ≡ size
  plain = omega arith

  rest-long : length rest ≡ room
  rest-long = part_length (o + 4 + 4) (room * 1) u (omega (arith, mul-one room)) ∙ mul-one room

  -- the test of length and bytes
  list-valid : (listed word_size (byte 0 255) room).valid (part (o + 4) (4 + room * 1) u)
      ≡ leb size room && (valid_all (byte 0 255) size rest && all_zero (drop (size * 1) rest))
  unfolding mapped number cells
  list-valid =
      given-part (number 4 0 0 room) (λ m. cells (byte 0 255) m room) (o + 4) u
      ∙ ap (λ (n : ℕ). between 0 room n && (valid_all (byte 0 255) n rest && all_zero (drop (n * 1) rest))) plain
      ∙ ap (λ (t : Bool). (t && leb size room) && (valid_all (byte 0 255) size rest && all_zero (drop (size * 1) rest))) (le-leb 0 size (omega arith))

  -- all its bytes are, and what follows them is tested
  list-within : size ≤ room → (listed word_size (byte 0 255) room).valid (part (o + 4) (4 + room * 1) u)
      ≡ all_zero (part (o + 4 + 4 + size) (room - size) u)
  list-within l =
      let left : room * 1 - size ≡ room - size = omega (arith, mul-one room) in
      let inner : Bytes (take size rest) =
      subst (λ (z : List ℕ). Bytes z) (sym (take-take size (room * 1) (drop (o + 4 + 4) u) (omega (arith, mul-one room)))) (bytes-part (o + 4 + 4) size u (omega (arith, mul-one room)) k) in
      list-valid
      ∙ ap (λ (t : Bool). t && (valid_all (byte 0 255) size rest && all_zero (drop (size * 1) rest))) (le-leb size room l)
      ∙ ap (λ (t : Bool). t && all_zero (drop (size * 1) rest))
      (valid-bytes 0 255 size rest (omega (arith, rest-long)) ∙ bytes-in (take size rest) inner)
      ∙ ap all_zero (ap (λ (n : ℕ). drop n rest) (mul-one size) ∙ drop-part (o + 4 + 4) (room * 1) size u (omega (arith, mul-one room)))
      ∙ ap (λ (n : ℕ). all_zero (part (o + 4 + 4 + size) n u)) left

  whole : Bool → Bool → Bool
  whole s t = (true && s) && t

  abbrev held : Part
  held = (part_form room).decode (part o (part_size room) u)

  by_tests : (part_form room).valid (part o (part_size room) u)
      ≡ whole ((listed word_size (byte 0 255) room).valid (part (o + 4) (4 + room * 1) u)) (inside held)
  unfolding part_form guarded renamed mapped whole
  by_tests =
      ap (λ (t : Bool). t && inside held)
      (given-part word (λ a. listed word_size (byte 0 255) room) o u
      ∙ ap (λ (t : Bool). t && (listed word_size (byte 0 255) room).valid (part (o + 4) (4 + room * 1) u)) (word-part o u (omega arith) k))

  -- the part that stands there
  pub part-value : size ≤ room → held ≡ record { offset = offset_at u o; bytes = part (o + 8) size u }
  unfolding part_form guarded renamed mapped number cells
  part-value l =
      let e : o + 4 + 4 ≡ o + 8 = omega arith in
      let low : value (part o 4 u) + 0 ≡ value (part o 4 u) = omega arith in
      let bytes : decode_all (byte 0 255) (size + 0) rest ≡ part (o + 8) size u =
      ap (λ (n : ℕ). decode_all (byte 0 255) n rest) plain
      ∙ decode-bytes 0 255 size rest (omega (arith, rest-long))
      ∙ take-take size (room * 1) (drop (o + 4 + 4) u) (omega (arith, mul-one room))
      ∙ ap (λ (n : ℕ). part n size u) e in
      ap (λ (p : ℕ × List ℕ). let x : Part = record { offset = p.0; bytes = p.1 } in x)
      (given-value word (λ a. listed word_size (byte 0 255) room) o u
      ∙ ap₂ (λ (x : ℕ) (y : List ℕ). (x, y)) low
      (ap (λ (p : ℕ × List ℕ). p.1) (given-value (number 4 0 0 room) (λ m. cells (byte 0 255) m room) (o + 4) u) ∙ bytes))

  inside_is : size ≤ room → inside held ≡ leb (offset_at u o + size) stored_length
  inside_is l =
      ap inside (part-value l)
      ∙ ap (λ (n : ℕ). leb (offset_at u o + n) stored_length) (part_length (o + 8) size u (omega (arith, mul-one room)))

  -- its length is past the room
  pub part-over : room < size → (part_form room).valid (part o (part_size room) u) ≡ false
  unfolding whole
  part-over l =
      by_tests
      ∙ ap (λ (t : Bool). whole t (inside held))
      (list-valid ∙ ap (λ (t : Bool). t && (valid_all (byte 0 255) size rest && all_zero (drop (size * 1) rest))) (lt-leb size room l))

  no_part : (s : Bool) → whole s false ≡ false
  unfolding whole
  no_part true = refl
  no_part false = refl

  -- it passes the hall's end
  pub part-past : size ≤ room → stored_length < offset_at u o + size → (part_form room).valid (part o (part_size room) u) ≡ false
  part-past l m =
      by_tests ∙ ap (whole _) (inside_is l ∙ lt-leb (offset_at u o + size) stored_length m) ∙ no_part _

  just : (s : Bool) → whole s true ≡ s
  unfolding whole
  just true = refl
  just false = refl

  -- zeros follow its bytes, or not
  pub part-zeros : size ≤ room → offset_at u o + size ≤ stored_length
      → (part_form room).valid (part o (part_size room) u) ≡ all_zero (part (o + 8 + size) (o + 8 + room - (o + 8 + size)) u)
  part-zeros l m =
      let e : o + 4 + 4 + size ≡ o + 8 + size = omega arith in
      let f : room - size ≡ o + 8 + room - (o + 8 + size) = omega arith in
      by_tests ∙ ap (whole _) (inside_is l ∙ le-leb (offset_at u o + size) stored_length m) ∙ just _ ∙ list-within l
      ∙ ap₂ (λ (i n : ℕ). all_zero (part i n u)) e f

  -- what is valid is within its room and within a hall
  pub part-fits : (part_form room).valid (part o (part_size room) u) ≡ true → (size ≤ room) × (offset_at u o + size ≤ stored_length)
  part-fits v =
      by_cases (leb size room)
      (λ t.
      let l = leb-true size room t in
      (l, by_cases (leb (offset_at u o + size) stored_length) (leb-true _ stored_length) (λ f. absurd (true≢false (sym v ∙ part-past l (leb-false _ stored_length f))))))
      (λ f. absurd (true≢false (sym v ∙ part-over (leb-false size room f))))

-- ## A part written

module _ (room : ℕ) (p : Part) (k : Bytes p.bytes) where
  -- its offset, its length, its bytes, zeros
  part_bytes : (part_form room).encode p ≡ digits 4 p.offset ++ (digits 4 (length p.bytes) ++ (p.bytes ++ zeros (room - length p.bytes)))
  unfolding part_form guarded renamed mapped given number cells
  part_bytes =
      let n = length p.bytes in
      let a : p.offset - 0 ≡ p.offset = omega arith in
      let c : n - 0 ≡ n = omega arith in
      ap₂ (λ (x y : ℕ). digits 4 x ++ (digits 4 y ++ (encode_all (byte 0 255) p.bytes ++ zeros ((room - n) * 1)))) a c
      ∙ ap₂ (λ (x : List ℕ) (y : ℕ). digits 4 p.offset ++ (digits 4 n ++ (x ++ zeros y))) (encode-bytes 0 255 (lit< tt) p.bytes (bytes_ok p.bytes k)) (mul-one (room - n))

  -- so written one after the other
  pub part-written : (u : List ℕ) (o : ℕ) (n : ℕ) → length p.bytes ≡ n
      → sets (sets (sets (sets u o (digits 4 p.offset)) (o + 4) (digits 4 n)) (o + 8) p.bytes) (o + 8 + n) (zeros (o + 8 + room - (o + 8 + n)))
      ≡ sets u o ((part_form room).encode p)
  part-written u o n e =
      let x = digits 4 p.offset in
      let lx : length x ≡ 4 = (block-digits 4 p.offset).len in
      let y = digits 4 n in
      let ly : length y ≡ 4 = (block-digits 4 n).len in
      let z = zeros (room - n) in
      let f : o + 8 + room - (o + 8 + n) ≡ room - n = omega arith in
      let one : o + length x ≡ o + 4 = omega arith in
      let two : o + 4 + length y ≡ o + 8 = omega arith in
      let three : o + 8 + length p.bytes ≡ o + 8 + n = omega arith in
      sym
      (ap (sets u o) (part_bytes ∙ ap (λ (m : ℕ). x ++ (digits 4 m ++ (p.bytes ++ zeros (room - m)))) e)
      ∙ sets-append u o x (y ++ (p.bytes ++ z))
      ∙ ap (λ (j : ℕ). sets (sets u o x) j (y ++ (p.bytes ++ z))) one
      ∙ sets-append (sets u o x) (o + 4) y (p.bytes ++ z)
      ∙ ap (λ (j : ℕ). sets (sets (sets u o x) (o + 4) y) j (p.bytes ++ z)) two
      ∙ sets-append (sets (sets u o x) (o + 4) y) (o + 8) p.bytes z
      ∙ ap₂ (λ (j m : ℕ). sets (sets (sets (sets u o x) (o + 4) y) (o + 8) p.bytes) j (zeros m)) three (sym f))

-- ## The whole buffer

-- too short
pub undo-short : (u : List ℕ) → length u < undo_length → is_undo u ≡ false
unfolding is_undo holds
undo-short u h = ap (λ (t : Bool). t && (are_bytes (take undo_length u) && undo_form.valid (take undo_length u))) (lt-leb undo_length (length u) h)

module _ (u : List ℕ) (l : undo_length ≤ length u) (k : Bytes u) where
  -- by the form alone: a slice of bytes has no others
  undo-form : is_undo u ≡ undo_form.valid (part 0 undo_length u)
  unfolding is_undo holds
  undo-form =
      ap₂ (λ (s t : Bool). s && (t && undo_form.valid (take undo_length u))) (le-leb undo_length (length u) l)
      (are_bytes-of (take undo_length u) (bytes-part 0 undo_length u l k))

  -- a count past 16
  pub undo-over : max_slots < get_or u 0 0 → is_undo u ≡ false
  unfolding undo_form
  undo-over m = undo-form ∙ bounded-over slot_form max_slots 0 u l m

  -- else by the slots
  pub undo-slots : get_or u 0 0 ≤ max_slots → is_undo u ≡ (cells slot_form (get_or u 0 0) max_slots).valid (part 1 (max_slots * slot_size) u)
  unfolding undo_form
  undo-slots m = undo-form ∙ bounded-within slot_form max_slots 0 u l m
