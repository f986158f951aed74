-- A slot at an offset of a buffer, as the code tests, reads and writes it. Assumes nothing.
use Prim.Native.Nat.{ℕ, ◌+◌, ◌-◌, ◌≤◌}
use native.Mathlib.Omega.{arith}
use mathlib.Core.Path.{◌≡◌, sym, ap, ap₂, ◌∙◌}
use mathlib.Core.Bool.{Bool, true, ◌&&◌, and-eq-true_iff}
use mathlib.Core.List.{List, ◌++◌}
use lib.Dec.{lit<}
use lib.ListN.{length}
use lib.Seq.{sets}
use Rattle.codec.specs.Bytes.{part}
use Rattle.codec.specs.Form.{mapped, renamed}
use Rattle.codec.specs.Number.{value, digits, number, word}
use Rattle.codec.specs.Pair.{given, pair}
use Rattle.codec.proofs.BytesLaws.{sets-append}
use Rattle.codec.proofs.NumberLaws.{block-digits}
use Rattle.ranges.proofs.Parts.{given-part, given-value, pair-part, word-part}
use Rattle.model.specs.Call.{Words, words_of}
use Rattle.store.specs.Layout.{recorder_size, endpoint_size, stored_length}
use Rattle.undo.specs.Buffer.{Part, Slot, part_size, words_size, slot_size, part_form, words_form, slot_form, put_back}
use Rattle.undo.specs.Code.{PartFits, part_back}
use Rattle.undo.proofs.BufferLaws.{words-lawful, part-lawful}
use Rattle.undo.proofs.PartAt.{Bytes, part-fits, part-value}

-- where the parts of a slot stand
abbrev pub first_at : ℕ
first_at = words_size

abbrev pub second_at : ℕ
second_at = words_size + part_size recorder_size

pub words_same : {k r a b k' r' a' b' : ℕ} → k ≡ k' → r ≡ r' → a ≡ a' → b ≡ b' → words_of k r a b ≡ words_of k' r' a' b'
words_same p q s t i = words_of (p i) (q i) (s i) (t i)

-- ## Tested and read

module _ (o : ℕ) (u : List ℕ) (h : o + slot_size ≤ length u) (k : Bytes u) where
  -- four words, whatever they are
  words-valid : words_form.valid (part o words_size u) ≡ true
  unfolding words_form renamed mapped
  words-valid =
      pair-part word (pair word (pair word word)) o u
      (pair-part word (pair word word) (o + 4) u
      (pair-part word word (o + 4 + 4) u (word-part (o + 4 + 4 + 4) u (omega arith) k)
      ∙ ap (λ (t : Bool). t && true) (word-part (o + 4 + 4) u (omega arith) k))
      ∙ ap (λ (t : Bool). t && true) (word-part (o + 4) u (omega arith) k))
      ∙ ap (λ (t : Bool). t && true) (word-part o u (omega arith) k)

  pub slot-valid : slot_form.valid (part o slot_size u)
      ≡ (part_form recorder_size).valid (part (o + first_at) (part_size recorder_size) u)
      && (part_form endpoint_size).valid (part (o + second_at) (part_size endpoint_size) u)
  unfolding slot_form renamed mapped
  slot-valid =
      let e : o + words_size + part_size recorder_size ≡ o + second_at = omega arith in
      given-part words_form (λ a. pair (part_form recorder_size) (part_form endpoint_size)) o u
      ∙ ap₂ ◌&&◌ words-valid
      (given-part (part_form recorder_size) (λ a. part_form endpoint_size) (o + words_size) u
      ∙ ap (λ (j : ℕ). (part_form recorder_size).valid (part (o + words_size) (part_size recorder_size) u) && (part_form endpoint_size).valid (part j (part_size endpoint_size) u)) e)

  words-value : words_form.decode (part o words_size u)
      ≡ words_of (value (part o 4 u)) (value (part (o + 4) 4 u)) (value (part (o + 8) 4 u)) (value (part (o + 12) 4 u))
  unfolding words_form renamed mapped number
  words-value =
      let plus : (x : ℕ) → x + 0 ≡ x = λ x. omega arith in
      let at8 : o + 4 + 4 ≡ o + 8 = omega arith in
      let at12 : o + 4 + 4 + 4 ≡ o + 12 = omega arith in
      let one = given-value word (λ a. pair word (pair word word)) o u in
      let two = given-value word (λ a. pair word word) (o + 4) u in
      let three = given-value word (λ a. word) (o + 4 + 4) u in
      let k0 = plus (value (part o 4 u)) in
      let k1 = plus (value (part (o + 4) 4 u)) in
      let k2 : value (part (o + 4 + 4) 4 u) + 0 ≡ value (part (o + 8) 4 u) = plus _ ∙ ap (λ (j : ℕ). value (part j 4 u)) at8 in
      let k3 : value (part (o + 4 + 4 + 4) 4 u) + 0 ≡ value (part (o + 12) 4 u) = plus _ ∙ ap (λ (j : ℕ). value (part j 4 u)) at12 in
      ap (λ (p : ℕ × (ℕ × (ℕ × ℕ))). words_of p.0 p.1.0 p.1.1.0 p.1.1.1)
      (one ∙ (λ i. (k0 i, (two ∙ (λ j. (k1 j, (three ∙ (λ l. (k2 l, k3 l))) j))) i)))

  abbrev held : Slot
  held = slot_form.decode (part o slot_size u)

  pub slot-words : held.words
      ≡ words_of (value (part o 4 u)) (value (part (o + 4) 4 u)) (value (part (o + 8) 4 u)) (value (part (o + 12) 4 u))
  unfolding slot_form renamed mapped
  slot-words =
      ap (λ (p : Words × (Part × Part)). p.0) (given-value words_form (λ a. pair (part_form recorder_size) (part_form endpoint_size)) o u)
      ∙ words-value

  slot-parts : (held.first ≡ (part_form recorder_size).decode (part (o + first_at) (part_size recorder_size) u))
      × (held.second ≡ (part_form endpoint_size).decode (part (o + second_at) (part_size endpoint_size) u))
  unfolding slot_form renamed mapped
  slot-parts =
      let e : o + words_size + part_size recorder_size ≡ o + second_at = omega arith in
      let both = ap (λ (p : Words × (Part × Part)). p.1) (given-value words_form (λ a. pair (part_form recorder_size) (part_form endpoint_size)) o u)
      ∙ given-value (part_form recorder_size) (λ a. part_form endpoint_size) (o + words_size) u in (
        ap (λ (p : Part × Part). p.0) both,
        ap (λ (p : Part × Part). p.1) both ∙ ap (λ (j : ℕ). (part_form endpoint_size).decode (part j (part_size endpoint_size) u)) e,
      )

  module _ (v : slot_form.valid (part o slot_size u) ≡ true) where
    parts-valid : ((part_form recorder_size).valid (part (o + first_at) (part_size recorder_size) u) ≡ true)
        × ((part_form endpoint_size).valid (part (o + second_at) (part_size endpoint_size) u) ≡ true)
    parts-valid = (and-eq-true_iff _ _).0 (sym slot-valid ∙ v)

    fits : (room j : ℕ) → j + part_size room ≤ length u → (part_form room).valid (part j (part_size room) u) ≡ true → (b : List ℕ) → stored_length ≤ length b
        → PartFits u j b
    fits room j l w b long =
        let f = part-fits room j u l k w in
        record { room = omega (arith, f.0); place = omega (arith, f.1) }

    pub first_fits : (b : List ℕ) → stored_length ≤ length b → PartFits u (o + first_at) b
    first_fits = fits recorder_size (o + first_at) (omega arith) parts-valid.0

    pub second_fits : (b : List ℕ) → stored_length ≤ length b → PartFits u (o + second_at) b
    second_fits = fits endpoint_size (o + second_at) (omega arith) parts-valid.1

    back_is : (room j : ℕ) (l : j + part_size room ≤ length u) → (part_form room).valid (part j (part_size room) u) ≡ true → (p : Part)
        → p ≡ (part_form room).decode (part j (part_size room) u) → (b : List ℕ) → part_back u j b ≡ sets b p.offset p.bytes
    back_is room j l w p e b =
        sym (ap (λ (q : Part). sets b q.offset q.bytes) (e ∙ part-value room j u l k (part-fits room j u l k w).0))

    -- the two parts put back as they stand there
    pub both-back : (b : List ℕ) → part_back u (o + second_at) (part_back u (o + first_at) b) ≡ put_back b held
    unfolding put_back
    both-back b =
        back_is endpoint_size (o + second_at) (omega arith) parts-valid.1 held.second slot-parts.1 (part_back u (o + first_at) b)
        ∙ ap (λ (c : List ℕ). sets c held.second.offset held.second.bytes)
        (back_is recorder_size (o + first_at) (omega arith) parts-valid.0 held.first slot-parts.0 b)

-- ## Written

-- the four words, one after the other
pub words-written : (u : List ℕ) (o k r a b : ℕ)
    → sets (sets (sets (sets u o (digits 4 k)) (o + 4) (digits 4 r)) (o + 8) (digits 4 a)) (o + 12) (digits 4 b)
    ≡ sets u o (words_form.encode (words_of k r a b))
unfolding words_form renamed mapped given number
words-written u o k r a b =
    let zero : (x : ℕ) → x - 0 ≡ x = λ x. omega arith in
    let four : (x : ℕ) → length (digits 4 x) ≡ 4 = λ x. (block-digits 4 x).len in
    let e1 : o + length (digits 4 k) ≡ o + 4 = omega (arith, four k) in
    let e2 : o + 4 + length (digits 4 r) ≡ o + 8 = omega (arith, four r) in
    let e3 : o + 8 + length (digits 4 a) ≡ o + 12 = omega (arith, four a) in
    sym
    (ap (sets u o) (ap₂ (λ (x y : ℕ). digits 4 x ++ (digits 4 y ++ (digits 4 (a - 0) ++ digits 4 (b - 0)))) (zero k) (zero r)
    ∙ ap₂ (λ (x y : ℕ). digits 4 k ++ (digits 4 r ++ (digits 4 x ++ digits 4 y))) (zero a) (zero b))
    ∙ sets-append u o (digits 4 k) (digits 4 r ++ (digits 4 a ++ digits 4 b))
    ∙ ap (λ (j : ℕ). sets (sets u o (digits 4 k)) j (digits 4 r ++ (digits 4 a ++ digits 4 b))) e1
    ∙ sets-append (sets u o (digits 4 k)) (o + 4) (digits 4 r) (digits 4 a ++ digits 4 b)
    ∙ ap (λ (j : ℕ). sets (sets (sets u o (digits 4 k)) (o + 4) (digits 4 r)) j (digits 4 a ++ digits 4 b)) e2
    ∙ sets-append (sets (sets u o (digits 4 k)) (o + 4) (digits 4 r)) (o + 8) (digits 4 a) (digits 4 b)
    ∙ ap (λ (j : ℕ). sets (sets (sets (sets u o (digits 4 k)) (o + 4) (digits 4 r)) (o + 8) (digits 4 a)) j (digits 4 b)) e3)

-- words, first part, second part
pub slot-written : (u : List ℕ) (o : ℕ) (s : Slot) → slot_form.ok s
    → sets (sets (sets u o (words_form.encode s.words)) (o + first_at) ((part_form recorder_size).encode s.first)) (o + second_at) ((part_form endpoint_size).encode s.second)
    ≡ sets u o (slot_form.encode s)
unfolding slot_form renamed mapped given
slot-written u o s ok =
    let x = words_form.encode s.words in
    let y = (part_form recorder_size).encode s.first in
    let z = (part_form endpoint_size).encode s.second in
    let e1 : o + length x ≡ o + first_at = omega (arith, (words-lawful.stored s.words ok.0).len) in
    let e2 : o + first_at + length y ≡ o + second_at = omega (arith, ((part-lawful recorder_size (lit< tt)).stored s.first ok.1.0).len) in
    sym
    (sets-append u o x (y ++ z)
    ∙ ap (λ (j : ℕ). sets (sets u o x) j (y ++ z)) e1
    ∙ sets-append (sets u o x) (o + first_at) y z
    ∙ ap (λ (j : ℕ). sets (sets (sets u o x) (o + first_at) y) j z) e2)
