-- What the code tests of the small parts of a hall's bytes: numbers, marks, sets of flags, pairs at an offset.
-- Assumes nothing.
use Prim.Native.Nat.{ℕ, zero, suc, ◌+◌, ◌-◌, ◌*◌, ◌≤◌, ◌<◌}
use native.Mathlib.Omega.{arith}
use native.Mathlib.Nat.{mul-one, not-suc-le-zero, le_of_suc-le-suc}
use native.Mathlib.Numerals.{add-one}
use mathlib.Core.Path.{◌≡◌, refl, sym, ap, ap₂, ◌∙◌}
use mathlib.Core.Bool.{Bool, true, ◌&&◌, and-true}
use mathlib.Core.List.{List, [], ◌∷◌}
use lib.Dec.{leb, ltb}
use lib.ListN.{length, get_or, take, drop, length-take, length-drop}
use lib.Seq.{take-take}
use borrow.Author.Tests.{le-leb}
use Rattle.base.proofs.NumbersLaws.{length-numbers}
use Rattle.codec.specs.Bytes.{Block, part, all_zero}
use Rattle.codec.specs.Form.{Form, mapped}
use Rattle.codec.specs.Number.{value, between, number, byte, mark, word, flag}
use Rattle.codec.specs.Pair.{given}
use Rattle.codec.specs.Cells.{valid_all, cells}
use Rattle.codec.specs.ByteList.{all_in}
use Rattle.codec.specs.Table.{table, flags}
use Rattle.codec.proofs.BytesLaws.{drop-part, block-part}
use Rattle.codec.proofs.NumberLaws.{value-lt, between-true, true-between, number-valid}
use Rattle.model.specs.Hall.{max_number}
use Rattle.store.specs.Layout.{number_size, word_size}
use Rattle.store.specs.CellForms.{view_number}

-- a pair at offset o: the first part, and then the second
pub given-part : {A B : Type 0} {m n : ℕ} (H : Form A m) (G : A → Form B n) (o : ℕ) (b : List ℕ)
    → (given H G).valid (part o (m + n) b) ≡ H.valid (part o m b) && (G (H.decode (part o m b))).valid (part (o + m) n b)
unfolding given
given-part {m} {n} H G o b =
    let first : take m (part o (m + n) b) ≡ part o m b = take-take m (m + n) (drop o b) (omega arith) in
    let e : m + n - m ≡ n = omega arith in
    let second : drop m (part o (m + n) b) ≡ part (o + m) n b =
    drop-part o (m + n) m b (omega arith) ∙ ap (λ (j : ℕ). part (o + m) j b) e in
    ap₂ (λ (x y : List ℕ). H.valid x && (G (H.decode x)).valid y) first second

-- a byte in lo .. hi
pub byte-part : (lo hi o : ℕ) (b : List ℕ) → o < length b → (byte lo hi).valid (part o 1 b) ≡ between lo hi (get_or b o 0)
byte-part lo hi o b h =
    let e : get_or b o 0 + 0 ≡ get_or b o 0 = omega arith in
    number-valid 0 lo hi o b h ∙ ap (between lo hi) e

pub byte-in : (lo hi o : ℕ) (b : List ℕ) → o < length b → (byte lo hi).valid (part o 1 b) ≡ true → (lo ≤ get_or b o 0) × (get_or b o 0 ≤ hi)
byte-in lo hi o b h v = between-true lo hi (get_or b o 0) (sym (byte-part lo hi o b h) ∙ v)

-- a mark of 1 .. hi, stored less 1
pub mark-part : (hi o : ℕ) (b : List ℕ) → o < length b → (mark hi).valid (part o 1 b) ≡ ltb (get_or b o 0) hi
mark-part hi o b h =
    number-valid 1 1 hi o b h
    ∙ ap (λ (t : Bool). t && leb (get_or b o 0 + 1) hi) (le-leb 1 (get_or b o 0 + 1) (omega arith))
    ∙ ap (λ (j : ℕ). leb j hi) (add-one (get_or b o 0))

-- four bytes, whatever they are
module _ (o : ℕ) (b : List ℕ) (h : o + number_size ≤ length b) (k : (i : ℕ) → get_or b i 0 < 256) where
  -- are a number up to the greatest
  pub number-most : value (part o number_size b) ≤ max_number
  number-most =
      let whole : Block (length b) b = record { len = refl; byte = k } in
      omega (arith, value-lt number_size (part o number_size b) (block-part o number_size h whole))

  -- so a word
  pub word-part : word.valid (part o word_size b) ≡ true
  unfolding number
  word-part =
      let e : value (part o word_size b) + 0 ≡ value (part o word_size b) = omega arith in
      ap (between 0 max_number) e ∙ true-between 0 max_number (value (part o word_size b)) (omega arith) number-most

  -- and a view number, or 0 for none
  pub view-number-part : view_number.valid (part o number_size b) ≡ true
  unfolding view_number
  view-number-part = word-part

-- the second part of a pair, whose form does not go by the first
pub pair-part : {A B : Type 0} {m n : ℕ} (H : Form A m) (G : Form B n) (o : ℕ) (b : List ℕ) {t : Bool}
    → G.valid (part (o + m) n b) ≡ t → (given H (λ a. G)).valid (part o (m + n) b) ≡ H.valid (part o m b) && t
pair-part {m} H G o b e = given-part H (λ a. G) o b ∙ ap (λ (t : Bool). H.valid (part o m b) && t) e

-- the value of a pair
pub given-value : {A B : Type 0} {m n : ℕ} (H : Form A m) (G : A → Form B n) (o : ℕ) (b : List ℕ)
    → (given H G).decode (part o (m + n) b) ≡ (H.decode (part o m b), (G (H.decode (part o m b))).decode (part (o + m) n b))
unfolding given
given-value {A} {B} {m} {n} H G o b =
    let first : take m (part o (m + n) b) ≡ part o m b = take-take m (m + n) (drop o b) (omega arith) in
    let e : m + n - m ≡ n = omega arith in
    let second : drop m (part o (m + n) b) ≡ part (o + m) n b =
    drop-part o (m + n) m b (omega arith) ∙ ap (λ (j : ℕ). part (o + m) j b) e in
    λ i. (H.decode (first i), (G (H.decode (first i))).decode (second i))

-- a set of n flags
valid_all-flag : (m : ℕ) (b : List ℕ) → m ≤ length b → valid_all flag m b ≡ all_in 0 1 (take m b)
unfolding flag mapped number valid_all value all_in
valid_all-flag zero b h = refl
valid_all-flag (suc m) [] h = absurd (not-suc-le-zero h)
valid_all-flag (suc m) (x ∷ xs) h =
    let e : x + 0 + 0 ≡ x = omega arith in
    ap₂ (λ (z : ℕ) (t : Bool). between 0 1 z && t) e (valid_all-flag m xs (le_of_suc-le-suc h))

pub flags-part : (n o : ℕ) (b : List ℕ) → o + n ≤ length b → (flags n).valid (part o (n * 1) b) ≡ all_in 0 1 (part o (o + n - o) b)
unfolding flags table mapped cells all_zero
flags-part n o b h =
    let e : o + n - o ≡ n = omega arith in
    let none : n - n ≡ 0 = omega arith in
    let fits : length (part o n b) ≡ n = simp (length-take, length-drop) (omega arith) in
    ap₂ (λ (l j : ℕ). valid_all flag l (part o j b) && all_zero (drop (l * 1) (part o j b))) (length-numbers 1 n) (mul-one n)
    ∙ ap₂ ◌&&◌ (valid_all-flag n (part o n b) (omega arith) ∙ ap (all_in 0 1) (take-take n n (drop o b) (omega arith)))
    (ap (λ (j : ℕ). all_zero (drop j (part o n b))) (mul-one n) ∙ ap all_zero (drop-part o n n b (omega arith)) ∙ ap (λ (j : ℕ). all_zero (part (o + n) j b)) none)
    ∙ and-true (all_in 0 1 (part o n b))
    ∙ ap (λ (j : ℕ). all_in 0 1 (part o j b)) (sym e)
