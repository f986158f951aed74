-- What a line says (docs/text-form.md).
-- Assumes nothing.
use Rattle.std.specs.Prelude.{ℕ, min, Bool, true, false, not, ◌&&◌, List, [], ◌∷◌, ◌++◌, eqb, replicate}
use Rattle.base.specs.Lists.{rest, is_empty}
use Rattle.codec.specs.Bytes.{same_bytes}
use Rattle.model.specs.Kinds.{Use, unused, word, recorder, number, set, Uses, uses, kind, no_kind, kind_of}
use Rattle.model.specs.Call.{Words, words_of}
use Rattle.model.specs.RunFile.{FileOpening}
use Rattle.story.specs.Fields.{fields_in, first_field}
use Rattle.story.specs.Numbers.{Value, value, number_of}
use Rattle.story.specs.Sets.{set_of}
use Rattle.story.specs.Keywords.{word_number, raw_number, hall_number, founders-word, whole_word, votes-word}
use Rattle.story.specs.Printing.{whole_mask}

-- nothing (a blank line or a remark), an opening, an action, or no line of the text form: the number of its first word
pub data Line : Type 0 where
  blank : Line
  opening : FileOpening → Line
  action : Words → Line
  wrong : ℕ → Line

-- ## Fields taken one after another

-- a word taken off a line: whether it has its form, its number, and the fields after it
pub record Taken : Type 0 where
  pub ok : Bool
  pub number : ℕ
  pub left : List (List ℕ)

-- the first field read by `read`
unfoldable pub take_field : (List ℕ → Value) → List (List ℕ) → Taken
take_field read fs =
    let x = read (first_field fs) in
    record { ok = x.ok; number = x.number; left = rest fs }

-- a word by its use: an unused one has no field and is 0
unfoldable pub take_word : Use → List (List ℕ) → Taken
take_word unused fs = record { ok = true; number = 0; left = fs }
take_word word fs = take_field number_of fs
take_word recorder fs = take_field number_of fs
take_word number fs = take_field number_of fs
take_word set fs = take_field set_of fs

-- four numbers
pub record TakenFour : Type 0 where
  pub ok : Bool
  pub words : Words
  pub left : List (List ℕ)

unfoldable pub take_four : List (List ℕ) → TakenFour
take_four fs =
    let w = take_field number_of fs in
    let x = take_field number_of w.left in
    let y = take_field number_of x.left in
    let z = take_field number_of y.left in
    record {
      ok = w.ok && (x.ok && (y.ok && z.ok));
      words = words_of w.number x.number y.number z.number;
      left = z.left;
    }

-- ## Actions

-- the fields after the word of the kind with number k
unfoldable pub kind_line : ℕ → Uses → List (List ℕ) → Line
kind_line k u fs =
    let r = take_word u.r fs in
    let a = take_word u.a r.left in
    let b = take_word u.b a.left in
    elim (r.ok && (a.ok && (b.ok && is_empty b.left))) [
      | true ↦ action (words_of k r.number a.number b.number)
      | false ↦ wrong k
    ]

-- the fields after `raw`
unfoldable pub raw_line : List (List ℕ) → Line
raw_line fs = let x = take_four fs in elim (x.ok && is_empty x.left) [ true ↦ action x.words | false ↦ wrong raw_number ]

-- ## Openings

-- `whole`, for n above 8 as for 8: such an opening is 16; or a set with a member
unfoldable pub founders_of : ℕ → List ℕ → Value
founders_of n f =
    let x = set_of f in
    elim (same_bytes whole_word f) [
      | true ↦ value (whole_mask (min n 8))
      | false ↦ record { ok = x.ok && not (eqb x.number 0); number = x.number }
    ]

-- the founders, if they are told; else the word 0
unfoldable pub take_founders : ℕ → List (List ℕ) → Taken
take_founders n fs =
    elim (same_bytes founders-word (first_field fs)) [
      | true ↦ take_field (founders_of n) (rest fs)
      | false ↦ record { ok = true; number = 0; left = fs }
    ]

-- the third word and the eight vote words
pub record TakenVotes : Type 0 where
  pub ok : Bool
  pub third : ℕ
  pub words : List ℕ
  pub left : List (List ℕ)

abbrev four : Words → List ℕ
four w = w.k ∷ w.r ∷ w.a ∷ w.b ∷ []

unfoldable pub take_eight : List (List ℕ) → TakenVotes
take_eight fs =
    let x = take_four fs in
    let y = take_four x.left in
    record { ok = x.ok && y.ok; third = 1; words = four x.words ++ four y.words; left = y.left }

-- the votes, if they are told; else a third word of 0, without vote words
unfoldable pub take_votes : List (List ℕ) → TakenVotes
take_votes fs =
    elim (same_bytes votes-word (first_field fs)) [
      | true ↦ take_eight (rest fs)
      | false ↦ record { ok = true; third = 0; words = replicate 8 0; left = fs }
    ]

-- the fields after `hall`
unfoldable pub opening_line : List (List ℕ) → Line
opening_line fs =
    let n = take_field number_of fs in
    let m = take_founders n.number n.left in
    let v = take_votes m.left in
    elim (n.ok && (m.ok && (v.ok && is_empty v.left))) [
      | true ↦ opening (record { size = n.number; founders = m.number; third = v.third; words = v.words })
      | false ↦ wrong hall_number
    ]

-- ## Lines

-- a line by the number of its first word
unfoldable pub line_from : ℕ → List (List ℕ) → Line
line_from k fs =
    elim (eqb k hall_number) [
      | true ↦ opening_line fs
      | false ↦
          elim (eqb k raw_number) [
            | true ↦ raw_line fs
            | false ↦ elim (kind_of k) [ kind κ ↦ kind_line k (uses κ) fs | no_kind ↦ wrong 0 ]
          ]
    ]

-- the first line of a text
unfoldable pub line_of : List ℕ → Line
line_of bs =
    let fs = fields_in bs in
    elim (is_empty fs) [ true ↦ blank | false ↦ line_from (word_number (first_field fs)) (rest fs) ]
