-- What is found in a text: where fields stand, what they are read as.
-- Assumes nothing.
use Rattle.std.specs.Prelude.{ℕ, ◌-◌, ◌≤◌, ◌≡◌, Bool, true, false, List, [], ◌∷◌, eqb, length, drop, Option, Some, None, position}
use Rattle.std.specs.Str.{bytes_eq}
use denote.Ref.{Bor}
use Rattle.base.specs.Lists.{rest, is_empty}
use Rattle.codec.specs.Bytes.{part}
use Rattle.model.specs.declared.kinds.Kind.{Kind}
use Rattle.model.specs.KindNumbers.{kind_number}
use Rattle.model.specs.Listing.{hall-word}
use Rattle.story.specs.Fields.{fields_in, first_field}
use Rattle.story.specs.Numbers as numbers
use Rattle.story.specs.Keywords.{raw_word, raw_number, hall_number, search, word_number}
use Rattle.scanning.specs.declared.FirstWord.{FirstWord}

-- the first field from `at` on stands at `from` up to `to`; there is none where both are the same
pub record Spans (text : List ℕ) (at from to : ℕ) : Type 0 where
  pub order : from ≤ to
  pub within : to ≤ length text
  pub field : first_field (fields_in (drop at text)) ≡ part from (to - from) text
  pub left : rest (fields_in (drop at text)) ≡ fields_in (drop to text)
  pub none : is_empty (fields_in (drop at text)) ≡ eqb from to

-- what a field is read as
abbrev pub value_of : Option ℕ → numbers.Value
value_of (Some n) = numbers.value n
value_of None = numbers.no_value

-- the number n where a test holds, else none
abbrev pub Grows : Bool → ℕ → Option ℕ → Type 0
Grows t n (Some r) = (t ≡ true) × (r ≡ n)
Grows t n None = t ≡ false

-- the place of the first of the words that f is
unfoldable pub place_of : List ℕ → List (Bor (List ℕ)) → Option ℕ
place_of f ws = position (λ w. bytes_eq w.now f) ws

-- the kind whose word f is; where there is none, f has the number of one of the other words
abbrev pub KindNamed : List ℕ → Option Kind → Type 0
KindNamed f (Some κ) = word_number f ≡ kind_number κ
KindNamed f None = word_number f ≡ search f (raw_word ∷ hall-word ∷ []) raw_number 0

-- the number of a word that a line begins with; 0 for any other
abbrev pub first_number : FirstWord → ℕ
first_number (FirstWord.Kind κ) = kind_number κ
first_number FirstWord.Raw = raw_number
first_number FirstWord.Hall = hall_number
first_number FirstWord.Other = 0
