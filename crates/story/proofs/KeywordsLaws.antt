-- Laws of the words: a line's first word has its number, and each is a field. Assumes nothing.
use Prim.Native.Nat.{ℕ, ◌<◌}
use mathlib.Core.Path.{◌≡◌, refl}
use mathlib.Core.Bool.{Bool, true, not, ◌&&◌}
use mathlib.Core.List.{List}
use lib.Dec.{eqb, ltb}
use borrow.Author.Tests.{eqb-true, ltb-true, not-true}
use Rattle.base.specs.Lists.{any, is_empty}
use Rattle.base.proofs.Bools.{and_both}
use Rattle.model.specs.Kinds.{Kind, KindWord, kind, no_kind, kinds, kind_of}
use Rattle.model.specs.Listing.{hall-word}
use Rattle.model.proofs.KindLaws.{numbered, by_number}
use Rattle.story.specs.Fields.{is_break}
use Rattle.story.specs.Keywords.{kind_word, raw_word, founders-word, whole_word, votes-word, raw_number, hall_number, word_number}
use Rattle.story.proofs.Computing.{computing}
use Rattle.story.proofs.FieldsLaws.{Field, unbroken-any}

-- ## The kinds

-- is f a field?
is_field : List ℕ → Bool
is_field f = not (is_empty f) && not (any is_break f)

field_is : (f : List ℕ) → is_field f ≡ true → Field f
unfolding is_field
field_is f e =
    let p = and_both (not (is_empty f)) (not (any is_break f)) e in
    record { some = not-true (is_empty f) p.0; unbroken = unbroken-any f (not-true (any is_break f) p.1) }

-- does the word of number k, a field, give k back, which is not `raw`'s number nor `hall`'s?
named : ℕ → KindWord → Bool
named k (kind κ) = is_field (kind_word k) && (eqb (word_number (kind_word k)) k && ltb k raw_number)
named k no_kind = true

all_named : numbered named 0 kinds ≡ true
unfolding computing named is_field numbered
all_named = refl

-- a kind's word
pub record Named (k : ℕ) : Type 0 where
  pub field : Field (kind_word k)
  pub number : word_number (kind_word k) ≡ k
  pub below : k < raw_number

pub kind-named : (k : ℕ) (κ : Kind) → kind_of k ≡ kind κ → Named k
unfolding named
kind-named k κ e =
    let n = word_number (kind_word k) in
    let p = and_both (is_field (kind_word k)) (eqb n k && ltb k raw_number) (by_number named all_named k κ e) in
    let q = and_both (eqb n k) (ltb k raw_number) p.1 in
    record { field = field_is (kind_word k) p.0; number = eqb-true n k q.0; below = ltb-true k raw_number q.1 }

-- ## The other words

pub raw-number : word_number raw_word ≡ raw_number
unfolding computing
raw-number = refl

pub hall-number : word_number hall-word ≡ hall_number
unfolding computing
hall-number = refl

pub raw-field : Field raw_word
unfolding computing is_field
raw-field = field_is raw_word refl

pub hall-field : Field hall-word
unfolding computing is_field
hall-field = field_is hall-word refl

pub founders-field : Field founders-word
unfolding computing is_field
founders-field = field_is founders-word refl

pub whole-field : Field whole_word
unfolding computing is_field
whole-field = field_is whole_word refl

pub votes-field : Field votes-word
unfolding computing is_field
votes-field = field_is votes-word refl
