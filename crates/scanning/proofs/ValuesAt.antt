-- Values of a field, byte by byte. Assumes nothing.
use native.Mathlib.Numerals.{add-one}
use Prim.Native.Nat.{ℕ, zero, suc, ◌+◌, ◌-◌, ◌^◌, ◌≤◌, ◌<◌}
use native.Mathlib.Omega.{arith}
use mathlib.Core.Path.{◌≡◌, refl, sym, ap, ◌∙◌}
use mathlib.Core.Bool.{Bool, true, false, not, ◌&&◌}
use mathlib.Core.List.{List, [], ◌∷◌}
use lib.Dec.{eqb, leb, ltb}
use lib.ListN.{length, drop, get_or}
use borrow.Author.Tests.{leb-true, ltb-true, ltb-false, le-leb, lt-leb, eq-eqb, ne_eqb, both_ways, le-ltb, lt-ltb}
use Rattle.base.specs.Lists.{rest, is_empty}
use Rattle.base.specs.Numbers.{within}
use Rattle.base.proofs.Bools.{by_cases, and_both, and-true}
use Rattle.story.specs.Numbers.{Value, value, no_value, goes_on, with_digit, digits_from, number_of}
use Rattle.quorum.specs.Sets.{in_mask}
use Rattle.codec.specs.Bytes.{same_bytes}
use Rattle.codec.proofs.BytesLaws.{same-eq}
use Rattle.model.specs.Listing.{hall-word}
use Rattle.model.specs.Kinds as model
use Rattle.model.specs.Kinds.{kind, no_kind, kinds, last_kind}
use Rattle.model.specs.declared.kinds.Kind.{Kind}
use Rattle.model.specs.declared.refusals.Refusal.{Refusal}
use Rattle.model.specs.KindNumbers.{Names}
use Rattle.model.proofs.KindLaws.{names-kind}
use Rattle.story.specs.Sets.{joins, with_member, members_from, set_from, set_of}
use Rattle.story.specs.Keywords.{kind_words, kind_word, raw_word, raw_number, search, word_number}
use Rattle.story.proofs.KeywordsLaws.{kind-named}
use Rattle.std.proofs.Common.{Option, Some, None, Result, Ok, Err, Bor, map, cond, position}
use Rattle.std.specs.Result.{result_ok}
use Rattle.std.specs.List.{position_or_len}
use Rattle.std.proofs.lemmas.List.{length-map, get_or-map}
use Rattle.std.proofs.lemmas.List.Quantifiers.{position-Some}
use Rattle.std.specs.Option.{SomeIff}
use Rattle.std.specs.Str.{bytes_eq}
use Rattle.std.proofs.lemmas.Slice.Eq.{bytes_eq-Decides}
use Rattle.scanning.specs.Scanned.{Grows, place_of, KindNamed}
use Rattle.scanning.proofs.FieldsAt.{drop-step, drop_past}

-- ## Bytes in a range

in-low : (low high b : ℕ) → b < low → within low high b ≡ false
unfolding within
in-low low high b h = rw (lt-leb low b h)

in-high : (low high b : ℕ) → high < b → within low high b ≡ false
unfolding within
in-high low high b h = by_cases (leb low b) (λ e. rw (e, lt-leb b high h)) (λ e. rw e)

in-range : (low high b : ℕ) → low ≤ b → b ≤ high → within low high b ≡ true
unfolding within
in-range low high b h k = rw (le-leb low b h, le-leb b high k)

-- what is known of a digit that a number goes on with
pub record Digit (n b : ℕ) : Type 0 where
  pub low : 48 ≤ b
  pub high : b ≤ 57
  pub fits : with_digit n b < 2 ^ 32

pub goes-facts : (n b : ℕ) → goes_on n b ≡ true → Digit n b
unfolding goes_on within
goes-facts n b e =
    let p = and_both (leb 48 b && leb b 57) (ltb (with_digit n b) (2 ^ 32)) e in
    let q = and_both (leb 48 b) (leb b 57) p.0 in
    record { low = leb-true 48 b q.0; high = leb-true b 57 q.1; fits = ltb-true (with_digit n b) (2 ^ 32) p.1 }

-- ## Numbers

-- a byte below or above the digits, and a digit
module _ (n b : ℕ) where
  fits : Bool → Bool
  fits t = t && ltb (with_digit n b) (2 ^ 32)

  pub goes-low : b < 48 → goes_on n b ≡ false
  unfolding goes_on fits
  goes-low h = ap fits (in-low 48 57 b h)

  pub goes-high : 57 < b → goes_on n b ≡ false
  unfolding goes_on fits
  goes-high h = ap fits (in-high 48 57 b h)

  pub goes-digit : 48 ≤ b → b ≤ 57 → goes_on n b ≡ ltb (with_digit n b) (2 ^ 32)
  unfolding goes_on fits
  goes-digit h k = ap fits (in-range 48 57 b h k)

-- a digit more, if the number with it is a word
pub grows : (n b : ℕ) (r : Option ℕ) → 48 ≤ b → b ≤ 57 → SomeIff r (with_digit n b < 2 ^ 32) (with_digit n b) → Grows (goes_on n b) (with_digit n b) r
grows n b (Some x) h k e = (goes-digit n b h k ∙ lt-ltb (with_digit n b) (2 ^ 32) e.0, e.1)
grows n b None h k e = goes-digit n b h k ∙ le-ltb (with_digit n b) (2 ^ 32) (omega arith)

pub number-some : (f : List ℕ) → 0 < length f → number_of f ≡ digits_from 0 f
unfolding number_of
number-some [] h = absurd (omega arith)
number-some (b ∷ bs) h = refl

pub number-none : (f : List ℕ) → length f ≡ 0 → number_of f ≡ no_value
unfolding number_of
number-none [] h = refl
number-none (b ∷ bs) h = absurd (omega arith)

pub joins-range : (m b : ℕ) → joins m b ≡ true → (49 ≤ b) × (b ≤ 56)
unfolding joins within
joins-range m b e =
    let p = and_both (leb 49 b && leb b 56) (not (in_mask m (b - 48))) e in
    let q = and_both (leb 49 b) (leb b 56) p.0 in
    (leb-true 49 b q.0, leb-true b 56 q.1)

module _ (f : List ℕ) (n i : ℕ) where
  pub digits-on : i < length f → goes_on n (get_or f i 0) ≡ true → digits_from n (drop i f) ≡ digits_from (with_digit n (get_or f i 0)) (drop (i + 1) f)
  unfolding digits_from
  digits-on h e = rw (drop-step f i h, digits_from, e)

  pub digits-off : i < length f → goes_on n (get_or f i 0) ≡ false → digits_from n (drop i f) ≡ no_value
  unfolding digits_from
  digits-off h e = rw (drop-step f i h, digits_from, e)

  pub digits-end : length f ≤ i → digits_from n (drop i f) ≡ value n
  unfolding digits_from
  digits-end h = rw (drop_past f i h, digits_from)

-- ## Sets

-- a byte below or above the digits of recorders, and one of them
module _ (m b : ℕ) where
  free : Bool → Bool
  free t = t && not (in_mask m (b - 48))

  pub joins-low : b < 49 → joins m b ≡ false
  unfolding joins free
  joins-low h = ap free (in-low 49 56 b h)

  pub joins-high : 56 < b → joins m b ≡ false
  unfolding joins free
  joins-high h = ap free (in-high 49 56 b h)

  pub joins-digit : 49 ≤ b → b ≤ 56 → joins m b ≡ not (in_mask m (b - 48))
  unfolding joins free
  joins-digit h k = ap free (in-range 49 56 b h k)

-- a field of two bytes and more
two_steps : (f : List ℕ) → 2 ≤ length f → f ≡ get_or f 0 0 ∷ get_or f 1 0 ∷ drop 2 f
two_steps [] h = absurd (omega arith)
two_steps (b ∷ []) h = absurd (omega arith)
two_steps (b ∷ c ∷ bs) h = refl

-- whether no byte is left
pub left-none : (f : List ℕ) (i : ℕ) → i ≤ length f → is_empty (drop i f) ≡ eqb i (length f)
unfolding is_empty
left-none f i h = by_cases (ltb i (length f)) inside past
  where
    inside : ltb i (length f) ≡ true → is_empty (drop i f) ≡ eqb i (length f)
    inside t =
        let l = ltb-true i (length f) t in
        ap is_empty (drop-step f i l) ∙ sym (ne_eqb i (length f) (λ e. omega arith))

    past : ltb i (length f) ≡ false → is_empty (drop i f) ≡ eqb i (length f)
    past t =
        let l = ltb-false i (length f) t in
        ap is_empty (drop_past f i l) ∙ sym (eq-eqb i (length f) (omega arith))

empty_of : (l : List ℕ) → length l ≡ 0 → is_empty l ≡ true
unfolding is_empty
empty_of [] h = refl
empty_of (x ∷ xs) h = absurd (omega arith)

no-and : (t : Bool) → (t && false) ≡ false
no-and true = refl
no-and false = refl

unclosed : (c : ℕ) (l : List ℕ) → (c ≡ 125 → length l ≡ 0 → ⊥) → (eqb c 125 && is_empty l) ≡ false
unfolding is_empty
unclosed c [] h = rw (ne_eqb c 125 (λ e. h e refl)) refl
unclosed c (x ∷ xs) h = no-and (eqb c 125)

-- a member and the byte after it, by what is known of the two
module _ (m b c : ℕ) (bs : List ℕ) where
  abbrev by_bytes : (t k e : Bool) → Value
  by_bytes t k e =
      elim t [
        | true ↦
            elim k [
              | true ↦ members_from (with_member m b) bs
              | false ↦ elim e [ true ↦ value (with_member m b) | false ↦ no_value ]
            ]
        | false ↦ no_value
      ]

  cons-bytes : members_from m (b ∷ c ∷ bs) ≡ by_bytes (joins m b) (eqb c 44) (eqb c 125 && is_empty bs)
  unfolding members_from
  cons-bytes = refl

module _ (f : List ℕ) (m : ℕ) (h : 2 ≤ length f) where
  two-bytes : members_from m f ≡ by_bytes m (get_or f 0 0) (get_or f 1 0) (drop 2 f) (joins m (get_or f 0 0)) (eqb (get_or f 1 0) 44) (eqb (get_or f 1 0) 125 && is_empty (drop 2 f))
  two-bytes = ap (members_from m) (two_steps f h) ∙ cons-bytes m (get_or f 0 0) (get_or f 1 0) (drop 2 f)

  pub members-off : joins m (get_or f 0 0) ≡ false → members_from m f ≡ no_value
  members-off e = two-bytes ∙ rw e refl

  module _ (e : joins m (get_or f 0 0) ≡ true) where
    pub members-on : get_or f 1 0 ≡ 44 → members_from m f ≡ members_from (with_member m (get_or f 0 0)) (drop 2 f)
    members-on k = two-bytes ∙ rw (e, eq-eqb (get_or f 1 0) 44 k) refl

    pub members-closed : get_or f 1 0 ≡ 125 → length (drop 2 f) ≡ 0 → members_from m f ≡ value (with_member m (get_or f 0 0))
    members-closed k n =
        two-bytes
        ∙ rw (e, ne_eqb (get_or f 1 0) 44 (omega arith), and-true (eqb (get_or f 1 0) 125) (is_empty (drop 2 f)) (eq-eqb (get_or f 1 0) 125 k) (empty_of (drop 2 f) n)) refl

    pub members-ill : (get_or f 1 0 ≡ 44 → ⊥) → (get_or f 1 0 ≡ 125 → length (drop 2 f) ≡ 0 → ⊥) → members_from m f ≡ no_value
    members-ill k n =
        two-bytes
        ∙ rw (e, ne_eqb (get_or f 1 0) 44 k, unclosed (get_or f 1 0) (drop 2 f) n) refl

pub members-short : (f : List ℕ) (m : ℕ) → length f < 2 → members_from m f ≡ no_value
unfolding members_from
members-short [] m h = refl
members-short (b ∷ []) m h = refl
members-short (b ∷ c ∷ bs) m h = absurd (omega arith)

-- a field that is too short is no set
pub set-short : (f : List ℕ) → length f < 2 → set_of f ≡ no_value
unfolding set_of set_from members_from
set-short [] h = refl
set-short (b ∷ []) h = by_cases (eqb b 123) (λ e. rw (e, set_of)) (λ e. rw (e, set_of))
set-short (b ∷ c ∷ bs) h = absurd (omega arith)

-- a set in braces: `}` alone after the first, or members; or no set
pub set-closed : (l : List ℕ) → l ≡ 125 ∷ [] → set_of (123 ∷ l) ≡ value 0
unfolding set_of set_from is_empty
set-closed l e = ap (λ (x : List ℕ). set_of (123 ∷ x)) e

abbrev closed : Bool → Value
closed t = elim t [ true ↦ value 0 | false ↦ no_value ]

from_one : (b : ℕ) → set_from (b ∷ []) ≡ closed (eqb b 125 && true)
unfolding set_from members_from is_empty
from_one b = refl

from_more : (b c : ℕ) (bs : List ℕ) → set_from (b ∷ c ∷ bs) ≡ members_from 0 (b ∷ c ∷ bs)
unfolding set_from is_empty
from_more b c bs = rw (no-and (eqb b 125), set_from)

pub set-members : (l : List ℕ) → (l ≡ 125 ∷ [] → ⊥) → set_of (123 ∷ l) ≡ members_from 0 l
unfolding set_of set_from members_from
set-members [] h = refl
set-members (b ∷ []) h = from_one b ∙ ap (λ (t : Bool). closed (t && true)) (ne_eqb b 125 (λ e. h (ap (λ (x : ℕ). x ∷ []) e)))
set-members (b ∷ c ∷ bs) h = from_more b c bs

set-opened : (b : ℕ) (bs : List ℕ) → eqb b 123 ≡ true → set_of (b ∷ bs) ≡ set_from bs
unfolding set_of
set-opened b bs e = rw (e, set_of)

pub set_more : (f : List ℕ) → 2 < length f → eqb (get_or f 0 0) 123 ≡ true → set_of f ≡ members_from 0 (drop 1 f)
set_more [] h e = absurd (omega arith)
set_more (b ∷ []) h e = absurd (omega arith)
set_more (b ∷ c ∷ []) h e = absurd (omega arith)
set_more (b ∷ c ∷ d ∷ ds) h e = set-opened b (c ∷ d ∷ ds) e ∙ from_more c d ds

pub set-unopened : (f : List ℕ) → ((l : List ℕ) → f ≡ 123 ∷ l → ⊥) → set_of f ≡ no_value
unfolding set_of
set-unopened [] h = refl
set-unopened (b ∷ bs) h = rw (ne_eqb b 123 (λ e. h bs (ap (λ (x : ℕ). x ∷ bs) e)), set_of) refl

-- ## Words

-- a field of another length is not the word
pub other_length : (w f : List ℕ) → (length f ≡ length w → ⊥) → same_bytes w f ≡ false
other_length w f h = by_cases (same_bytes w f) (λ e. absurd (h (ap length (sym (same-eq w f e))))) (λ e. e)

-- a field is a word, or another
pub other_word : (f w : List ℕ) → (f ≡ w → ⊥) → same_bytes w f ≡ false
other_word f w h = by_cases (same_bytes w f) (λ e. absurd (h (sym (same-eq w f e)))) (λ e. e)

-- a field that is none of the words counted
search-none : (f : List ℕ) (ws : List (List ℕ)) (k d : ℕ) → ((j : ℕ) → j < length ws → same_bytes (get_or ws j []) f ≡ false) → search f ws k d ≡ d
unfolding search
search-none f [] k d h = refl
search-none f (w ∷ ws) k d h = rw (h 0 (omega arith), search) (search-none f ws (k + 1) d (λ j p. h (suc j) (omega arith)))

-- a place among words, and none
position-none : {X : Type 0} (p : X → Bool) (xs : List X) → None ≡ position p xs → length xs ≤ position_or_len p xs
position-none p xs h =
    by_cases (ltb (position_or_len p xs) (length xs))
    (λ t. let q : None ≡ Some (position_or_len p xs) = h ∙ ap (λ (b : Bool). cond b (Some (position_or_len p xs)) None) t in absurd cc)
    (ltb-false (position_or_len p xs) (length xs))

none-passes : {X : Type 0} (p : X → Bool) (xs : List X) (d : X) → length xs ≤ position_or_len p xs → (k : ℕ) → k < length xs → p (get_or xs k d) ≡ false
none-passes p [] d h k l = absurd (omega arith)
none-passes p (x ∷ xs) d h k l = by_cases (p x) (λ t. absurd (omega (arith, place t))) (λ t. later t (none-passes p xs d (omega (arith, place t))) k l)
  where
    place : {b : Bool} → p x ≡ b → position_or_len p (x ∷ xs) ≡ cond (not b) (1 + position_or_len p xs) 0
    place t = ap (λ (b : Bool). cond (not b) (1 + position_or_len p xs) 0) t

    later : p x ≡ false → ((k : ℕ) → k < length xs → p (get_or xs k d) ≡ false) → (k : ℕ) → k < length (x ∷ xs) → p (get_or (x ∷ xs) k d) ≡ false
    later t others zero l = t
    later t others (suc k) l = others k (omega arith)

no-kind : {κ : model.Kind} → kind κ ≡ no_kind → ⊥
no-kind {κ} e = cc

-- a field among the words of the kinds, told one after another
module _ (f : List ℕ) (ws : List (Bor (List ℕ))) where
  abbrev is : Bor (List ℕ) → Bool
  is w = bytes_eq w.now f

  abbrev Kinds : Type 0
  Kinds = map (λ (w : Bor (List ℕ)). w.now) ws ≡ rest kind_words

  nothing : Bor (List ℕ)
  nothing = record { ref_ptr = (0, 0); now = [] }

  counted : Kinds → length ws ≡ 11
  unfolding rest kind_words
  counted e = sym (length-map ws (λ (w : Bor (List ℕ)). w.now)) ∙ ap length e

  word-at : Kinds → (k : ℕ) → k < length ws → (get_or ws k nothing).now ≡ get_or (rest kind_words) k []
  word-at e k h = sym (get_or-map (λ (w : Bor (List ℕ)). w.now) ws k nothing [] h) ∙ ap (λ (l : List (List ℕ)). get_or l k []) e

  pub kind-place : (i : ℕ) → Some i ≡ place_of f ws → Kinds → i < 11
  unfolding place_of
  kind-place i h e = omega (arith, (position-Some is ws i nothing (sym h)).0, counted e)

  pub kind-number : (i : ℕ) → Some i ≡ place_of f ws → Kinds → word_number f ≡ i + 1
  unfolding place_of kind_word kind_words rest last_kind kinds
  kind-number i h e =
      let p = position-Some is ws i nothing (sym h) in
      let named = names-kind (i + 1) (omega arith) (omega (arith, kind-place i h e)) in
      let next : get_or kind_words (i + 1) [] ≡ get_or (rest kind_words) i [] = ap (λ (k : ℕ). get_or kind_words k []) (add-one i) in
      let is-word : f ≡ kind_word (i + 1) = sym ((bytes_eq-Decides (get_or ws i nothing).now f).0 p.1) ∙ word-at e i p.0 ∙ sym next in
      ap word_number is-word ∙ (kind-named (i + 1) named.0 named.1).number

  -- the place names the kind
  pub kind-found : (i : ℕ) → Some i ≡ place_of f ws → Kinds → (r : Result Kind Refusal) → Names (i + 1) r → KindNamed f (result_ok r)
  unfolding last_kind kinds
  kind-found i h e (Ok κ) n = kind-number i h e ∙ sym n.1
  kind-found i h e (Err why) n =
      let named = names-kind (i + 1) (omega arith) (omega (arith, kind-place i h e)) in
      absurd (no-kind (sym named.1 ∙ n.0))

  pub no-kind-number : None ≡ place_of f ws → Kinds → word_number f ≡ search f (raw_word ∷ hall-word ∷ []) raw_number 0
  unfolding place_of word_number
  no-kind-number h e =
      let none = none-passes is ws nothing (position-none is ws h) in
      let others : (j : ℕ) → j < length ws → same_bytes (get_or (rest kind_words) j []) f ≡ false =
      λ j p. other_word f (get_or (rest kind_words) j []) (λ q. both_ways (is (get_or ws j nothing)) (none j p) ((bytes_eq-Decides (get_or ws j nothing).now f).1 (word-at e j p ∙ sym q))) in
      search-none f (rest kind_words) 1 (search f (raw_word ∷ hall-word ∷ []) raw_number 0)
      (λ j p. others j (omega (arith, length-map ws (λ (w : Bor (List ℕ)). w.now), ap length e)))

-- a field that is none of the other words
pub no-word-number : (f : List ℕ) → (f ≡ raw_word → ⊥) → (f ≡ hall-word → ⊥) → search f (raw_word ∷ hall-word ∷ []) raw_number 0 ≡ 0
unfolding search
no-word-number f r l = rw (other_word f raw_word r, search, other_word f hall-word l) refl
