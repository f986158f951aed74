-- Words taken off a line one after another, and what they come to. Assumes nothing.
use Prim.Native.Nat.{ℕ, zero, suc, ◌-◌, ◌≤◌, min}
use mathlib.Core.Path.{◌≡◌, refl, sym, ap, ap₂, subst, ◌∙◌}
use mathlib.Core.Bool.{Bool, true, false, not, ◌&&◌}
use mathlib.Core.List.{List, [], ◌∷◌}
use lib.Dec.{eqb, leb}
use lib.ListN.{drop}
use borrow.Author.Tests.{eq-eqb, ne_eqb, le-leb, leb-false, not-true, not-false, eqb-true}
use Rattle.std.proofs.Common.{Option, Some, None, arith}
use Rattle.std.specs.Option.{MatchOption, unwrap_or}
use Rattle.std.specs.Bool.{then_some}
use Rattle.base.specs.Lists.{rest, is_empty}
use Rattle.base.specs.Numbers.{within}
use Rattle.base.proofs.Bools.{by_cases, and-true, not-both}
use Rattle.base.proofs.NumbersLaws.{within_both}
use Rattle.codec.specs.Bytes.{part, same_bytes}
use Rattle.codec.proofs.BytesLaws.{same_refl}
use Rattle.model.specs.Kinds.{no_kind, kinds, last_kind, kind_of, Uses, uses}
use Rattle.model.proofs.KindLaws.{past-last}
use Rattle.model.specs.declared.kinds.Kind.{Kind}
use Rattle.model.specs.KindNumbers.{kind_meaning, kind_number}
use Rattle.model.proofs.KindNumbersLaws.{number-names}
use Rattle.model.specs.Call.{Words, words_of}
use Rattle.words.specs.Words.{use_of}
use Rattle.words.specs.declared.Use.{Use}
use Rattle.words.specs.declared.Use.TheVariants.{Unused, Word, Recorder, Number, Set}
use Rattle.runfile.specs.Answers.{action_words, file_opening}
use Rattle.runfile.specs.declared.Action.{Action as Told}
use Rattle.runfile.specs.declared.FileOpening.{FileOpening}
use Rattle.story.specs.Fields.{fields_in, first_field}
use Rattle.story.specs.Numbers as numbers
use Rattle.story.specs.Numbers.{number_of}
use Rattle.story.specs.Sets.{set_of}
use Rattle.story.specs.Keywords.{word_number, hall_number, raw_number, founders-word, whole_word, votes-word}
use Rattle.story.specs.Printing.{whole_mask}
use Rattle.story.specs.Parsing as story
use Rattle.story.specs.Parsing.{take_field, take_word, take_four, kind_line, raw_line, founders_of, take_founders, take_eight, take_votes}
use Rattle.story.specs.Parsing.{opening_line, line_from, line_of, blank, wrong}
use Rattle.story.proofs.KeywordsLaws.{kind-named}
use Rattle.scanning.specs.Scanned.{Spans, value_of}
use Rattle.scanning.proofs.ValuesAt.{other_word}
use Rattle.parsing.specs.Reading.{Took, action_or, opening_or, line_meaning}
use Rattle.parsing.specs.declared.Line.{Line}
use Rattle.parsing.specs.declared.Line.TheVariants as line

-- the fields of a text from an offset on
abbrev from : List ℕ → ℕ → List (List ℕ)
from text at = fields_in (drop at text)

-- ## One field

-- a field read by `value`
module _ (text : List ℕ) (at start end : ℕ) (s : Spans text at start end) (value : List ℕ → numbers.Value) where
  read : value (part start (end - start) text) ≡ value (first_field (from text at))
  read = ap value (sym s.field)

  pub field-off : value_of None ≡ value (part start (end - start) text) → (take_field value (from text at)).ok ≡ false
  unfolding take_field
  field-off e = ap (λ (v : numbers.Value). v.ok) (sym (e ∙ read))

  pub field-on : (n : ℕ) → value_of (Some n) ≡ value (part start (end - start) text)
      → Took text (take_field value (from text at)).ok (take_field value (from text at)).number (take_field value (from text at)).left n end
  unfolding take_field
  field-on n e =
      record {
        form = ap (λ (v : numbers.Value). v.ok) (sym (e ∙ read));
        same = ap (λ (v : numbers.Value). v.number) (e ∙ read);
        left = sym s.left;
        within = s.within;
      }

-- a word that is used, and is no set
pub word-number : (u : Use) (fs : List (List ℕ)) → (u ≡ Unused → ⊥) → (u ≡ Set → ⊥) → take_field number_of fs ≡ take_word (use_of u) fs
unfolding take_word use_of
word-number Unused fs h k = absurd (h refl)
word-number Word fs h k = refl
word-number Recorder fs h k = refl
word-number Number fs h k = refl
word-number Set fs h k = absurd (k refl)

-- ## Words one after another

-- what `take` takes off the fields
abbrev pub Taken : List ℕ → (List (List ℕ) → story.Taken) → List (List ℕ) → ℕ → ℕ → Type 0
Taken text take fs n next = Took text (take fs).ok (take fs).number (take fs).left n next

-- a word taken off equal fields, or none
pub along : {text : List ℕ} {fs gs : List (List ℕ)} {n next : ℕ} (take : List (List ℕ) → story.Taken) → fs ≡ gs → Taken text take fs n next → Taken text take gs n next
along {text} {fs} {gs} {n} {next} take e t = subst (λ (l : List (List ℕ)). Taken text take l n next) e t

pub none-along : {fs gs : List (List ℕ)} (take : List (List ℕ) → story.Taken) → fs ≡ gs → (take fs).ok ≡ false → (take gs).ok ≡ false
none-along take e t = ap (λ (l : List (List ℕ)). (take l).ok) (sym e) ∙ t

-- four numbers
abbrev pub number : List (List ℕ) → story.Taken
number = take_field number_of

module _ (text : List ℕ) (fs : List (List ℕ)) where
  pub four-none : (number fs).ok ≡ false → (take_four fs).ok ≡ false
  unfolding take_four
  four-none e = rw e

  module _ (k p : ℕ) (tk : Taken text number fs k p) where
    pub four-one : (number (from text p)).ok ≡ false → (take_four fs).ok ≡ false
    unfolding take_four
    four-one e = rw (tk.form, none-along number tk.left e)

    module _ (r q : ℕ) (tr : Taken text number (from text p) r q) where
      second : Taken text number (number fs).left r q
      second = along number tk.left tr

      pub four-two : (number (from text q)).ok ≡ false → (take_four fs).ok ≡ false
      unfolding take_four
      four-two e = rw (tk.form, second.form, none-along number second.left e)

      module _ (a i : ℕ) (ta : Taken text number (from text q) a i) where
        third : Taken text number (number (number fs).left).left a i
        third = along number second.left ta

        pub four-three : (number (from text i)).ok ≡ false → (take_four fs).ok ≡ false
        unfolding take_four
        four-three e = rw (tk.form, second.form, third.form, none-along number third.left e)

        pub four-all : (b j : ℕ) → Taken text number (from text i) b j
            → Took text (take_four fs).ok (take_four fs).words (take_four fs).left (words_of k r a b) j
        unfolding take_four
        four-all b j tb =
            let last = along number third.left tb in
            record {
              form = rw (tk.form, second.form, third.form, last.form);
              same = λ i. words_of (tk.same i) (second.same i) (third.same i) (last.same i);
              left = last.left;
              within = last.within;
            }

-- ## Actions

pub told-last : (over : Bool) (x : Told) (k : ℕ) → action_or (then_some over x) k ≡ elim over [ true ↦ story.action (action_words x) | false ↦ wrong k ]
unfolding action_or
told-last true x k = refl
told-last false x k = refl

pub no-action : (x : Option Told) (k : ℕ) → x ≡ None → action_or x k ≡ wrong k
unfolding action_or
no-action x k e = ap (λ (o : Option Told). action_or o k) e

module _ (text : List ℕ) (k : ℕ) (u : Uses) (fs : List (List ℕ)) where
  abbrev R : story.Taken
  R = take_word u.r fs

  abbrev A : story.Taken
  A = take_word u.a R.left

  abbrev B : story.Taken
  B = take_word u.b A.left

  -- is all of the line read?
  abbrev read-all : Bool
  read-all = R.ok && (A.ok && (B.ok && is_empty B.left))

  unread : read-all ≡ false → wrong k ≡ kind_line k u fs
  unfolding kind_line
  unread e = ap (λ (t : Bool). elim t [ true ↦ story.action (words_of k R.number A.number B.number) | false ↦ wrong k ]) (sym e)

  pub kind-none : R.ok ≡ false → wrong k ≡ kind_line k u fs
  kind-none e = unread (rw e)

  module _ (r p : ℕ) (tr : Taken text (take_word u.r) fs r p) where
    pub kind-one : (take_word u.a (from text p)).ok ≡ false → wrong k ≡ kind_line k u fs
    kind-one e = unread (rw (tr.form, none-along (take_word u.a) tr.left e))

    module _ (a q : ℕ) (ta : Taken text (take_word u.a) (from text p) a q) where
      word-a : Taken text (take_word u.a) R.left a q
      word-a = along (take_word u.a) tr.left ta

      pub kind-two : (take_word u.b (from text q)).ok ≡ false → wrong k ≡ kind_line k u fs
      kind-two e = unread (rw (tr.form, word-a.form, none-along (take_word u.b) word-a.left e))

      pub kind-all : (b i : ℕ) → Taken text (take_word u.b) (from text q) b i
          → elim (is_empty (from text i)) [ true ↦ story.action (words_of k r a b) | false ↦ wrong k ] ≡ kind_line k u fs
      unfolding kind_line
      kind-all b i tb =
          let word-b = along (take_word u.b) word-a.left tb in
          let all : read-all ≡ is_empty B.left = rw (tr.form, word-a.form, word-b.form) in
          ap₂ (λ (t : Bool) (w : Words). elim t [ true ↦ story.action w | false ↦ wrong k ])
          (ap is_empty word-b.left ∙ sym all) (λ j. words_of k (tr.same j) (word-a.same j) (word-b.same j))

module _ (text : List ℕ) (fs : List (List ℕ)) where
  pub raw-none : (take_four fs).ok ≡ false → wrong raw_number ≡ raw_line fs
  unfolding raw_line
  raw-none e =
      let no : ((take_four fs).ok && is_empty (take_four fs).left) ≡ false = rw e in
      ap (λ (t : Bool). elim t [ true ↦ story.action (take_four fs).words | false ↦ wrong raw_number ]) (sym no)

  pub raw-all : (x : Words) (p : ℕ) → Took text (take_four fs).ok (take_four fs).words (take_four fs).left x p
      → elim (is_empty (from text p)) [ true ↦ story.action x | false ↦ wrong raw_number ] ≡ raw_line fs
  unfolding raw_line
  raw-all x p t =
      let all : ((take_four fs).ok && is_empty (take_four fs).left) ≡ is_empty (take_four fs).left = rw t.form in
      ap₂ (λ (s : Bool) (w : Words). elim s [ true ↦ story.action w | false ↦ wrong raw_number ])
      (ap is_empty t.left ∙ sym all) t.same

-- ## Openings

-- a word, then what it asks for; or something else
pub founders-told : (n : ℕ) (fs : List (List ℕ)) → first_field fs ≡ founders-word → take_field (founders_of n) (rest fs) ≡ take_founders n fs
unfolding take_founders
founders-told n fs e = rw (ap (same_bytes founders-word) e ∙ same_refl founders-word, take_founders)

pub founders-untold : (n : ℕ) (fs : List (List ℕ)) → (first_field fs ≡ founders-word → ⊥) → record { ok = true; number = 0; left = fs } ≡ take_founders n fs
unfolding take_founders
founders-untold n fs h = rw (other_word (first_field fs) founders-word h, take_founders)

pub votes-told : (fs : List (List ℕ)) → first_field fs ≡ votes-word → take_eight (rest fs) ≡ take_votes fs
unfolding take_votes
votes-told fs e = rw (ap (same_bytes votes-word) e ∙ same_refl votes-word, take_votes)

pub votes-untold : (fs : List (List ℕ)) → (first_field fs ≡ votes-word → ⊥)
    → record { ok = true; third = 0; words = 0 ∷ 0 ∷ 0 ∷ 0 ∷ 0 ∷ 0 ∷ 0 ∷ 0 ∷ []; left = fs } ≡ take_votes fs
unfolding take_votes
votes-untold fs h = rw (other_word (first_field fs) votes-word h, take_votes)

pub whole-founders : (n : ℕ) (f : List ℕ) → f ≡ whole_word → numbers.value (whole_mask (min n 8)) ≡ founders_of n f
unfolding founders_of
whole-founders n f e = rw (ap (same_bytes whole_word) e ∙ same_refl whole_word, founders_of)

-- a set, if it has a member
pub set-founders : (n : ℕ) (f : List ℕ) (s r : Option ℕ) → (f ≡ whole_word → ⊥) → value_of s ≡ set_of f
    → MatchOption s (r ≡ None) (λ x. r ≡ then_some (not (eqb x 0)) x) → value_of r ≡ founders_of n f
unfolding founders_of
set-founders n f s r h e m = rw (other_word f whole_word h, founders_of, ← e) (kept s m)
  where
    member : (t : Bool) (x : ℕ) → (not (eqb x 0)) ≡ t → value_of (then_some t x) ≡ record { ok = t; number = x }
    member true x e = refl
    member false x e = λ i. record { ok = false; number = sym (eqb-true x 0 (not-false (eqb x 0) e)) i }

    kept : (s : Option ℕ) → MatchOption s (r ≡ None) (λ x. r ≡ then_some (not (eqb x 0)) x)
        → value_of r ≡ record { ok = (value_of s).ok && not (eqb (value_of s).number 0); number = (value_of s).number }
    kept (Some x) m = ap value_of m ∙ member (not (eqb x 0)) x refl
    kept None m = ap value_of m

module _ (text : List ℕ) (fs : List (List ℕ)) where
  pub eight-none : (take_four fs).ok ≡ false → (take_eight fs).ok ≡ false
  unfolding take_eight
  eight-none e = rw e

  module _ (x : Words) (p : ℕ) (tx : Took text (take_four fs).ok (take_four fs).words (take_four fs).left x p) where
    pub eight-one : (take_four (from text p)).ok ≡ false → (take_eight fs).ok ≡ false
    unfolding take_eight
    eight-one e = rw (tx.form, ap (λ (l : List (List ℕ)). (take_four l).ok) (sym tx.left) ∙ e)

    pub eight-all : (y : Words) (q : ℕ) → Took text (take_four (from text p)).ok (take_four (from text p)).words (take_four (from text p)).left y q
        → Took {V = ℕ × List ℕ} text (take_eight fs).ok ((take_eight fs).third, (take_eight fs).words) (take_eight fs).left
        (1, x.k ∷ x.r ∷ x.a ∷ x.b ∷ y.k ∷ y.r ∷ y.a ∷ y.b ∷ []) q
    unfolding take_eight
    eight-all y q u =
        let ty = subst (λ (l : List (List ℕ)). Took text (take_four l).ok (take_four l).words (take_four l).left y q) tx.left u in
        record {
          form = rw (tx.form, ty.form);
          same = ap₂ (λ (v w : Words). (1, v.k ∷ v.r ∷ v.a ∷ v.b ∷ w.k ∷ w.r ∷ w.a ∷ w.b ∷ [])) tx.same ty.same;
          left = ty.left;
          within = ty.within;
        }

pub opening-last : (over : Bool) (x : FileOpening) → opening_or (then_some over x) ≡ elim over [ true ↦ story.opening (file_opening x) | false ↦ wrong hall_number ]
unfolding opening_or
opening-last true x = refl
opening-last false x = refl

pub no-opening : (x : Option FileOpening) → x ≡ None → opening_or x ≡ wrong hall_number
unfolding opening_or
no-opening x e = ap opening_or e

module _ (text : List ℕ) (fs : List (List ℕ)) where
  abbrev N : story.Taken
  N = number fs

  abbrev M : story.Taken
  M = take_founders N.number N.left

  abbrev V : story.TakenVotes
  V = take_votes M.left

  abbrev told-all : Bool
  told-all = N.ok && (M.ok && (V.ok && is_empty V.left))

  untold : told-all ≡ false → wrong hall_number ≡ opening_line fs
  unfolding opening_line
  untold e =
      ap
      (λ (t : Bool).
      elim t [
        | true ↦ story.opening (record { size = N.number; founders = M.number; third = V.third; words = V.words })
        | false ↦ wrong hall_number
      ])
      (sym e)

  pub opening-none : N.ok ≡ false → wrong hall_number ≡ opening_line fs
  opening-none e = untold (rw e)

  module _ (n p : ℕ) (tn : Taken text number fs n p) where
    founders-of : (k : ℕ) (l : List (List ℕ)) → k ≡ n → from text p ≡ l → (take_founders n (from text p)).ok ≡ (take_founders k l).ok
    founders-of k l e f = λ i. (take_founders (sym e i) (f i)).ok

    pub opening-one : (take_founders n (from text p)).ok ≡ false → wrong hall_number ≡ opening_line fs
    opening-one e =
        let none : M.ok ≡ false = sym (founders-of N.number N.left (sym tn.same) tn.left) ∙ e in
        untold (rw (tn.form, none))

    module _ (m q : ℕ) (tm : Taken text (take_founders n) (from text p) m q) where
      founders : Taken text (take_founders N.number) N.left m q
      founders = subst (λ (k : ℕ). Taken text (take_founders k) N.left m q) tn.same (along (take_founders n) tn.left tm)

      pub opening-two : (take_votes (from text q)).ok ≡ false → wrong hall_number ≡ opening_line fs
      opening-two e =
          let none : V.ok ≡ false = ap (λ (l : List (List ℕ)). (take_votes l).ok) (sym founders.left) ∙ e in
          untold (rw (tn.form, founders.form, none))

      pub opening-all : (c : ℕ) (words : List ℕ) (i : ℕ)
          → Took {V = ℕ × List ℕ} text (take_votes (from text q)).ok ((take_votes (from text q)).third, (take_votes (from text q)).words)
          (take_votes (from text q)).left (c, words) i
          → elim (is_empty (from text i)) [ true ↦ story.opening (record { size = n; founders = m; third = c; words = words }) | false ↦ wrong hall_number ] ≡ opening_line fs
      unfolding opening_line
      opening-all c words i t =
          let votes = subst (λ (l : List (List ℕ)). Took {V = ℕ × List ℕ} text (take_votes l).ok ((take_votes l).third, (take_votes l).words) (take_votes l).left (c, words) i) founders.left t in
          let all : told-all ≡ is_empty V.left = rw (tn.form, founders.form, votes.form) in
          let over : is_empty (from text i) ≡ told-all = ap is_empty votes.left ∙ sym all in
          λ j. elim (over j) [
            | true ↦ story.opening (record { size = tn.same j; founders = founders.same j; third = (votes.same j).0; words = (votes.same j).1 })
            | false ↦ wrong hall_number
          ]

-- ## Lines

pub line-hall : (k : ℕ) (fs : List (List ℕ)) → k ≡ hall_number → line_from k fs ≡ opening_line fs
unfolding line_from
line-hall k fs e = rw (eq-eqb k hall_number e, line_from)

pub line-raw : (k : ℕ) (fs : List (List ℕ)) → (k ≡ hall_number → ⊥) → k ≡ raw_number → line_from k fs ≡ raw_line fs
unfolding line_from
line-raw k fs h e = rw (ne_eqb k hall_number h, line_from, eq-eqb k raw_number e)

pub no_kind_lem : (k : ℕ) → not (within 1 last_kind k) ≡ true → kind_of k ≡ no_kind
unfolding within kind_of kinds
no_kind_lem zero e = refl
no_kind_lem (suc k) e =
    by_cases (leb (suc k) last_kind)
    (λ t. absurd (not-both (and-true (leb 1 (suc k)) (leb (suc k) last_kind) (le-leb 1 (suc k) (omega arith)) t) (not-true (leb 1 (suc k) && leb (suc k) last_kind) e)))
    (λ f. past-last (suc k) (leb-false (suc k) last_kind f))

pub kind-range : (k : ℕ) → not (within 1 last_kind k) ≡ false → (1 ≤ k) × (k ≤ last_kind)
kind-range k e = within_both 1 last_kind k (not-false (within 1 last_kind k) e)

pub line-kind : (κ : Kind) (fs : List (List ℕ)) → line_from (kind_number κ) fs ≡ kind_line (kind_number κ) (uses (kind_meaning κ)) fs
unfolding line_from
line-kind κ fs =
    let k = kind_number κ in
    let below = (kind-named k (kind_meaning κ) (number-names κ)).below in
    rw (ne_eqb k hall_number (λ e. omega (arith, below)), line_from, ne_eqb k raw_number (λ e. omega (arith, below)), number-names κ)

module _ (k : ℕ) (fs : List (List ℕ)) (h : k ≡ hall_number → ⊥) (r : k ≡ raw_number → ⊥) where
  pub line-none : kind_of k ≡ no_kind → line_from k fs ≡ wrong 0
  unfolding line_from
  line-none e = rw (ne_eqb k hall_number h, line_from, ne_eqb k raw_number r, e)

pub line-blank : (bs : List ℕ) → is_empty (fields_in bs) ≡ true → line_of bs ≡ blank
unfolding line_of
line-blank bs e = rw (e, line_of)

pub line-some : (bs : List ℕ) → is_empty (fields_in bs) ≡ false → line_of bs ≡ line_from (word_number (first_field (fields_in bs))) (rest (fields_in bs))
unfolding line_of
line-some bs e = rw (e, line_of)

pub line-nothing : line_of [] ≡ blank
unfolding line_of fields_in is_empty
line-nothing = refl

-- a line of what was told, or none
pub action-line : (o : Option Told) (l : Option Line) (n : ℕ) → MatchOption o (l ≡ None) (λ x. l ≡ Some (line.Action x))
    → line_meaning (unwrap_or l (line.Wrong n)) ≡ action_or o n
unfolding line_meaning action_or
action-line (Some x) l n m = ap (λ (y : Option Line). line_meaning (unwrap_or y (line.Wrong n))) m
action-line None l n m = ap (λ (y : Option Line). line_meaning (unwrap_or y (line.Wrong n))) m

pub opening-line : (o : Option FileOpening) (l : Option Line) → MatchOption o (l ≡ None) (λ x. l ≡ Some (line.Opening x))
    → line_meaning (unwrap_or l (line.Wrong hall_number)) ≡ opening_or o
unfolding line_meaning opening_or
opening-line (Some x) l m = ap (λ (y : Option Line). line_meaning (unwrap_or y (line.Wrong hall_number))) m
opening-line None l m = ap (λ (y : Option Line). line_meaning (unwrap_or y (line.Wrong hall_number))) m

pub line-other : (fs : List (List ℕ)) → line_meaning (line.Wrong 0) ≡ line_from 0 fs
unfolding line_meaning line_from kind_of kinds
line-other fs = refl
