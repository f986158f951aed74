-- An opening told is read back. Assumes nothing.
use Prim.Native.Nat.{ℕ, suc, ◌^◌, min, ◌≤◌, ◌<◌}
use native.Mathlib.Omega.{arith}
use mathlib.Core.Path.{◌≡◌, refl, sym, ap, ap₂, ◌∙◌}
use mathlib.Core.Bool.{Bool, true, false, not, ◌&&◌, true≢false}
use mathlib.Core.List.{List, [], ◌∷◌, ◌++◌, map}
use lib.Dec.{eqb, leb, ltb}
use lib.ListN.{length, drop, replicate}
use lib.Pow.{pow_mono}
use borrow.Author.Tests.{eqb-true, eqb-false, ltb-false, leb-true, leb-false, not-false}
use Rattle.base.specs.Numbers.{within}
use Rattle.base.specs.Lists.{Each, all, rest, is_empty}
use Rattle.base.specs.Chains.{refuse}
use Rattle.base.proofs.Bools.{by_cases, and_both, or-none}
use Rattle.base.proofs.ChainsLaws.{link, chain-none, not-refused}
use Rattle.base.proofs.ListsLaws.{each_append}
use Rattle.base.proofs.NumbersLaws.{within_both}
use Rattle.codec.specs.Bytes.{same_bytes}
use Rattle.codec.proofs.BytesLaws.{same_refl}
use Rattle.quorum.specs.Votes.{max_vote, small_row, no_votes, wrong_row}
use Rattle.model.specs.Hall.{max_recorders}
use Rattle.model.specs.Opening.{wrong_opening, open_refusal}
use Rattle.model.specs.Call.{Words, words_of}
use Rattle.model.specs.RunFile.{FileOpening, has_votes, row_given, opening_in}
use Rattle.model.specs.Listing.{decimal, hall-word}
use Rattle.runfile.specs.InRange.{Small}
use Rattle.story.specs.Fields.{first_field}
use Rattle.story.specs.Numbers.{Value, value}
use Rattle.story.specs.Sets.{set_text}
use Rattle.story.specs.Keywords.{founders-word, whole_word, votes-word, hall_number}
use Rattle.story.specs.Printing.{raw_fields, whole_mask, founders_fields, votes_fields, opening_text, tell_refusal}
use Rattle.story.specs.Parsing.{Line, opening, wrong, Taken, TakenFour, take_four, founders_of, take_founders, TakenVotes, take_eight, take_votes, opening_line, line_from}
use Rattle.story.proofs.FieldsLaws.{Field}
use Rattle.story.proofs.NumbersLaws.{decimal-field}
use Rattle.story.proofs.SetsLaws.{set_back, set-field}
use Rattle.story.proofs.KeywordsLaws.{hall-number, hall-field, founders-field, whole-field, votes-field}
use Rattle.story.proofs.TakingLaws.{took, take-value, take-number, take-four}
use Rattle.story.proofs.LinesLaws.{Tells}

-- ## An opening that is told

abbrev pub Word : ℕ → Type 0
Word w = w < 2 ^ 32

pub record Opens (o : FileOpening) : Type 0 where
  pub size : o.size ≤ 8
  pub founders : o.founders < 2 ^ o.size
  pub third : o.third ≤ 1
  pub votes : has_votes o.third ≡ true → Each Word o.words

-- 16: N is 1 to 8, and the founders are among them
right-size : (n founders : ℕ) → wrong_opening n founders ≡ false → (n ≤ 8) × (founders < 2 ^ n)
unfolding wrong_opening
right-size n founders e =
    by_cases (within 1 max_recorders n)
    (λ t. ((within_both 1 8 n t).1, leb-false (2 ^ n) founders (rw (t, wrong_opening) at e)))
    (λ t. absurd (true≢false (rw (t, wrong_opening) at e)))

-- 41: the votes are at most 1,000
small-words : (row : List ℕ) → all (λ v. leb v max_vote) row ≡ true → Each Word row
unfolding all
small-words [] e = tt
small-words (v ∷ row) e =
    let p = and_both (leb v max_vote) (all (λ v. leb v max_vote) row) e in
    (omega (arith, leb-true v max_vote p.0), small-words row p.1)

right-row : (n : ℕ) (row : List ℕ) → wrong_row n row ≡ false → Each Word row
unfolding wrong_row small_row
right-row n row e =
    let few = small_row row && no_votes (drop n row) in
    small-words row
    (and_both (small_row row) (no_votes (drop n row)) (not-false few (or-none (not few) (no_votes row) e).0)).0

pub told-opens : (o : FileOpening) → tell_refusal o ≡ 0 → Opens o
unfolding tell_refusal open_refusal opening_in row_given
told-opens o e =
    let p = chain-none (open_refusal (opening_in o)) (refuse (ltb 1 o.third) 19) e in
    let q = link (wrong_opening o.size o.founders) _ (refuse (wrong_row o.size (row_given o)) 41) p.0 in
    let r = right-size o.size o.founders q.0 in
    let row = right-row o.size (row_given o) (not-refused (wrong_row o.size (row_given o)) _ q.1) in
    record {
      size = r.0;
      founders = r.1;
      third = ltb-false 1 o.third (not-refused (ltb 1 o.third) _ p.1);
      votes = λ t. rw (t, row_given) at row;
    }

-- ## The founders

-- the field of the founders of n recorders
abbrev founders_field : ℕ → ℕ → List ℕ
founders_field n m = elim (eqb m (whole_mask n)) [ true ↦ whole_word | false ↦ set_text m ]

module _ (n m : ℕ) (hn : n ≤ 8) (hm : m < 2 ^ n) where
  mask-small : m < 256
  mask-small = omega (arith, pow_mono hn)

  -- `whole`
  whole_back : m ≡ whole_mask n → founders_of n whole_word ≡ value m
  unfolding founders_of
  whole_back e =
      let s : min n 8 ≡ n = omega arith in
      rw (same_refl whole_word, founders_of) (ap (λ (k : ℕ). value (whole_mask k)) s ∙ ap value (sym e))

  -- a set with a member
  members-back : eqb m 0 ≡ false → founders_of n (set_text m) ≡ value m
  unfolding founders_of set_text same_bytes whole_word
  members-back f =
      ap (λ (x : Value). record { ok = x.ok && not (eqb x.number 0); number = x.number }) (set_back m mask-small)
      ∙ ap (λ (t : Bool). record { ok = not t; number = m }) f

  founders-back : eqb m 0 ≡ false → founders_of n (founders_field n m) ≡ value m
  founders-back f =
      by_cases (eqb m (whole_mask n)) (λ t. rw (t, founders_field) (whole_back (eqb-true m (whole_mask n) t))) (λ t. rw (t, founders_field) (members-back f))

  founders-one : Field (founders_field n m)
  founders-one = by_cases (eqb m (whole_mask n)) (λ t. rw (t, founders_field) whole-field) (λ t. rw (t, founders_field) (set-field m mask-small))

  -- no founders are told in what stands after them
  take-founders : (fs : List (List ℕ)) → same_bytes founders-word (first_field fs) ≡ false
      → take_founders n (founders_fields n m ++ fs) ≡ took m fs
  unfolding take_founders founders_fields first_field rest
  take-founders fs s =
      by_cases (eqb m 0) (λ t. rw (t, founders_fields) (rw (s, take_founders) (ap (λ (k : ℕ). took k fs) (sym (eqb-true m 0 t)))))
      (λ f.
      rw (f, founders_fields)
      (rw (same_refl founders-word, take_founders) (take-value (founders_of n) (founders_field n m) fs m (founders-back f))))

  founders-fields : Each Field (founders_fields n m)
  unfolding founders_fields
  founders-fields =
      by_cases (eqb m 0) (λ t. rw (t, founders_fields) tt) (λ f. rw (f, founders_fields) (founders-field, (founders-one, tt)))

-- ## The votes

abbrev four : Words → List ℕ
four w = w.k ∷ w.r ∷ w.a ∷ w.b ∷ []

-- four words and n more
record FourOf (n : ℕ) (ws : List ℕ) : Type 0 where
  pub four-words : Words
  pub more : List ℕ
  pub joined : ws ≡ four four-words ++ more
  pub small : Small four-words
  pub count : length more ≡ n
  pub small-more : Each Word more

four-of : (n : ℕ) (ws : List ℕ) → length ws ≡ suc (suc (suc (suc n))) → Each Word ws → FourOf n ws
four-of n [] e h = absurd (omega arith)
four-of n (k ∷ []) e h = absurd (omega arith)
four-of n (k ∷ r ∷ []) e h = absurd (omega arith)
four-of n (k ∷ r ∷ a ∷ []) e h = absurd (omega arith)
four-of n (k ∷ r ∷ a ∷ b ∷ ws) e h =
    record {
      four-words = words_of k r a b;
      more = ws;
      joined = refl;
      small = record { k = h.0; r = h.1.0; a = h.1.1.0; b = h.1.1.1.0 };
      count = omega arith;
      small-more = h.1.1.1.1;
    }

-- votes taken, with nothing after them
abbrev took_votes : ℕ → List ℕ → TakenVotes
took_votes third ws = record { ok = true; third = third; words = ws; left = [] }

take-eight : (ws : List ℕ) → length ws ≡ 8 → Each Word ws → take_eight (map decimal ws) ≡ took_votes 1 ws
unfolding take_eight raw_fields
take-eight ws e h =
    let x = four-of 4 ws e h in
    let y = four-of 0 x.more x.count x.small-more in
    let v = x.four-words in
    let w = y.four-words in
    let none : y.more ≡ [] = no_words y.more y.count in
    let all : ws ≡ four v ++ four w = x.joined ∙ ap (λ (l : List ℕ). four v ++ l) (y.joined ∙ ap (λ (l : List ℕ). four w ++ l) none) in
    ap (λ (l : List ℕ). take_eight (map decimal l)) all
    ∙ ap
    (λ (z : TakenFour).
    let y = take_four z.left in
    record { ok = z.ok && y.ok; third = 1; words = four z.words ++ four y.words; left = y.left })
    (take-four v x.small (raw_fields w))
    ∙ ap (λ (z : TakenFour). record { ok = z.ok; third = 1; words = four v ++ four z.words; left = z.left }) (take-four w y.small [])
    ∙ ap (took_votes 1) (sym all)
  where
    no_words : (ws : List ℕ) → length ws ≡ 0 → ws ≡ []
    no_words [] e = refl
    no_words (w ∷ ws) e = absurd (omega arith)

decimals : (ws : List ℕ) → Each Field (map decimal ws)
decimals [] = tt
decimals (w ∷ ws) = (decimal-field w, decimals ws)

module _ (third : ℕ) (ws : List ℕ) (one : third ≤ 1) (small : has_votes third ≡ true → Each Word ws) where
  take-votes : length ws ≡ 8 → (has_votes third ≡ false → ws ≡ replicate 8 0) → take_votes (votes_fields third ws) ≡ took_votes third ws
  unfolding take_votes votes_fields first_field rest same_bytes votes-word has_votes
  take-votes eight none =
      by_cases (has_votes third)
      (λ t. rw (t, votes_fields) (take-eight ws eight (small t) ∙ ap (λ (k : ℕ). took_votes k ws) (sym (eqb-true third 1 t))))
      (λ t.
      let z : 0 ≡ third = omega (arith, eqb-false third 1 t) in
      rw (t, votes_fields) (ap₂ took_votes z (sym (none t))))

  votes-fields : Each Field (votes_fields third ws)
  unfolding votes_fields
  votes-fields = by_cases (has_votes third) (λ t. rw (t, votes_fields) (votes-field, decimals ws)) (λ t. rw (t, votes_fields) tt)

  -- they tell no founders
  no-founders : same_bytes founders-word (first_field (votes_fields third ws)) ≡ false
  unfolding votes_fields first_field same_bytes founders-word votes-word
  no-founders = by_cases (has_votes third) (λ t. rw (t, votes_fields)) (λ t. rw (t, votes_fields))

-- ## The line

module _ (o : FileOpening) (h : Opens o) (eight : length o.words ≡ 8)
    (none : has_votes o.third ≡ false → o.words ≡ replicate 8 0) where
  abbrev votes : List (List ℕ)
  votes = votes_fields o.third o.words

  abbrev fields : List (List ℕ)
  fields = founders_fields o.size o.founders ++ votes

  abbrev line_with : Taken → Taken → TakenVotes → Line
  line_with n m v =
      elim (n.ok && (m.ok && (v.ok && is_empty v.left))) [
        | true ↦ opening (record { size = n.number; founders = m.number; third = v.third; words = v.words })
        | false ↦ wrong hall_number
      ]

  opening-line : opening_line (decimal o.size ∷ fields) ≡ opening o
  unfolding opening_line is_empty
  opening-line =
      ap
      (λ (n : Taken).
      let m = take_founders n.number n.left in
      line_with n m (take_votes m.left))
      (take-number o.size fields (omega (arith, h.size)))
      ∙ ap (λ (m : Taken). line_with (took o.size fields) m (take_votes m.left))
      (take-founders o.size o.founders h.size h.founders votes (no-founders o.third o.words h.third h.votes))
      ∙ ap (line_with (took o.size fields) (took o.founders votes))
      (take-votes o.third o.words h.third h.votes eight none)

  pub tells-opening : Tells (opening_text o) (opening o)
  unfolding opening_text line_from
  tells-opening =
      record {
        first = hall-word;
        others = decimal o.size ∷ fields;
        text = refl;
        field = hall-field;
        fields = (
          decimal-field o.size,
          each_append Field (founders_fields o.size o.founders) votes
              (founders-fields o.size o.founders h.size h.founders)
              (votes-fields o.third o.words h.third h.votes),
        );
        says = ap (λ (k : ℕ). line_from k (decimal o.size ∷ fields)) hall-number ∙ opening-line;
      }
