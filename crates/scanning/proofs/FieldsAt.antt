-- Fields by their offsets in a text. Assumes nothing.
use Prim.Native.Nat.{ℕ, zero, suc, ◌+◌, ◌-◌, ◌≤◌, ◌<◌}
use native.Mathlib.Omega.{arith}
use native.Mathlib.Numerals.{add-one}
use mathlib.Core.Path.{◌≡◌, refl, sym, ap, subst, ◌∙◌}
use mathlib.Core.Logic.{⊎_elim}
use mathlib.Core.Bool.{Bool, true, false, not, ◌||◌}
use mathlib.Core.List.{List, [], ◌∷◌, ◌++◌}
use lib.Dec.{eqb, ltb}
use lib.ListN.{length, take, drop, get_or, drop_of_length-le, take-append-drop, length-drop}
use lib.Seq.{drop-cons, drop-drop, get_or-drop, take_all}
use borrow.Author.Tests.{eqb-true, eq-eqb, ne_eqb, ltb-true, ltb-false, not-true, not-false}
use Rattle.base.specs.Lists.{rest, is_empty}
use Rattle.base.proofs.Bools.{by_cases, not-both, or_cases}
use Rattle.codec.specs.Bytes.{part}
use Rattle.story.specs.Fields.{is_blank, is_end, is_break, breaks, fields_in, first_field, line_length}
use Rattle.story.proofs.FieldsLaws.{Unbroken, Field, fields-cons}
use Rattle.scanning.specs.Scanned.{Spans}

-- r is the index of the first byte that passes a test, else the length
pub record Finds (test : ℕ → Bool) (bs : List ℕ) (r : ℕ) : Type 0 where
  pub within : r ≤ length bs
  pub passed : (k : ℕ) → k < r → false ≡ test (get_or bs k 0)
  pub stops : r < length bs → true ≡ test (get_or bs r 0)

-- r is the first offset from `at` on where no blank stands, within the text
pub record Skips (text : List ℕ) (at r : ℕ) : Type 0 where
  pub within : r ≤ length text
  pub fields : fields_in (drop at text) ≡ fields_in (drop r text)
  pub stops : r < length text → is_blank (get_or text r 0) ≡ false

-- r is the first offset from `at` on where no field goes on
pub record Ends (text : List ℕ) (at r : ℕ) : Type 0 where
  pub from : at ≤ r
  pub within : r ≤ length text
  pub goes : (i : ℕ) → at ≤ i → i < r → is_break (get_or text i 0) ≡ false
  pub stops : breaks (drop r text) ≡ true

-- a text from an offset on: the byte there, and what follows; past its end nothing
pub drop-step : (text : List ℕ) (i : ℕ) → i < length text → drop i text ≡ get_or text i 0 ∷ drop (i + 1) text
drop-step text i h = rw (add-one, drop-cons text i 0)

pub drop_past : (text : List ℕ) (i : ℕ) → length text ≤ i → drop i text ≡ []
drop_past text i h = drop_of_length-le text h

-- a blank is no end
blank-no-end : (b : ℕ) → is_blank b ≡ true → is_end b ≡ false
unfolding is_blank is_end
blank-no-end b e = ⊎_elim (λ p. other 32 (eqb-true b 32 p) refl) (λ p. ⊎_elim (λ q. other 9 (eqb-true b 9 q) refl) (λ q. other 13 (eqb-true b 13 q) refl) (or_cases (eqb b 9) (eqb b 13) p)) (or_cases (eqb b 32) (eqb b 9 || eqb b 13) e)
  where
    other : (x : ℕ) → b ≡ x → (eqb x 10 || eqb x 35) ≡ false → (eqb b 10 || eqb b 35) ≡ false
    other x p q = subst (λ (y : ℕ). (eqb y 10 || eqb y 35) ≡ false) (sym p) q

fields-blank : (b : ℕ) (bs : List ℕ) → is_blank b ≡ true → fields_in (b ∷ bs) ≡ fields_in bs
unfolding fields_in
fields-blank b bs e = rw (blank-no-end b e, fields_in, e)

-- a blank is passed over
pub skip_step : (text : List ℕ) (i : ℕ) → i < length text → is_blank (get_or text i 0) ≡ true → fields_in (drop i text) ≡ fields_in (drop (i + 1) text)
skip_step text i h e = ap fields_in (drop-step text i h) ∙ fields-blank (get_or text i 0) (drop (i + 1) text) e

-- where a field ends: at a break, or at the end
pub breaks-at : (text : List ℕ) (i : ℕ) → i < length text → is_break (get_or text i 0) ≡ true → breaks (drop i text) ≡ true
unfolding breaks
breaks-at text i h e = rw (drop-step text i h) e

pub breaks-past : (text : List ℕ) (i : ℕ) → length text ≤ i → breaks (drop i text) ≡ true
unfolding breaks
breaks-past text i h = rw (drop_past text i h)

-- what is passed over: blanks
skip-all : (bs : List ℕ) (n : ℕ) → n ≤ length bs → ((k : ℕ) → k < n → is_blank (get_or bs k 0) ≡ true) → fields_in bs ≡ fields_in (drop n bs)
skip-all bs zero h g = refl
skip-all [] (suc n) h g = absurd (omega arith)
skip-all (b ∷ bs) (suc n) h g = fields-blank b bs (g 0 (omega arith)) ∙ skip-all bs n (omega arith) (λ k p. g (suc k) (omega arith))

-- a text from an offset on, as the code cuts it
abbrev pub tail : List ℕ → ℕ → List ℕ
tail text at = take (length text - at) (drop at text)

pub tail-drop : (text : List ℕ) (at : ℕ) → tail text at ≡ drop at text
tail-drop text at = take_all (length text - at) (drop at text) (omega (arith, length-drop at text))

-- a byte of it
get-drop : (text : List ℕ) (at k : ℕ) → get_or (drop at text) k 0 ≡ get_or text (at + k) 0
get-drop text at k = get_or-drop at text k 0

module _ (text : List ℕ) (at r : ℕ) (h : at ≤ length text) where
  pub skips : Finds (λ b. not (is_blank b)) (tail text at) r → Skips text at (at + r)
  skips g =
      let f = subst (λ (bs : List ℕ). Finds (λ b. not (is_blank b)) bs r) (tail-drop text at) g in
      record {
        within = omega (arith, f.within, length-drop at text);
        fields =
            skip-all (drop at text) r f.within (λ k p. not-false (is_blank (get_or (drop at text) k 0)) (sym (f.passed k p)))
            ∙ ap fields_in (drop-drop r at text);
        stops = λ p.
            ap is_blank (sym (get-drop text at r))
            ∙ not-true (is_blank (get_or (drop at text) r 0)) (sym (f.stops (omega (arith, length-drop at text))));
      }

  -- where a field ends: at a break, or at the text's end
  pub ends : Finds is_break (tail text at) r → Ends text at (at + r)
  unfolding breaks
  ends g =
      let f = subst (λ (bs : List ℕ). Finds is_break bs r) (tail-drop text at) g in
      record {
        from = omega arith;
        within = omega (arith, f.within, length-drop at text);
        goes = λ k p q.
            let i : ℕ = k - at in
            let e : at + i ≡ k = omega arith in
            subst (λ (j : ℕ). is_break (get_or text j 0) ≡ false) e
            (ap is_break (sym (get-drop text at i)) ∙ sym (f.passed i (omega arith)));
        stops = by_cases (ltb (at + r) (length text))
            (λ t.
            let p = ltb-true (at + r) (length text) t in
            rw (drop-step text (at + r) p)
            (ap is_break (sym (get-drop text at r)) ∙ sym (f.stops (omega (arith, length-drop at text)))))
            (λ t. rw (drop_past text (at + r) (ltb-false (at + r) (length text) t)));
      }

-- at a break that is no blank there is no field
no-fields-in : (l : List ℕ) → breaks l ≡ true → (is_empty l ≡ false → is_blank (get_or l 0 0) ≡ false) → fields_in l ≡ []
unfolding breaks is_break fields_in is_empty
no-fields-in [] e h = refl
no-fields-in (b ∷ bs) e h = ⊎_elim blank end (or_cases (is_blank b) (is_end b) e)
  where
    blank : is_blank b ≡ true → fields_in (b ∷ bs) ≡ []
    blank p = absurd (not-both p (h refl))

    end : is_end b ≡ true → fields_in (b ∷ bs) ≡ []
    end p = rw (p, fields_in)

no_fields : (text : List ℕ) (i : ℕ) → breaks (drop i text) ≡ true → (i < length text → is_blank (get_or text i 0) ≡ false) → fields_in (drop i text) ≡ []
unfolding fields_in
no_fields text i e h = by_cases (ltb i (length text)) inside past
  where
    inside : ltb i (length text) ≡ true → fields_in (drop i text) ≡ []
    inside t =
        let l = ltb-true i (length text) t in
        let at = drop-step text i l in
        ap fields_in at
        ∙ no-fields-in (get_or text i 0 ∷ drop (i + 1) text) (subst (λ (x : List ℕ). breaks x ≡ true) at e) (λ _. h l)

    past : ltb i (length text) ≡ false → fields_in (drop i text) ≡ []
    past t = ap fields_in (drop_past text i (ltb-false i (length text) t))

-- bytes that are no breaks, one by one, are no breaks together
unbroken-part : (text : List ℕ) (n i : ℕ) → i + n ≤ length text → ((k : ℕ) → i ≤ k → k < i + n → is_break (get_or text k 0) ≡ false) → Unbroken (part i n text)
unbroken-part text zero i h g = tt
unbroken-part text (suc n) i h g =
    subst (λ (l : List ℕ). Unbroken (take (suc n) l)) (sym (drop-step text i (omega arith)))
    (g i (omega arith) (omega arith), unbroken-part text n (i + 1) (omega arith) (λ k p q. g k (omega arith) (omega arith)))

some-part : (text : List ℕ) (i n : ℕ) → i < length text → is_empty (part i (suc n) text) ≡ false
unfolding is_empty
some-part text i n h = rw (drop-step text i h)

-- the first field stands between the blanks before it and its end
pub spans : (text : List ℕ) (at from to : ℕ) → Skips text at from → Ends text from to → Spans text at from to
unfolding first_field rest is_empty
spans text at from to s e = by_cases (ltb from to) some none
  where
    some : ltb from to ≡ true → Spans text at from to
    some t =
        let l = ltb-true from to t in
        let n : ℕ = to - from in
        let f : List ℕ = part from n text in
        let ends : from + n ≡ to = omega arith in
        let joined : drop from text ≡ f ++ drop to text =
        sym (take-append-drop n (drop from text)) ∙ ap (λ (x : List ℕ). f ++ x) (drop-drop n from text ∙ ap (λ (k : ℕ). drop k text) ends) in
        let more : suc (n - 1) ≡ n = omega arith in
        let field : Field f = record {
          some = subst (λ (k : ℕ). is_empty (part from k text) ≡ false) more (some-part text from (n - 1) (omega (arith, e.within)));
          unbroken = unbroken-part text n from (omega (arith, e.within)) (λ k p q. e.goes k p (omega arith));
        } in
        let all : fields_in (drop at text) ≡ f ∷ fields_in (drop to text) =
        s.fields ∙ ap fields_in joined ∙ fields-cons f (drop to text) field e.stops in
        record {
          order = e.from;
          within = e.within;
          field = ap first_field all;
          left = ap rest all;
          none = ap is_empty all ∙ sym (ne_eqb from to (λ q. omega arith));
        }

    none : ltb from to ≡ false → Spans text at from to
    none t =
        let same : to ≡ from = omega (arith, ltb-false from to t, e.from) in
        let stop : breaks (drop from text) ≡ true = subst (λ (k : ℕ). breaks (drop k text) ≡ true) same e.stops in
        let no : fields_in (drop from text) ≡ [] = no_fields text from stop s.stops in
        let all : fields_in (drop at text) ≡ [] = s.fields ∙ no in
        let nothing : to - from ≡ 0 = omega arith in
        let zeroed : part from (to - from) text ≡ [] = ap (λ (k : ℕ). part from k text) nothing in
        record {
          order = e.from;
          within = e.within;
          field = ap first_field all ∙ sym zeroed;
          left = ap rest all ∙ sym (ap (λ (k : ℕ). fields_in (drop k text)) same ∙ no);
          none = ap is_empty all ∙ sym (eq-eqb from to (sym same));
        }

-- ## The line's end

pub line_on : (text : List ℕ) (i : ℕ) → i < length text → eqb (get_or text i 0) 10 ≡ false → i + line_length (drop i text) ≡ i + 1 + line_length (drop (i + 1) text)
unfolding line_length
line_on text i h e = rw (drop-step text i h, line_length, e) (omega arith)

pub line-past : (bs : List ℕ) (n : ℕ) → length bs ≤ n → line_length (drop n bs) ≡ 0
unfolding line_length
line-past bs n h = rw (drop_past bs n h, line_length)

pub line-over : (bs : List ℕ) (n : ℕ) → n < length bs → eqb (get_or bs n 0) 10 ≡ true → line_length (drop n bs) ≡ 1
unfolding line_length
line-over bs n h e = rw (drop-step bs n h, line_length, e)

-- the line goes on over bytes that are none of byte 10
line-all : (bs : List ℕ) (n : ℕ) → n ≤ length bs → ((k : ℕ) → k < n → eqb (get_or bs k 0) 10 ≡ false) → line_length bs ≡ n + line_length (drop n bs)
unfolding line_length
line-all bs zero h g = omega arith
line-all [] (suc n) h g = absurd (omega arith)
line-all (b ∷ bs) (suc n) h g = rw (line_length, g 0 (omega arith)) (omega (arith, line-all bs n (omega arith) (λ k p. g (suc k) (omega arith))))

-- the line ends after the byte 10 found, or where the text ends
module _ (text : List ℕ) (at r : ℕ) (h : at ≤ length text) (g : Finds (λ b. eqb b 10) (tail text at) r) where
  found : Finds (λ b. eqb b 10) (drop at text) r
  found = subst (λ (bs : List ℕ). Finds (λ b. eqb b 10) bs r) (tail-drop text at) g

  all : line_length (drop at text) ≡ r + line_length (drop r (drop at text))
  all = line-all (drop at text) r found.within (λ k p. sym (found.passed k p))

  pub line-found : at + r < length text → at + r + 1 ≡ at + line_length (drop at text)
  line-found p =
      let q : r < length (drop at text) = omega (arith, length-drop at text) in
      omega (arith, all, line-over (drop at text) r q (sym (found.stops q)))

  pub line-unfound : length text ≤ at + r → at + r ≡ at + line_length (drop at text)
  line-unfound p = omega (arith, all, line-past (drop at text) r (omega (arith, length-drop at text)))
