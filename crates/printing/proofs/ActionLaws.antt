-- Laws of an action's line. Assumes nothing.
use Prim.Native.Nat.{ℕ, zero, suc, ◌^◌, ◌≤◌, ◌<◌}
use native.Mathlib.Omega.{arith}
use mathlib.Core.Path.{◌≡◌, refl, sym, ap, ◌∙◌}
use mathlib.Core.Bool.{Bool, true, false, not, ◌&&◌}
use mathlib.Core.List.{List, [], ◌∷◌, ◌++◌, map}
use lib.Dec.{leb}
use lib.ListN.{length, get_or, length-append}
use borrow.Author.Tests.{le-leb, leb-true, leb-false}
use Rattle.base.specs.Numbers.{within}
use Rattle.base.proofs.Bools.{by_cases, not-both, and_both}
use Rattle.base.proofs.NumbersLaws.{within_both}
use Rattle.model.specs.Kinds as model
use Rattle.model.specs.Kinds.{Use, unused, word, recorder, number, set, KindWord, kind, no_kind, kinds, kind_of, last_kind, uses}
use Rattle.model.specs.declared.kinds.Kind.{Kind}
use Rattle.model.specs.declared.refusals.Refusal.{Refusal}
use Rattle.model.specs.KindNumbers.{kind_meaning, kind_number, Names}
use Rattle.model.proofs.KindNumbersLaws.{number-names}
use Rattle.std.proofs.Common.{Some, None, Result, Ok, Err}
use Rattle.std.specs.Result.{result_ok}
use Rattle.std.specs.Bool.{then_some}
use Rattle.model.specs.Call.{Words, words_of}
use Rattle.model.specs.Listing.{decimal, summary-word}
use Rattle.model.proofs.KindLaws.{past-last}
use Rattle.words.specs.declared.Uses.{Uses}
use Rattle.words.specs.Words.{use_of, uses_of}
use Rattle.story.specs.Sets.{set_text}
use Rattle.story.specs.Keywords.{submit-word, label-word, send-word, form-word, enter-word, place-word, receive-word, safe-word, confirm-word, deliver-word, kind_words, kind_word, raw_word}
use Rattle.story.specs.Printing.{can_tell, has_line, arg_fields, kind_fields, raw_fields, action_text}
use Rattle.printing.specs.Lines.{spaced, kind_text, raw_text, TellsKind}
use Rattle.printing.proofs.FieldsLaws.{spaced-append, line-closed, length_none, length-closed, length-spaced, number_short, numbers-short}
use Rattle.printing.proofs.MembersLaws.{set-short}

-- no kind has a number below 1 or past the last
no_kind_lem : (k : ℕ) → not (within 1 last_kind k) ≡ true → kind_of k ≡ no_kind
unfolding kind_of kinds within
no_kind_lem zero e = refl
no_kind_lem (suc k) e = by_cases (leb (suc k) last_kind) (λ t. absurd (not-both e (ap not (named t)))) (λ f. past-last (suc k) (leb-false (suc k) last_kind f))
  where
    named : leb (suc k) last_kind ≡ true → within 1 last_kind (suc k) ≡ true
    named t = rw (le-leb 1 (suc k) (omega arith)) t

-- ## Has it a line of its kind?

-- by what a kind uses its words for
abbrev tells : model.Uses → Words → Bool
tells u w = can_tell u.r w.r && (can_tell u.a w.a && can_tell u.b w.b)

module _ (k r a b : ℕ) where
  -- no kind
  pub no_line : (x : Result Kind Refusal) → Names k x → result_ok x ≡ None → has_line (words_of k r a b) ≡ false
  unfolding has_line
  no_line (Ok κ) n e = absurd cc
  no_line (Err why) n e = rw (n.0, has_line)

  -- a line is of a kind
  pub line-kind : has_line (words_of k r a b) ≡ true → (1 ≤ k) × (k ≤ last_kind)
  unfolding has_line
  line-kind e =
      by_cases (within 1 last_kind k) (λ t. within_both 1 last_kind k t) (λ f. absurd (not-both e (rw (no_kind_lem k (ap not f), has_line))))

  module _ (κ : Kind) (x : Result Kind Refusal) (named : Names k x) (is : result_ok x ≡ Some κ) where
    kind-is : (x : Result Kind Refusal) → Names k x → result_ok x ≡ Some κ → (kind_of k ≡ kind (kind_meaning κ)) × (kind_number κ ≡ k)
    kind-is (Ok ι) n e = let same : ι ≡ κ = cc in rw (sym same) n
    kind-is (Err why) n e = absurd cc

    -- a kind: by its row
    pub line-of-row : (u : Uses) → uses_of u ≡ uses (kind_meaning κ)
        → TellsKind (words_of k r a b) (then_some (can_tell (use_of u.0) r && (can_tell (use_of u.1) a && can_tell (use_of u.2) b)) κ)
    unfolding has_line uses_of
    line-of-row u row =
        let n = kind-is x named is in
        let line : (can_tell (use_of u.0) r && (can_tell (use_of u.1) a && can_tell (use_of u.2) b)) ≡ has_line (words_of k r a b) =
        ap (λ v. tells v (words_of k r a b)) row ∙ sym (rw (n.0, has_line))
        in
        rw line (go (has_line (words_of k r a b)) refl n.1)
      where
        go : (t : Bool) → has_line (words_of k r a b) ≡ t → kind_number κ ≡ k → TellsKind (words_of k r a b) (then_some t κ)
        go true e n = (e, n)
        go false e n = e

-- ## The words that its kind uses

-- by what a kind uses them for
abbrev told : model.Uses → Words → List ℕ
told u w = spaced (arg_fields u.r w.r) ++ (spaced (arg_fields u.a w.a) ++ spaced (arg_fields u.b w.b))

told-fields : (u : model.Uses) (w : Words)
    → spaced (arg_fields u.r w.r ++ (arg_fields u.a w.a ++ arg_fields u.b w.b)) ≡ told u w
told-fields u w =
    spaced-append (arg_fields u.r w.r) (arg_fields u.a w.a ++ arg_fields u.b w.b)
    ∙ ap (λ (l : List ℕ). spaced (arg_fields u.r w.r) ++ l) (spaced-append (arg_fields u.a w.a) (arg_fields u.b w.b))

pub fields-of-row : (κ : Kind) (r a b : ℕ) (u : Uses) → uses_of u ≡ uses (kind_meaning κ)
    → spaced (kind_fields (words_of (kind_number κ) r a b))
    ≡ spaced (arg_fields (use_of u.0) r) ++ (spaced (arg_fields (use_of u.1) a) ++ spaced (arg_fields (use_of u.2) b))
unfolding kind_fields uses_of
fields-of-row κ r a b u row =
    rw (number-names κ, kind_fields) (told-fields (uses (kind_meaning κ)) (words_of (kind_number κ) r a b))
    ∙ sym (ap (λ v. told v (words_of (kind_number κ) r a b)) row)

-- one word: nothing, or a set
pub arg-unused : (w : ℕ) → spaced (arg_fields unused w) ≡ []
unfolding arg_fields spaced
arg-unused w = refl

pub arg-set : (w : ℕ) → spaced (arg_fields set w) ≡ spaced (set_text w ∷ [])
unfolding arg_fields
arg-set w = refl

-- ## Lines

pub kind-parts : (w : Words) → kind_text w ≡ kind_word w.k ++ (spaced (kind_fields w) ++ (10 ∷ []))
kind-parts w = line-closed (kind_word w.k) (kind_fields w)

pub raw-parts : (w : Words) → raw_text w ≡ raw_word ++ (spaced (map decimal (w.k ∷ w.r ∷ w.a ∷ w.b ∷ [])) ++ (10 ∷ []))
unfolding raw_fields
raw-parts w = line-closed raw_word (raw_fields w)

pub with-line : (w : Words) → has_line w ≡ true → action_text w ≡ kind_text w
unfolding action_text
with-line w e = rw (e, action_text)

pub with-kind : (k r a b : ℕ) (κ : Kind) → TellsKind (words_of k r a b) (Some κ) → action_text (words_of k r a b) ≡ kind_text (words_of (kind_number κ) r a b)
with-kind k r a b κ t = with-line (words_of k r a b) t.0 ∙ ap (λ n. kind_text (words_of n r a b)) (sym t.1)

pub without-line : (w : Words) → has_line w ≡ false → action_text w ≡ raw_text w
unfolding action_text
without-line w e = rw (e, action_text)

-- ## Lengths

arg-short : (u : Use) (w : ℕ) → w < 2 ^ 32 → length (spaced (arg_fields u w)) ≤ 19
unfolding arg_fields
arg-short unused w h = omega (arith, length_none)
arg-short word w h = omega (arith, number_short w h)
arg-short recorder w h = omega (arith, number_short w h)
arg-short number w h = omega (arith, number_short w h)
arg-short set w h = omega (arith, length-spaced (set_text w) [], length_none, set-short w)

-- no word of the list is longer than n
fitting : ℕ → List (List ℕ) → Bool
fitting n [] = true
fitting n (w ∷ ws) = leb (length w) n && fitting n ws

fits-at : (n : ℕ) (ws : List (List ℕ)) → fitting n ws ≡ true → (k : ℕ) → length (get_or ws k []) ≤ n
unfolding fitting
fits-at n [] e k = omega arith
fits-at n (w ∷ ws) e zero = leb-true (length w) n (and_both (leb (length w) n) (fitting n ws) e).0
fits-at n (w ∷ ws) e (suc k) = fits-at n ws (and_both (leb (length w) n) (fitting n ws) e).1 k

word-short : (k : ℕ) → length (kind_word k) ≤ 7
unfolding kind_word kind_words submit-word label-word send-word summary-word form-word enter-word place-word receive-word safe-word confirm-word deliver-word fitting
word-short k = fits-at 7 kind_words refl k

module _ (w : Words) (hk : w.k < 2 ^ 32) (hr : w.r < 2 ^ 32) (ha : w.a < 2 ^ 32) (hb : w.b < 2 ^ 32) where
  told-short : (u : model.Uses) → length (told u w) ≤ 57
  told-short u =
      let r = spaced (arg_fields u.r w.r) in
      let a = spaced (arg_fields u.a w.a) in
      let b = spaced (arg_fields u.b w.b) in
      omega (arith, length-append r (a ++ b), length-append a b, arg-short u.r w.r hr, arg-short u.a w.a ha, arg-short u.b w.b hb)

  fields-short : length (spaced (kind_fields w)) ≤ 57
  unfolding kind_fields
  fields-short = go (kind_of w.k)
    where
      go : (x : KindWord)
          → length (spaced (elim x [ kind κ ↦ arg_fields (uses κ).r w.r ++ (arg_fields (uses κ).a w.a ++ arg_fields (uses κ).b w.b) | no_kind ↦ [] ])) ≤ 57
      go (kind κ) = omega (arith, ap length (told-fields (uses κ) w), told-short (uses κ))
      go no_kind = omega (arith, length_none)

  pub action-short : length (action_text w) ≤ 65
  unfolding raw_fields raw_word
  action-short =
      by_cases (has_line w)
      (λ e.
      omega (arith, ap length (with-line w e), length-closed (kind_word w.k) (kind_fields w), word-short w.k, fields-short))
      (λ e.
      omega (
        arith,
        ap length (without-line w e),
        length-closed raw_word (raw_fields w),
        numbers-short (w.k ∷ w.r ∷ w.a ∷ w.b ∷ []) (hk, (hr, (ha, (hb, tt)))),
      ))
