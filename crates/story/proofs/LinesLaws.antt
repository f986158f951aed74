-- A line told, before any text, is read as what it tells. Assumes nothing.
use Prim.Native.Nat.{ℕ, ◌^◌, ◌<◌}
use native.Mathlib.Omega.{arith}
use mathlib.Core.Path.{◌≡◌, refl, sym, ap, ◌∙◌}
use mathlib.Core.Bool.{true, false, ◌&&◌, true≢false}
use mathlib.Core.List.{List, [], ◌∷◌, ◌++◌, append-nil}
use lib.ListN.{drop}
use borrow.Author.Tests.{ne_eqb}
use Rattle.base.specs.Lists.{Each, rest, is_empty}
use Rattle.base.proofs.Bools.{by_cases, and_both}
use Rattle.base.proofs.ListsLaws.{each_append}
use Rattle.model.specs.Kinds.{Uses, uses, Kind, KindWord, kind, no_kind, kind_of}
use Rattle.model.specs.Call.{Words, words_of}
use Rattle.model.specs.Listing.{fields_after, line}
use Rattle.runfile.specs.InRange.{Small}
use Rattle.story.specs.Fields.{first_field, line_length}
use Rattle.story.specs.Keywords.{kind_word, raw_word, raw_number, hall_number, word_number}
use Rattle.story.specs.Printing.{can_tell, has_line, arg_fields, kind_fields, raw_fields, action_text}
use Rattle.story.specs.Parsing.{Line, blank, action, wrong, Taken, take_word, TakenFour, take_four, kind_line, raw_line, line_from, line_of}
use Rattle.story.proofs.FieldsLaws.{Field, fields-line, drop-line}
use Rattle.story.proofs.KeywordsLaws.{kind-named, raw-number, raw-field}
use Rattle.story.proofs.TakingLaws.{took, take-arg, arg-fields, take-four, raw-fields}

-- ## A line of fields

-- the text t is a line of fields that says l
pub record Tells (t : List ℕ) (l : Line) : Type 0 where
  pub first : List ℕ
  pub others : List (List ℕ)
  pub text : t ≡ line first others
  pub field : Field first
  pub fields : Each Field others
  pub says : line_from (word_number first) others ≡ l

module _ (t : List ℕ) (l : Line) (h : Tells t l) (tail : List ℕ) where
  pub line_read : line_of (t ++ tail) ≡ l
  unfolding line_of is_empty first_field rest
  line_read =
      ap (λ (u : List ℕ). line_of (u ++ tail)) h.text
      ∙ ap
      (λ (fs : List (List ℕ)). elim (is_empty fs) [ true ↦ blank | false ↦ line_from (word_number (first_field fs)) (rest fs) ])
      (fields-line h.first h.others tail h.field h.fields)
      ∙ h.says

  pub line-dropped : drop (line_length (t ++ tail)) (t ++ tail) ≡ tail
  line-dropped = rw h.text (drop-line h.first h.others tail h.field h.fields)

-- it has a byte
pub line-some : (t : List ℕ) (l : Line) → Tells t l → is_empty t ≡ false
unfolding line is_empty
line-some t l h = ap is_empty h.text ∙ go h.first h.field.some
  where
    go : (f : List ℕ) → is_empty f ≡ false → is_empty (f ++ fields_after h.others) ≡ false
    go [] e = absurd (true≢false e)
    go (b ∷ bs) e = refl

-- ## Actions

-- the fields of a kind's line
module _ (k : ℕ) (u : Uses) (r a b : ℕ) (hr : r < 2 ^ 32) (ha : a < 2 ^ 32) (hb : b < 2 ^ 32)
    (tr : can_tell u.r r ≡ true) (ta : can_tell u.a a ≡ true) (tb : can_tell u.b b ≡ true) where
  -- those after R, and after A
  abbrev after_r : List (List ℕ)
  after_r = arg_fields u.a a ++ arg_fields u.b b

  abbrev line_with : Taken → Taken → Taken → Line
  line_with r a b =
      elim (r.ok && (a.ok && (b.ok && is_empty b.left))) [
        | true ↦ action (words_of k r.number a.number b.number)
        | false ↦ wrong k
      ]

  last : take_word u.b (arg_fields u.b b) ≡ took b []
  last = ap (take_word u.b) (sym (append-nil (arg_fields u.b b))) ∙ take-arg b hb u.b [] tb

  kind-line : kind_line k u (arg_fields u.r r ++ after_r) ≡ action (words_of k r a b)
  unfolding kind_line is_empty
  kind-line =
      ap
      (λ (x : Taken).
      let y = take_word u.a x.left in
      line_with x y (take_word u.b y.left))
      (take-arg r hr u.r after_r tr)
      ∙ ap (λ (y : Taken). line_with (took r after_r) y (take_word u.b y.left)) (take-arg a ha u.a (arg_fields u.b b) ta)
      ∙ ap (line_with (took r after_r) (took a (arg_fields u.b b))) last

  kind-fields : Each Field (arg_fields u.r r ++ after_r)
  kind-fields =
      each_append Field (arg_fields u.r r) after_r (arg-fields r hr u.r tr)
      (each_append Field (arg_fields u.a a) (arg_fields u.b b) (arg-fields a ha u.a ta) (arg-fields b hb u.b tb))

line-kind : (k : ℕ) (κ : Kind) (fs : List (List ℕ)) → kind_of k ≡ kind κ → k < raw_number → line_from k fs ≡ kind_line k (uses κ) fs
unfolding line_from
line-kind k κ fs e h =
    let x = ne_eqb k hall_number (λ z. omega arith) in
    let y = ne_eqb k raw_number (λ z. omega arith) in
    rw (x, line_from, y, e)

raw-line : (w : Words) → Small w → raw_line (raw_fields w) ≡ action w
unfolding raw_line is_empty
raw-line w h =
    ap (λ (x : TakenFour). elim (x.ok && is_empty x.left) [ true ↦ action x.words | false ↦ wrong raw_number ])
    (ap take_four (sym (append-nil (raw_fields w))) ∙ take-four w h [])

module _ (w : Words) (h : Small w) where
  -- a line of its kind
  by_kind : (κ : Kind) → kind_of w.k ≡ kind κ → has_line w ≡ true → Tells (line (kind_word w.k) (kind_fields w)) (action w)
  unfolding has_line kind_fields
  by_kind κ e t =
      let u = uses κ in
      let n = kind-named w.k κ e in
      let p = and_both (can_tell u.r w.r) (can_tell u.a w.a && can_tell u.b w.b) (rw (e, has_line) at t) in
      let q = and_both (can_tell u.a w.a) (can_tell u.b w.b) p.1 in
      let fs : List (List ℕ) = arg_fields u.r w.r ++ (arg_fields u.a w.a ++ arg_fields u.b w.b) in
      record {
        first = kind_word w.k;
        others = fs;
        text = rw (e, kind_fields);
        field = n.field;
        fields = kind-fields w.k u w.r w.a w.b h.r h.a h.b p.0 q.0 q.1;
        says =
            ap (λ (k : ℕ). line_from k fs) n.number
            ∙ line-kind w.k κ fs e n.below
            ∙ kind-line w.k u w.r w.a w.b h.r h.a h.b p.0 q.0 q.1;
      }

  has-kind : (x : KindWord) → kind_of w.k ≡ x → has_line w ≡ true → Tells (line (kind_word w.k) (kind_fields w)) (action w)
  unfolding has_line
  has-kind (kind κ) e t = by_kind κ e t
  has-kind no_kind e t = absurd (true≢false (sym (rw (e, has_line) at t)))

  -- `raw`
  by-words : Tells (line raw_word (raw_fields w)) (action w)
  unfolding line_from
  by-words =
      record {
        first = raw_word;
        others = raw_fields w;
        text = refl;
        field = raw-field;
        fields = raw-fields w h;
        says = ap (λ (k : ℕ). line_from k (raw_fields w)) raw-number ∙ raw-line w h;
      }

  pub tells-action : Tells (action_text w) (action w)
  unfolding action_text
  tells-action =
      by_cases (has_line w) (λ t. rw (t, action_text) (has-kind (kind_of w.k) refl t)) (λ t. rw (t, action_text) by-words)
