-- Laws of the fields and the length of a line. Assumes nothing.
use Prim.Native.Nat.{ℕ, suc, ◌+◌}
use native.Mathlib.Omega.{arith}
use mathlib.Core.Path.{◌≡◌, refl, sym, ap, ◌∙◌}
use mathlib.Core.Bool.{true, false, true≢false}
use mathlib.Core.List.{List, [], ◌∷◌, ◌++◌, append_assoc}
use lib.Dec.{eqb}
use lib.ListN.{length, drop, length-append}
use lib.Seq.{drop_at}
use borrow.Author.Tests.{eqb-true}
use Rattle.base.specs.Lists.{Each, any, is_empty}
use Rattle.base.proofs.Bools.{by_cases, or-none}
use Rattle.model.specs.Listing.{fields_after, line}
use Rattle.story.specs.Fields.{is_blank, is_end, is_break, breaks, onto, fields_in, line_length}

-- ## Fields

-- no byte ends a field
abbrev pub Unbroken : List ℕ → Type 0
Unbroken = Each (λ (b : ℕ). is_break b ≡ false)

-- at least one byte, and none that ends a field
pub record Field (f : List ℕ) : Type 0 where
  pub some : is_empty f ≡ false
  pub unbroken : Unbroken f

-- the same, computed
pub unbroken-any : (f : List ℕ) → any is_break f ≡ false → Unbroken f
unfolding any
unbroken-any [] e = tt
unbroken-any (b ∷ bs) e = let p = or-none (is_break b) (any is_break bs) e in (p.0, unbroken-any bs p.1)

-- a byte that goes on with a field
module _ (b : ℕ) (e : is_break b ≡ false) where
  no-blank : is_blank b ≡ false
  unfolding is_break
  no-blank = (or-none (is_blank b) (is_end b) e).0

  no_end : is_end b ≡ false
  unfolding is_break
  no_end = (or-none (is_blank b) (is_end b) e).1

  no-newline : eqb b 10 ≡ false
  unfolding is_break is_blank is_end
  no-newline = by_cases (eqb b 10) (λ t. absurd (true≢false (sym (ap is_break (eqb-true b 10 t)) ∙ e))) (λ t. t)

  -- the last byte of a field, and one before others
  fields-last : (bs : List ℕ) → breaks bs ≡ true → fields_in (b ∷ bs) ≡ (b ∷ []) ∷ fields_in bs
  unfolding fields_in
  fields-last bs t = rw (no_end, fields_in, no-blank, t)

  fields-more : (bs : List ℕ) → breaks bs ≡ false → fields_in (b ∷ bs) ≡ onto b (fields_in bs)
  unfolding fields_in
  fields-more bs t = rw (no_end, fields_in, no-blank, t)

-- a field before a break
pub fields-cons : (f rest : List ℕ) → Field f → breaks rest ≡ true → fields_in (f ++ rest) ≡ f ∷ fields_in rest
unfolding is_empty breaks onto
fields-cons [] rest h t = absurd (true≢false h.some)
fields-cons (b ∷ []) rest h t = fields-last b h.unbroken.0 rest t
fields-cons (b ∷ c ∷ bs) rest h t =
    fields-more b h.unbroken.0 (c ∷ (bs ++ rest)) h.unbroken.1.0
    ∙ ap (onto b) (fields-cons (c ∷ bs) rest (record { some = refl; unbroken = h.unbroken.1 }) t)

-- ## A line of fields

-- what stands after a field ends it
breaks-after : (fs : List (List ℕ)) (tail : List ℕ) → breaks (fields_after fs ++ tail) ≡ true
unfolding breaks fields_after is_break is_blank is_end
breaks-after [] tail = refl
breaks-after (f ∷ fs) tail = refl

fields-after : (fs : List (List ℕ)) (tail : List ℕ) → Each Field fs → fields_in (fields_after fs ++ tail) ≡ fs
unfolding fields_in fields_after is_blank is_end
fields-after [] tail h = refl
fields-after (f ∷ fs) tail h =
    ap fields_in (append_assoc f (fields_after fs) tail)
    ∙ fields-cons f (fields_after fs ++ tail) h.0 (breaks-after fs tail)
    ∙ ap (λ (gs : List (List ℕ)). f ∷ gs) (fields-after fs tail h.1)

pub fields-line : (f : List ℕ) (fs : List (List ℕ)) (tail : List ℕ) → Field f → Each Field fs → fields_in (line f fs ++ tail) ≡ f ∷ fs
unfolding line
fields-line f fs tail h k =
    ap fields_in (append_assoc f (fields_after fs) tail)
    ∙ fields-cons f (fields_after fs ++ tail) h (breaks-after fs tail)
    ∙ ap (λ (gs : List (List ℕ)). f ∷ gs) (fields-after fs tail k)

-- ## Its length

length-field : (f rest : List ℕ) → Unbroken f → line_length (f ++ rest) ≡ length f + line_length rest
unfolding line_length
length-field [] rest h = omega arith
length-field (b ∷ bs) rest h = rw (no-newline b h.0, line_length) (omega (arith, length-field bs rest h.1))

length-after : (fs : List (List ℕ)) (tail : List ℕ) → Each Field fs → line_length (fields_after fs ++ tail) ≡ length (fields_after fs)
unfolding line_length fields_after
length-after [] tail h = refl
length-after (f ∷ fs) tail h =
    ap (λ (l : List ℕ). suc (line_length l)) (append_assoc f (fields_after fs) tail)
    ∙ omega (arith, length-field f (fields_after fs ++ tail) h.0.unbroken, length-after fs tail h.1, length-append f (fields_after fs))

module _ (f : List ℕ) (fs : List (List ℕ)) (tail : List ℕ) (h : Field f) (k : Each Field fs) where
  pub length-line : line_length (line f fs ++ tail) ≡ length (line f fs)
  unfolding line
  length-line =
      ap line_length (append_assoc f (fields_after fs) tail)
      ∙ omega (arith, length-field f (fields_after fs ++ tail) h.unbroken, length-after fs tail k, length-append f (fields_after fs))

  -- what is left after it
  pub drop-line : drop (line_length (line f fs ++ tail)) (line f fs ++ tail) ≡ tail
  drop-line = drop_at (line f fs) tail (line_length (line f fs ++ tail)) (sym length-line)
