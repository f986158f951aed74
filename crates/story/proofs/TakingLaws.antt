-- Words told as fields and taken off again, one after another. Assumes nothing.
use Prim.Native.Nat.{ℕ, ◌^◌, ◌<◌}
use mathlib.Core.Path.{◌≡◌, sym, ap}
use mathlib.Core.Bool.{true}
use mathlib.Core.List.{List, ◌∷◌, ◌++◌}
use borrow.Author.Tests.{eqb-true, ltb-true}
use Rattle.base.specs.Lists.{Each, rest}
use Rattle.model.specs.Kinds.{Use, unused, word, recorder, number, set}
use Rattle.model.specs.Call.{Words}
use Rattle.model.specs.Listing.{decimal}
use Rattle.runfile.specs.InRange.{Small}
use Rattle.story.specs.Fields.{first_field}
use Rattle.story.specs.Numbers.{Value, value, number_of}
use Rattle.story.specs.Sets.{set_of}
use Rattle.story.specs.Printing.{can_tell, arg_fields, raw_fields}
use Rattle.story.specs.Parsing.{Taken, take_field, take_word, take_four}
use Rattle.story.proofs.FieldsLaws.{Field}
use Rattle.story.proofs.NumbersLaws.{number-decimal, decimal-field}
use Rattle.story.proofs.SetsLaws.{set_back, set-field}

-- the number n, taken off, with the fields fs after it
abbrev pub took : ℕ → List (List ℕ) → Taken
took n fs = record { ok = true; number = n; left = fs }

pub take-value : (read : List ℕ → Value) (f : List ℕ) (fs : List (List ℕ)) (n : ℕ) → read f ≡ value n → take_field read (f ∷ fs) ≡ took n fs
unfolding take_field first_field rest
take-value read f fs n e = ap (λ (x : Value). record { ok = x.ok; number = x.number; left = fs }) e

pub take-number : (n : ℕ) (fs : List (List ℕ)) → n < 2 ^ 32 → take_field number_of (decimal n ∷ fs) ≡ took n fs
take-number n fs h = take-value number_of (decimal n) fs n (number-decimal n h)

-- ## A word by its use

-- a word that can be told
module _ (w : ℕ) (h : w < 2 ^ 32) where
  pub take-arg : (u : Use) (fs : List (List ℕ)) → can_tell u w ≡ true → take_word u (arg_fields u w ++ fs) ≡ took w fs
  unfolding take_word arg_fields can_tell
  take-arg unused fs t = ap (λ (n : ℕ). took n fs) (sym (eqb-true w 0 t))
  take-arg word fs t = take-number w fs h
  take-arg recorder fs t = take-number w fs h
  take-arg number fs t = take-number w fs h
  take-arg set fs t = take-value set_of _ fs w (set_back w (ltb-true w 256 t))

  pub arg-fields : (u : Use) → can_tell u w ≡ true → Each Field (arg_fields u w)
  unfolding arg_fields can_tell
  arg-fields unused t = tt
  arg-fields word t = (decimal-field w, tt)
  arg-fields recorder t = (decimal-field w, tt)
  arg-fields number t = (decimal-field w, tt)
  arg-fields set t = (set-field w (ltb-true w 256 t), tt)

-- ## Four numbers

module _ (w : Words) (h : Small w) where
  pub take-four : (fs : List (List ℕ)) → take_four (raw_fields w ++ fs) ≡ record { ok = true; words = w; left = fs }
  unfolding take_four take_field first_field rest raw_fields
  take-four fs =
      rw (number-decimal w.k h.k, number-decimal w.r h.r, number-decimal w.a h.a, number-decimal w.b h.b)

  pub raw-fields : Each Field (raw_fields w)
  unfolding raw_fields
  raw-fields = (decimal-field w.k, (decimal-field w.r, (decimal-field w.a, (decimal-field w.b, tt))))
