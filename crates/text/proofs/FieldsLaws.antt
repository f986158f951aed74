-- Laws of specs/Fields. Assumes nothing.
use Prim.Native.Nat.{ℕ, suc, ◌+◌}
use native.Mathlib.Omega.{arith}
use mathlib.Core.Path.{◌≡◌, refl, ap}
use mathlib.Core.List.{List, [], ◌∷◌, ◌++◌}
use lib.ListN.{length, length-append}
use Rattle.model.specs.Listing.{decimal, fields_after, line, label_text}

pub length-close : length (fields_after []) ≡ 1
unfolding fields_after
length-close = refl

pub length_fields : (f : List ℕ) (fs : List (List ℕ)) → length (fields_after (f ∷ fs)) ≡ suc (length f + length (fields_after fs))
unfolding fields_after
length_fields f fs = ap suc (length-append f (fields_after fs))

pub length-line : (f : List ℕ) (fs : List (List ℕ)) → length (line f fs) ≡ length f + length (fields_after fs)
unfolding line
length-line f fs = length-append f (fields_after fs)

pub length_label : (view seq sender : ℕ)
    → length (label_text view seq sender) ≡ length (decimal view) + (1 + (length (decimal seq) + (1 + length (decimal sender))))
unfolding label_text
length_label view seq sender =
    omega (arith, length-append (decimal view) (46 ∷ (decimal seq ++ (46 ∷ decimal sender))), length-append (decimal seq) (46 ∷ decimal sender))
