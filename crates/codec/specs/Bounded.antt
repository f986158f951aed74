-- Bounded lists: a count, then a fixed number of places, of which those past the count are all zero bytes.
-- Assumes nothing.
use Rattle.std.specs.Prelude.{ℕ, ◌+◌, ◌*◌, ◌≤◌, List, [], ◌∷◌, length}
use Rattle.std.proofs.Math.Option.{Option, none, some}
use Rattle.codec.specs.Form.{Form, mapped}
use Rattle.codec.specs.Number.{number}
use Rattle.codec.specs.Pair.{given}
use Rattle.base.specs.Lists.{Each}
use Rattle.codec.specs.Cells.{cells}

-- at most cap elements, each with P. These are the bounds of a list of any capacity.
abbrev pub Within : {A : Type 0} → (A → Type 0) → ℕ → List A → Type 0
Within P cap xs = (length xs ≤ cap) × Each P xs

module _ {A : Type 0} {k : ℕ} (n : ℕ) (F : Form A k) (cap : ℕ) where
  -- the count, in n bytes, and the cells that it says are in use
  abbrev pub counted : Form (ℕ × List A) (n + cap * k)
  counted = given (number n 0 0 cap) (λ m. cells F m cap)

  -- a list of at most cap values
  abbrev pub listed : Form (List A) (n + cap * k)
  listed = mapped counted (λ p. p.1) (λ xs. (length xs, xs)) (Within F.ok cap)

module _ {A : Type 0} {k : ℕ} (F : Form A k) (cap : ℕ) where
  -- a list of at most cap values, its count in one byte
  unfoldable pub bounded : Form (List A) (1 + cap * k)
  bounded = listed 1 F cap

-- a value or none: a list of at most one
module _ {A : Type 0} {k : ℕ} (F : Form A k) where
  abbrev pub Maybe : Option A → Type 0
  Maybe none = Unit {0}
  Maybe (some a) = F.ok a

  abbrev pub to_option : List A → Option A
  to_option [] = none
  to_option (x ∷ xs) = some x

  abbrev pub from_option : Option A → List A
  from_option none = []
  from_option (some a) = a ∷ []

  unfoldable pub optional : Form (Option A) (1 + 1 * k)
  optional = mapped (bounded F 1) to_option from_option Maybe
