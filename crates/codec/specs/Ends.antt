-- The two ends of a byte list: its first byte, the list without it, and the list with one byte more. Assumes nothing.
use Rattle.std.specs.Prelude as std
use Rattle.std.specs.Prelude.{ℕ, List, [], ◌∷◌, Some, None}
use Rattle.std.proofs.Math.Option.{Option, none, some}

-- the first element, if there is one
unfoldable pub first_of : List ℕ → Option ℕ
first_of [] = none
first_of (x ∷ xs) = some x

abbrev pub found_of : std.Option ℕ → Option ℕ
found_of (Some x) = some x
found_of None = none
