-- A field that is a number.
-- Assumes nothing.
use Rattle.std.specs.Prelude.{ℕ, ◌+◌, ◌-◌, ◌*◌, ◌^◌, Bool, true, false, ◌&&◌, List, [], ◌∷◌, ltb}
use Rattle.base.specs.Numbers.{within}

-- what a field is read as: whether it has the form asked for, and its number, else 0
pub record Value : Type 0 where
  pub ok : Bool
  pub number : ℕ

abbrev pub value : ℕ → Value
value n = record { ok = true; number = n }

abbrev pub no_value : Value
no_value = record { ok = false; number = 0 }

-- one decimal digit more after those of n
abbrev pub with_digit : ℕ → ℕ → ℕ
with_digit n b = 10 * n + (b - 48)

-- is b a digit, and the number with it still a word of 32 bits?
unfoldable pub goes_on : ℕ → ℕ → Bool
goes_on n b = within 48 57 b && ltb (with_digit n b) (2 ^ 32)

-- the number that digits make after those of n
unfoldable pub digits_from : ℕ → List ℕ → Value
digits_from n [] = value n
digits_from n (b ∷ bs) = elim (goes_on n b) [ true ↦ digits_from (with_digit n b) bs | false ↦ no_value ]

-- a number: decimal digits, at least one, below 2^32
unfoldable pub number_of : List ℕ → Value
number_of [] = no_value
number_of (b ∷ bs) = digits_from 0 (b ∷ bs)
