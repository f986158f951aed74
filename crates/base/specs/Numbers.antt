-- Ranges of numbers.
-- Assumes nothing.
use Rattle.std.specs.Prelude.{ℕ, zero, suc, Bool, ◌&&◌, List, [], ◌∷◌, ◌++◌, leb}

-- is x in the range low to high?
unfoldable pub within : ℕ → ℕ → ℕ → Bool
within low high x = leb low x && leb x high

-- the numbers 1 to n, rising
unfoldable pub up_to : ℕ → List ℕ
up_to zero = []
up_to (suc n) = up_to n ++ (suc n ∷ [])

-- the numbers s, s + 1 and on, n of them; `numbers 1 n` is `up_to n`, the other way round (NumbersLaws)
unfoldable pub numbers : ℕ → ℕ → List ℕ
numbers s zero = []
numbers s (suc n) = s ∷ numbers (suc s) n
