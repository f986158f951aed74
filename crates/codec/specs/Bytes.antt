-- Blocks of bytes. Assumes nothing.
use Rattle.std.specs.Prelude.{ℕ, ◌<◌, ◌≡◌, Bool, true, false, ◌&&◌, List, [], ◌∷◌, eqb, length, get_or, take, drop, replicate}

-- b is n bytes: n numbers, each below 256
pub record Block (n : ℕ) (b : List ℕ) : Type 0 where
  pub len : length b ≡ n
  pub byte : (i : ℕ) → get_or b i 0 < 256

-- the n bytes of b from offset o
abbrev pub part : ℕ → ℕ → List ℕ → List ℕ
part o n b = take n (drop o b)

-- n zero bytes
abbrev pub zeros : ℕ → List ℕ
zeros n = replicate n 0

-- is every byte of b 0?
unfoldable pub all_zero : List ℕ → Bool
all_zero [] = true
all_zero (x ∷ xs) = eqb x 0 && all_zero xs

-- are the bytes of a those of b?
unfoldable pub same_bytes : List ℕ → List ℕ → Bool
same_bytes [] [] = true
same_bytes [] (y ∷ ys) = false
same_bytes (x ∷ xs) [] = false
same_bytes (x ∷ xs) (y ∷ ys) = eqb x y && same_bytes xs ys
