-- Text written at an offset of a buffer, piece by piece; and its length.
-- Assumes nothing.
use Rattle.std.specs.Prelude.{ℕ, ◌+◌, ◌≤◌, ◌≡◌, List, length}
use Rattle.std.proofs.lemmas.List.Edits.{sets}

-- the text xs has room in b at the offset o
pub record Room (b : List ℕ) (o : ℕ) (xs : List ℕ) : Type 0 where
  pub fits : o + length xs ≤ length b

-- a is b with the text xs at the offset o, and n is the offset after it
pub record Wrote (b : List ℕ) (o : ℕ) (xs a : List ℕ) (n : ℕ) : Type 0 where
  pub bytes : a ≡ sets b o xs
  pub next : n ≡ o + length xs

-- n is the length of xs, and at most max
pub record Sized (xs : List ℕ) (max n : ℕ) : Type 0 where
  pub is : n ≡ length xs
  pub within : n ≤ max
