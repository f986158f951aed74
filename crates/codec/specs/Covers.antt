-- Two lists that differ in two parts alone. Assumes nothing.
use Rattle.std.specs.Prelude.{ℕ, ◌+◌, ◌≤◌, ◌<◌, ◌≡◌, ◌⊎◌, List, length, get_or}

-- j is outside the n places from o on
abbrev pub Outside : ℕ → ℕ → ℕ → Type 0
Outside o n j = (j < o) ⊎ (o + n ≤ j)

-- c differs from b in the n places from o on and the m places from u on alone; both are places of b
pub record Covers (b c : List ℕ) (o n u m : ℕ) : Type 0 where
  pub first : o + n ≤ length b
  pub second : u + m ≤ length b
  pub long : length c ≡ length b
  pub same : (j : ℕ) → Outside o n j → Outside u m j → get_or c j 0 ≡ get_or b j 0
