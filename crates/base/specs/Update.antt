-- Functions of a number, changed at one place.
-- Assumes nothing.
use Rattle.std.specs.Prelude.{ℕ, true, false, eqb}

-- f with the value x at p
unfoldable pub upd : {A : Type 0} → (ℕ → A) → ℕ → A → ℕ → A
upd f p x q = elim (eqb q p) [ true ↦ x | false ↦ f q ]

-- f with the value x at p and g
unfoldable pub upd₂ : {A : Type 0} → (ℕ → ℕ → A) → ℕ → ℕ → A → ℕ → ℕ → A
upd₂ f p g x = upd f p (upd (f p) g x)
