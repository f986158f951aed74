-- Chains of refusals.
-- Assumes nothing.
use Rattle.std.specs.Prelude.{ℕ, Bool, true, false, eqb}

-- Refusals are numbers, 0 for none. `refuse t k`: k if the condition t holds.
unfoldable pub refuse : Bool → ℕ → ℕ
refuse t k = elim t [ true ↦ k | false ↦ 0 ]

-- the first refusal of a chain: conditions are tested in the order written
infixr 20 ◌⨾◌
unfoldable pub ◌⨾◌ : ℕ → ℕ → ℕ
a ⨾ b = elim (eqb a 0) [ true ↦ b | false ↦ a ]
