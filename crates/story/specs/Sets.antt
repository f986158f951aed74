-- A field that is a set of recorders: `{1,3}`.
-- Assumes nothing.
use Rattle.std.specs.Prelude.{ℕ, zero, suc, ◌+◌, ◌-◌, ◌%◌, ◌^◌, Bool, true, false, not, ◌&&◌, List, [], ◌∷◌, ◌++◌, eqb}
use Rattle.base.specs.Lists.{is_empty}
use Rattle.base.specs.Numbers.{within}
use Rattle.quorum.specs.Sets.{in_mask}
use Rattle.story.specs.Numbers.{Value, value, no_value}

-- ## Printed

-- recorder i, if it is in the set with mask m: its digit, after a comma where a lower one is in the set too
unfoldable pub member_text : ℕ → ℕ → List ℕ
member_text m i =
    elim (in_mask m i) [
      | true ↦ elim (eqb (m % 2 ^ (i - 1)) 0) [ true ↦ (48 + i) ∷ [] | false ↦ 44 ∷ (48 + i) ∷ [] ]
      | false ↦ []
    ]

-- the members among recorders 1 to i, rising
unfoldable pub members_text : ℕ → ℕ → List ℕ
members_text m zero = []
members_text m (suc i) = members_text m i ++ member_text m (suc i)

-- the set with mask m, of recorders 1 to 8
unfoldable pub set_text : ℕ → List ℕ
set_text m = 123 ∷ (members_text m 8 ++ (125 ∷ []))

-- ## Read

-- is b the digit of a recorder, 1 to 8, that is not in the set with mask m?
unfoldable pub joins : ℕ → ℕ → Bool
joins m b = within 49 56 b && not (in_mask m (b - 48))

-- the set with that recorder
abbrev pub with_member : ℕ → ℕ → ℕ
with_member m b = m + 2 ^ (b - 49)

-- the members after those of m, each with the byte after it: a comma, or `}` at the end
unfoldable pub members_from : ℕ → List ℕ → Value
members_from m [] = no_value
members_from m (b ∷ []) = no_value
members_from m (b ∷ c ∷ bs) =
    elim (joins m b) [
      | true ↦
          elim (eqb c 44) [
            | true ↦ members_from (with_member m b) bs
            | false ↦ elim (eqb c 125 && is_empty bs) [ true ↦ value (with_member m b) | false ↦ no_value ]
          ]
      | false ↦ no_value
    ]

-- what stands after `{`: `}` alone, or members
unfoldable pub set_from : List ℕ → Value
set_from bs = elim (is_closed bs) [ true ↦ value 0 | false ↦ members_from 0 bs ]
  where
    is_closed : List ℕ → Bool
    is_closed [] = false
    is_closed (b ∷ bs) = eqb b 125 && is_empty bs

-- a set in braces
unfoldable pub set_of : List ℕ → Value
set_of [] = no_value
set_of (b ∷ bs) = elim (eqb b 123) [ true ↦ set_from bs | false ↦ no_value ]
