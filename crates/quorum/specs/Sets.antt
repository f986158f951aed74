-- Sets of recorders. 01, "Votes and views": "a set is a mask with bit k-1 for recorder k".
-- Assumes nothing.
use Rattle.std.specs.Prelude.{ℕ, ◌+◌, ◌-◌, ◌/◌, ◌%◌, ◌^◌, Bool, List, [], ◌∷◌, eqb}
use Rattle.base.specs.Lists.{filter}
use Rattle.base.specs.Numbers.{up_to}

-- is recorder k in the set with mask b? bit k-1 says
unfoldable pub in_mask : ℕ → ℕ → Bool
in_mask b k = eqb (b / 2 ^ (k - 1) % 2) 1

-- the members, within 1 to n, of the set with mask b, rising
unfoldable pub members : ℕ → ℕ → List ℕ
members n b = filter (in_mask b) (up_to n)

-- the mask of the set of the listed recorders (each listed once)
unfoldable pub mask : List ℕ → ℕ
mask [] = 0
mask (k ∷ ks) = 2 ^ (k - 1) + mask ks
