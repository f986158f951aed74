-- The settle of a slice, by what it holds; the words of its calls have 32 bits. Assumes nothing.
use Prim.Native.Nat.{ℕ, ◌^◌, ◌<◌}
use native.Mathlib.Omega.{arith}
use mathlib.Core.Path.{◌≡◌, refl, ap}
use mathlib.Core.Bool.{Bool, true, false}
use mathlib.Core.List.{List}
use Rattle.base.proofs.Greatest.{greatest-least}
use Rattle.model.specs.Hall.{max_number, Hall}
use Rattle.model.specs.Call.{WordsIn, hl3}
use Rattle.model.specs.Settle.{greatest_view, Settling, refused, settle, calls_taken}
use Rattle.model.proofs.Settling.SettleRun.{settle-words}
use Rattle.store.specs.Valid.{ValidHall}
use Rattle.store.specs.StoredForm.{hall_of, is_stored}
use Rattle.store.proofs.StoredFormLaws.{hall_of-valid}
use Rattle.calls.specs.Calls.{settling_on}

by-held : List ℕ → Bool → Settling
by-held b t = elim t [ true ↦ settle hl3 (hall_of b) | false ↦ refused 31 ]

-- a hall's, or 31
pub settling-held : (b : List ℕ) → is_stored b ≡ true → settling_on b ≡ settle hl3 (hall_of b)
unfolding settling_on by-held
settling-held b s = ap (by-held b) s

pub settling-broken : (b : List ℕ) → is_stored b ≡ false → settling_on b ≡ refused 31
unfolding settling_on by-held
settling-broken b s = ap (by-held b) s

-- a view's number is a 32-bit word
view-word : (h : Hall) → ValidHall h → greatest_view h < 2 ^ 32
unfolding greatest_view
view-word h v = let low = greatest-least (λ g. g) h.service.created max_number v.in_range.views.number_in in omega (arith, low)

pub settle-hall-low : (h : Hall) → ValidHall h → WordsIn (calls_taken (settle hl3 h))
settle-hall-low h v = settle-words hl3 h (view-word h v)

pub settle-low : (b : List ℕ) → WordsIn (calls_taken (settling_on b))
unfolding settling_on calls_taken by-held
settle-low b = go (is_stored b) refl
  where
    go : (t : Bool) → is_stored b ≡ t → WordsIn (calls_taken (by-held b t))
    go true t = settle-hall-low (hall_of b) (hall_of-valid b t)
    go false t = tt
