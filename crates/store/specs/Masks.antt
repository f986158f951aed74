-- A set of recorders, stored as its mask in a byte. Assumes nothing.
use Rattle.std.specs.Prelude.{ℕ, ◌-◌, ◌^◌, ◌≡◌, true, List, []}
use Rattle.base.specs.Lists.{rising}
use Rattle.quorum.specs.Sets.{members, mask}
use Rattle.model.specs.Hall.{max_recorders}
use Rattle.codec.specs.Form.{Form, mapped}
use Rattle.codec.specs.Number.{byte}
use Rattle.store.specs.Valid.{EachIn}

-- a rising list within 1 to n
abbrev pub SetOf : ℕ → List ℕ → Type 0
SetOf n xs = (rising 0 xs ≡ true) × EachIn n xs

-- "sets not empty and within N"
abbrev pub ViewSet : ℕ → List ℕ → Type 0
ViewSet n xs = SetOf n xs × (xs ≡ [] → ⊥)

-- the mask of all recorders that a hall may have
abbrev pub full_mask : ℕ
full_mask = 2 ^ max_recorders - 1

-- a view's set, as its mask: one byte
unfoldable pub set_form : ℕ → Form (List ℕ) 1
set_form n = mapped (byte 1 (2 ^ n - 1)) (members n) mask (ViewSet n)
