-- The test of a cell, apart from what the cell holds. Assumes nothing.
use Rattle.std.specs.Prelude.{ℕ, ◌+◌, ◌*◌, ◌≡◌, Bool, List, []}
use Rattle.codec.specs.Bytes.{part}
use Rattle.codec.specs.Form.{Form}

-- a form of k bytes that says of them only whether they are valid
unfoldable pub tested : (k : ℕ) → (List ℕ → Bool) → Form (Unit {0}) k
tested k test = record { encode = λ x. []; decode = λ b. tt; valid = test; ok = λ x. Unit {0} }

-- of cells of k bytes from offset o of b, what is returned at a cell's offset is what the test says of its bytes
abbrev pub Tests : (ℕ → Bool → Type 0) → (List ℕ → Bool) → (o k : ℕ) → List ℕ → Type 0
Tests returns test o k b = (i : ℕ) (r : Bool) → returns (o + i * k) r → r ≡ test (part (o + i * k) k b)
