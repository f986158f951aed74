-- A value at the start of a slice that may be longer: only the first bytes are read, and a piece is written among them.
-- Assumes nothing.
use Rattle.std.specs.Prelude.{ℕ, ◌≤◌, ◌≡◌, Bool, true, ◌&&◌, List, leb, length, take}
use Rattle.std.proofs.Math.Pow.{are_bytes}
use Rattle.codec.specs.Bytes.{Block}
use Rattle.codec.specs.Form.{Form}

module _ {A : Type 0} {n : ℕ} (F : Form A n) where
  -- do the first n bytes of the slice b hold a value?
  unfoldable pub holds : List ℕ → Bool
  holds b = leb n (length b) && (are_bytes (take n b) && F.valid (take n b))

  -- the value that they hold
  unfoldable pub value_of : List ℕ → A
  value_of b = F.decode (take n b)

  pub record Held (b : List ℕ) : Type 0 where
    pub long : n ≤ length b
    pub block : Block n (take n b)
    pub valid : F.valid (take n b) ≡ true
