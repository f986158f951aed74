-- Cells: values of one form, one after the other. Assumes nothing.
use Rattle.std.specs.Prelude.{ℕ, zero, suc, ◌-◌, ◌*◌, ◌≡◌, Bool, true, ◌&&◌, List, [], ◌∷◌, ◌++◌, length, take, drop}
use Rattle.base.specs.Lists.{Each}
use Rattle.codec.specs.Bytes.{zeros, all_zero}
use Rattle.codec.specs.Form.{Form}

module _ {A : Type 0} {k : ℕ} (F : Form A k) where
  -- the bytes of each value, in turn
  unfoldable pub encode_all : List A → List ℕ
  encode_all [] = []
  encode_all (x ∷ xs) = F.encode x ++ encode_all xs

  -- the values of the first m cells
  unfoldable pub decode_all : ℕ → List ℕ → List A
  decode_all zero b = []
  decode_all (suc m) b = F.decode (take k b) ∷ decode_all m (drop k b)

  -- is each of the first m cells valid?
  unfoldable pub valid_all : ℕ → List ℕ → Bool
  valid_all zero b = true
  valid_all (suc m) b = F.valid (take k b) && valid_all m (drop k b)

  -- n cells: the first m hold values, the others are blank, all zero bytes
  unfoldable pub cells : (m n : ℕ) → Form (List A) (n * k)
  cells m n =
      record {
        encode = λ xs. encode_all xs ++ zeros ((n - m) * k);
        decode = decode_all m;
        valid = λ b. valid_all m b && all_zero (drop (m * k) b);
        ok = λ xs. (length xs ≡ m) × Each F.ok xs;
      }
