-- Pairs of forms, one after the other. Assumes nothing.
use Rattle.std.specs.Prelude.{ℕ, ◌+◌, ◌&&◌, ◌++◌, take, drop}
use Rattle.codec.specs.Form.{Form}

module _ {A B : Type 0} {m n : ℕ} where
  -- an A, then a B whose form may depend on the A
  unfoldable pub given : Form A m → (A → Form B n) → Form (A × B) (m + n)
  given H G =
      record {
        encode = λ p. H.encode p.0 ++ (G p.0).encode p.1;
        decode = λ b. (H.decode (take m b), (G (H.decode (take m b))).decode (drop m b));
        valid = λ b. H.valid (take m b) && (G (H.decode (take m b))).valid (drop m b);
        ok = λ p. H.ok p.0 × (G p.0).ok p.1;
      }

  -- an A, then a B
  abbrev pub pair : Form A m → Form B n → Form (A × B) (m + n)
  pair H G = given H (λ a. G)
