-- Stored forms: how a value stands in a fixed number of bytes. Assumes nothing.
use Rattle.std.specs.Prelude.{ℕ, ◌≡◌, Bool, true, ◌&&◌, List}

-- a stored form of A in n bytes. `valid` says which n bytes are a stored A, `ok` which values have a form.
-- Both decode and encode are total; they mean something only where valid and ok hold.
pub record Form (A : Type 0) (n : ℕ) : Type 1 where
  pub encode : A → List ℕ
  pub decode : List ℕ → A
  pub valid : List ℕ → Bool
  pub ok : A → Type 0

module _ {A B : Type 0} {n : ℕ} where
  -- F's bytes, read as another type: `to` and `from` go between the two
  unfoldable pub mapped : Form A n → (A → B) → (B → A) → (B → Type 0) → Form B n
  mapped F to from ok =
      record {
        encode = λ x. F.encode (from x);
        decode = λ b. to (F.decode b);
        valid = F.valid;
        ok = ok;
      }

module _ {A B : Type 0} {n : ℕ} (F : Form A n) (to : A → B) (from : B → A) where
  -- the same under other names, as for a record and the pairs of its fields: `to` and `from` undo one another everywhere
  unfoldable pub renamed : Form B n
  renamed = mapped F to from (λ x. F.ok (from x))

module _ {A : Type 0} {n : ℕ} where
  -- F, with one more test on the value
  unfoldable pub guarded : Form A n → (A → Bool) → Form A n
  guarded F p =
      record {
        encode = F.encode;
        decode = F.decode;
        valid = λ b. F.valid b && p (F.decode b);
        ok = λ a. F.ok a × (p a ≡ true);
      }
