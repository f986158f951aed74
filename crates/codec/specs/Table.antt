-- Tables: a function stored by its values at a list of keys, with a default at every other number.
-- Assumes nothing.
use Rattle.std.specs.Prelude.{ℕ, suc, ◌*◌, ◌≡◌, Bool, false, cond, List, [], ◌∷◌, map, eqb, length}
unfoldable pub use Rattle.base.specs.Lists.{has}
use Rattle.codec.specs.Form.{Form, mapped}
use Rattle.codec.specs.Number.{flag}
use Rattle.base.specs.Lists.{Each}
use Rattle.codec.specs.Cells.{cells}
use Rattle.base.specs.Numbers.{numbers}

-- the index of k among the keys, their number if it is none
unfoldable pub index_of : List ℕ → ℕ → ℕ
index_of [] k = 0
index_of (y ∷ ys) k = cond (eqb k y) 0 (suc (index_of ys k))

module _ {A : Type 0} where
  -- the value that the table xs has at k
  unfoldable pub lookup : List ℕ → A → List A → ℕ → A
  lookup [] d xs k = d
  lookup (y ∷ ys) d [] k = d
  lookup (y ∷ ys) d (x ∷ xs) k = cond (eqb k y) x (lookup ys d xs k)

module _ {A : Type 0} {k : ℕ} (F : Form A k) (ks : List ℕ) (n : ℕ) (d : A) where
  -- the values at the keys are ok, and every other is d
  pub record Tabled (f : ℕ → A) : Type 0 where
    pub inside : Each F.ok (map f ks)
    pub outside : (j : ℕ) → has ks j ≡ false → f j ≡ d

  -- a function in n cells, of which the first hold its values at the keys and the others are blank
  unfoldable pub table : Form (ℕ → A) (n * k)
  table = mapped (cells F (length ks) n) (lookup ks d) (λ f. map f ks) Tabled

-- a set of numbers 1 .. n, by its test: a flag for each
unfoldable pub flags : (n : ℕ) → Form (ℕ → Bool) (n * 1)
flags n = table flag (numbers 1 n) n false
