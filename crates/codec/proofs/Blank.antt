-- Blank values: those that are stored as zero bytes alone. A cell that is not in use yet is blank already,
-- so that one more cell comes into use without a write. Assumes nothing.
use Prim.Native.Nat.{ℕ, zero, suc, ◌+◌, ◌-◌, ◌*◌, ◌≤◌, ◌<◌}
use native.Mathlib.Omega.{arith}
use native.Mathlib.Nat.{add-mul, zero-mul}
use mathlib.Core.Path.{◌≡◌, refl, sym, ap, ap₂, ◌∙◌}
use mathlib.Core.Bool.{false}
use mathlib.Core.List.{List, [], ◌∷◌, ◌++◌, append_assoc}
use mathlib.Core.Option.{none}
use lib.ListN.{length, replicate-append-replicate}
use Rattle.codec.specs.Bytes.{zeros}
use Rattle.codec.specs.Form.{Form, mapped}
use Rattle.codec.proofs.FormLaws.{Lawful}
use Rattle.codec.specs.Number.{digits, number, byte, flag}
use Rattle.codec.specs.Pair.{given}
use Rattle.base.specs.Lists.{Each}
use Rattle.codec.proofs.CellsLaws.{suc-cells, encode_all-nil, encode_all-cons, encode_all-append}
use Rattle.codec.specs.Cells.{encode_all, cells}
use Rattle.codec.specs.Bounded.{bounded, optional}

-- a is stored as zero bytes alone
abbrev pub Blank : {A : Type 0} {n : ℕ} → Form A n → A → Type 0
Blank {n} F a = F.encode a ≡ zeros n

-- zero bytes hold the blank value
pub blank-decode : {A : Type 0} {n : ℕ} {F : Form A n} → Lawful F → (a : A) → F.ok a → Blank F a → F.decode (zeros n) ≡ a
blank-decode {F} L a h e = ap F.decode (sym e) ∙ L.back a h

digits-zero : (n : ℕ) → digits n 0 ≡ zeros n
unfolding digits
digits-zero zero = refl
digits-zero (suc n) = ap (λ (z : List ℕ). 0 ∷ z) (digits-zero n)

pub blank-number : (n off lo hi : ℕ) → Blank (number n off lo hi) off
unfolding number
blank-number n off lo hi =
    let e : off - off ≡ 0 = omega arith in
    ap (digits n) e ∙ digits-zero n

pub blank-flag : Blank flag false
unfolding flag mapped
blank-flag = blank-number 1 0 0 1

pub blank-mapped : {A B : Type 0} {n : ℕ} (F : Form A n) (to : A → B) (from : B → A) (ok : B → Type 0) (x : B)
    → Blank F (from x) → Blank (mapped F to from ok) x
unfolding mapped
blank-mapped F to from ok x e = e

pub blank-given : {A B : Type 0} {m n : ℕ} (H : Form A m) (G : A → Form B n) (a : A) (b : B)
    → Blank H a → Blank (G a) b → Blank (given H G) (a, b)
unfolding given
blank-given {m} {n} H G a b e f = ap₂ ◌++◌ e f ∙ replicate-append-replicate m n 0

module _ {A : Type 0} {k : ℕ} (F : Form A k) where
  blank-all : (xs : List A) → Each (Blank F) xs → encode_all F xs ≡ zeros (length xs * k)
  blank-all [] a = encode_all-nil F ∙ ap zeros (sym (zero-mul k))
  blank-all (x ∷ xs) a =
      encode_all-cons F x xs
      ∙ ap₂ ◌++◌ a.0 (blank-all xs a.1)
      ∙ replicate-append-replicate k (length xs * k) 0
      ∙ ap zeros (sym (suc-cells (length xs) k))

  pub blank-cells : (n : ℕ) (xs : List A) → length xs ≤ n → Each (Blank F) xs → Blank (cells F (length xs) n) xs
  unfolding cells
  blank-cells n xs h a =
      let e : length xs + (n - length xs) ≡ n = omega arith in
      ap (λ (z : List ℕ). z ++ zeros ((n - length xs) * k)) (blank-all xs a)
      ∙ replicate-append-replicate (length xs * k) ((n - length xs) * k) 0
      ∙ ap zeros (sym (add-mul (length xs) (n - length xs) k) ∙ ap (λ (z : ℕ). z * k) e)

  pub blank-bounded : (cap : ℕ) → Blank (bounded F cap) []
  unfolding bounded
  blank-bounded cap =
      blank-mapped _ _ _ _ []
      (blank-given (byte 0 cap) (λ m. cells F m cap) 0 [] (blank-number 1 0 0 cap) (blank-cells cap [] (omega arith) tt))

  pub blank_none : Blank (optional F) none
  unfolding optional
  blank_none = blank-mapped _ _ _ _ none (blank-bounded 1)

  -- the bytes of m cells in use are those of m + 1, of which the last is blank
  pub cells-grow : (m n : ℕ) (xs : List A) (x : A) → m < n → Blank F x
      → (cells F m n).encode xs ≡ (cells F (suc m) n).encode (xs ++ (x ∷ []))
  unfolding cells
  cells-grow m n xs x h e = ap (λ (y : List ℕ). encode_all F xs ++ y) room ∙ sym more
    where
      z : ℕ
      z = (n - suc m) * k

      less : n - m ≡ suc (n - suc m)
      less = omega arith

      room : zeros ((n - m) * k) ≡ F.encode x ++ zeros z
      room =
          ap zeros (ap (λ (j : ℕ). j * k) less ∙ suc-cells (n - suc m) k)
          ∙ sym (replicate-append-replicate k z 0)
          ∙ ap (λ (y : List ℕ). y ++ zeros z) (sym e)

      more : encode_all F (xs ++ (x ∷ [])) ++ zeros z ≡ encode_all F xs ++ (F.encode x ++ zeros z)
      more = simp (encode_all-append, encode_all-cons, encode_all-nil, append_assoc)
