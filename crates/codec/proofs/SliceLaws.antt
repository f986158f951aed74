-- Laws of specs/Slice. Assumes nothing.
use Prim.Native.Nat.{ℕ, zero, suc, ◌+◌, ◌≤◌, ◌<◌}
use native.Mathlib.Omega.{arith}
use mathlib.Core.Path.{◌≡◌, refl, sym, ap, ap₂, ◌∙◌}
use mathlib.Core.Bool.{true, ◌&&◌, and-eq-true_iff}
use mathlib.Core.List.{List, [], ◌∷◌, ◌++◌, append_assoc}
use lib.Dec.{leb, ltb, lit<}
use lib.Pow.{are_bytes}
use lib.ListN.{length, get_or, take, drop, length-append, length-take, take-append-drop}
use lib.Seq.{sets, sets-eq, take-append-le, drop-append-le, take-append-add, drop-append-add, take_at, take-take}
use borrow.Author.Tests.{leb-true, le-leb, ltb-true, lt-ltb}
use Rattle.codec.specs.Bytes.{part}
use Rattle.codec.proofs.BytesLaws.{part-take}
use Rattle.codec.specs.Form.{Form}
use Rattle.codec.proofs.FormLaws.{Lawful}
use Rattle.codec.proofs.Piece.{View, Piece, read-bytes, write_bytes, room}
use Rattle.codec.specs.Slice.{holds, value_of, Held}

pub are_bytes-at : (b : List ℕ) → are_bytes b ≡ true → (i : ℕ) → get_or b i 0 < 256
are_bytes-at [] h i = lit< tt
are_bytes-at (x ∷ xs) h zero = ltb-true x 256 ((and-eq-true_iff (ltb x 256) (are_bytes xs)).0 h).0
are_bytes-at (x ∷ xs) h (suc i) = are_bytes-at xs ((and-eq-true_iff (ltb x 256) (are_bytes xs)).0 h).1 i

pub are_bytes-of : (b : List ℕ) → ((i : ℕ) → get_or b i 0 < 256) → are_bytes b ≡ true
are_bytes-of [] h = refl
are_bytes-of (x ∷ xs) h =
    (and-eq-true_iff (ltb x 256) (are_bytes xs)).1 (lt-ltb x 256 (h zero), are_bytes-of xs (λ i. h (suc i)))

-- a write within the first of two lists
pub sets-append-left : (p q : List ℕ) (o : ℕ) (x : List ℕ) → o + length x ≤ length p → sets (p ++ q) o x ≡ sets p o x ++ q
sets-append-left p q o x h =
    let k : o + length x ≤ length (p ++ q) = simp length-append (omega arith) in
    sets-eq x (p ++ q) o k
    ∙ ap₂ (λ (f b : List ℕ). f ++ x ++ b) (take-append-le o p q (omega arith)) (drop-append-le (o + length x) p q h)
    ∙ sym (append_assoc (take o p ++ x) (drop (o + length x) p) q)
    ∙ ap (λ (z : List ℕ). z ++ q) (sym (sets-eq x p o h))

-- and within the second
pub sets-append-right : (p q : List ℕ) (o : ℕ) (x : List ℕ) → o + length x ≤ length q → sets (p ++ q) (length p + o) x ≡ p ++ sets q o x
sets-append-right p q o x h =
    let k : length p + o + length x ≤ length (p ++ q) = simp length-append (omega arith) in
    let e : length p + o + length x ≡ length p + (o + length x) = omega arith in
    sets-eq x (p ++ q) (length p + o) k
    ∙ ap₂ (λ (f b : List ℕ). f ++ x ++ b) (take-append-add p q o) (ap (λ (j : ℕ). drop j (p ++ q)) e ∙ drop-append-add p q (o + length x))
    ∙ ap (λ (z : List ℕ). z ++ drop (o + length x) q) (append_assoc p (take o q) x)
    ∙ append_assoc p (take o q ++ x) (drop (o + length x) q)
    ∙ ap (λ (z : List ℕ). p ++ z) (sym (sets-eq x q o h))

module _ {A : Type 0} {n : ℕ} (F : Form A n) where
  pub held : (b : List ℕ) → holds F b ≡ true → Held F b
  unfolding holds
  held b h =
      let p = (and-eq-true_iff (leb n (length b)) (are_bytes (take n b) && F.valid (take n b))).0 h in
      let q = (and-eq-true_iff (are_bytes (take n b)) (F.valid (take n b))).0 p.1 in
      let l = leb-true n (length b) p.0 in
      record {
        long = l;
        block = record { len = length-take n b ∙ omega arith; byte = are_bytes-at (take n b) q.0 };
        valid = q.1;
      }

  pub holding : (b : List ℕ) → Held F b → holds F b ≡ true
  unfolding holds
  holding b h =
      (and-eq-true_iff (leb n (length b)) (are_bytes (take n b) && F.valid (take n b))).1 (
        le-leb n (length b) h.long,
        (and-eq-true_iff (are_bytes (take n b)) (F.valid (take n b))).1 (are_bytes-of (take n b) h.block.byte, h.valid),
      )

  -- only the first n bytes are read
  pub holds-first : (b : List ℕ) → n ≤ length b → holds F (take n b) ≡ holds F b
  unfolding holds
  holds-first b l =
      let e : length (take n b) ≡ n = length-take n b ∙ omega arith in
      ap₂ ◌&&◌ (le-leb n (length (take n b)) (omega arith) ∙ sym (le-leb n (length b) l))
      (ap (λ (z : List ℕ). are_bytes z && F.valid z) (take-take n n b (omega arith)))

  pub value_of-first : (b : List ℕ) → value_of F (take n b) ≡ value_of F b
  unfolding value_of
  value_of-first b = ap F.decode (take-take n n b (omega arith))

  module _ (K : Lawful F) where
    module _ (a : A) (o : F.ok a) (rest : List ℕ) where
      first-bytes : take n (F.encode a ++ rest) ≡ F.encode a
      first-bytes = take_at (F.encode a) rest n (K.stored a o).len

      -- a value's bytes hold it, whatever follows
      pub encode-held : Held F (F.encode a ++ rest)
      encode-held =
          record {
            long = simp length-append (omega (arith, (K.stored a o).len));
            block = rw first-bytes (K.stored a o);
            valid = ap F.valid first-bytes ∙ K.accepts a o;
          }

      pub encode-holds : holds F (F.encode a ++ rest) ≡ true
      encode-holds = holding (F.encode a ++ rest) encode-held

      pub value_of-encode : value_of F (F.encode a ++ rest) ≡ a
      unfolding value_of
      value_of-encode = ap F.decode first-bytes ∙ K.back a o

    module _ (b : List ℕ) (h : Held F b) where
      pub value-ok : F.ok (value_of F b)
      unfolding value_of
      value-ok = K.sound (take n b) h.block h.valid

      pub first-encode : F.encode (value_of F b) ≡ take n b
      unfolding value_of
      first-encode = K.forth (take n b) h.block h.valid

      -- the slice is the value's bytes, and what follows
      pub whole-encode : F.encode (value_of F b) ++ drop n b ≡ b
      whole-encode = ap (λ (z : List ℕ). z ++ drop n b) first-encode ∙ take-append-drop n b

-- a piece of the value, read from the slice and written into it
module _ {A B : Type 0} {n m : ℕ} {F : Form A n} {P : Form B m} {o : ℕ} {on : A → Type 0} {get : A → B}
    (K : Lawful F) (L : Lawful P) (b : List ℕ) (h : Held F b) (k : on (value_of F b)) where
  module _ (W : View F P o on get) where
    pub slice-room : o + m ≤ n
    slice-room = room L K W (value_of F b) (value-ok F K b h) k

    pub slice-bytes : part o m b ≡ P.encode (get (value_of F b))
    unfolding value_of
    slice-bytes = sym (part-take o m n b slice-room) ∙ read-bytes L K (take n b) h.block h.valid W k

    pub slice-value : P.decode (part o m b) ≡ get (value_of F b)
    slice-value = ap P.decode slice-bytes ∙ L.back (get (value_of F b)) (W.got (value_of F b) (value-ok F K b h) k)

    pub slice-valid : P.valid (part o m b) ≡ true
    slice-valid = ap P.valid slice-bytes ∙ L.accepts (get (value_of F b)) (W.got (value_of F b) (value-ok F K b h) k)

  pub slice-write : {put : A → B → A} → Piece F P o on get put → (x : B) → P.ok x
      → sets b o (P.encode x) ≡ F.encode (put (value_of F b) x) ++ drop n b
  unfolding value_of
  slice-write Q x g =
      let r = slice-room Q.view in
      let fits : o + length (P.encode x) ≤ length (take n b) = omega (arith, (L.stored x g).len, h.block.len) in
      ap (λ (z : List ℕ). sets z o (P.encode x)) (sym (take-append-drop n b))
      ∙ sets-append-left (take n b) (drop n b) o (P.encode x) fits
      ∙ ap (λ (z : List ℕ). z ++ drop n b) (write_bytes L K (take n b) h.block h.valid Q x k g)
