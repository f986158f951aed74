-- Laws of specs/Cells. Assumes nothing.
use Prim.Native.Nat.{ℕ, zero, suc, ◌+◌, ◌-◌, ◌*◌, ◌≤◌, ◌<◌}
use native.Mathlib.Omega.{arith}
use native.Mathlib.Nat.{add-mul, suc-mul, zero-mul, one-mul, not-suc-le-zero, le_of_suc-le-suc}
use mathlib.Core.Path.{◌≡◌, refl, sym, ap, ap₂, subst, ◌∙◌}
use mathlib.Core.Bool.{true, ◌&&◌, and-eq-true_iff}
use mathlib.Core.List.{List, [], ◌∷◌, ◌++◌, append_assoc}
use lib.ListN.{length, get_or, take, drop, set, take-append-drop, length-drop}
use Rattle.base.specs.Lists.{Each}
use lib.Seq.{take_at, drop_at, drop-drop, take-add}
use Rattle.codec.specs.Bytes.{Block, zeros, part, all_zero}
use Rattle.codec.proofs.BytesLaws.{all_zero-replicate, all_zero-eq, block-append, block-take, block-drop, block-zeros}
use Rattle.codec.specs.Form.{Form}
use Rattle.codec.proofs.FormLaws.{Lawful}
use Rattle.codec.specs.Cells.{encode_all, decode_all, valid_all, cells}

pub suc-cells : (m k : ℕ) → suc m * k ≡ k + m * k
suc-cells m k = omega (arith, suc-mul m k)

module _ {A : Type 0} (P : A → Type 0) where
  pub Each-get_d : (xs : List A) (i : ℕ) (d : A) → i < length xs → Each P xs → P (get_or xs i d)
  Each-get_d [] i d h a = absurd (not-suc-le-zero h)
  Each-get_d (x ∷ xs) zero d h a = a.0
  Each-get_d (x ∷ xs) (suc i) d h a = Each-get_d xs i d (le_of_suc-le-suc h) a.1

  pub Each-set : (xs : List A) (i : ℕ) (x : A) → Each P xs → P x → Each P (set xs i x)
  Each-set [] i x a p = tt
  Each-set (y ∷ xs) zero x a p = (p, a.1)
  Each-set (y ∷ xs) (suc i) x a p = (a.0, Each-set xs i x a.1 p)

  pub Each-append : (xs ys : List A) → Each P xs → Each P ys → Each P (xs ++ ys)
  Each-append [] ys a b = b
  Each-append (x ∷ xs) ys a b = (a.0, Each-append xs ys a.1 b)

  pub Each-take : (i : ℕ) (xs : List A) → Each P xs → Each P (take i xs)
  Each-take zero xs a = tt
  Each-take (suc i) [] a = tt
  Each-take (suc i) (x ∷ xs) a = (a.0, Each-take i xs a.1)

  pub Each-drop : (i : ℕ) (xs : List A) → Each P xs → Each P (drop i xs)
  Each-drop zero xs a = a
  Each-drop (suc i) [] a = tt
  Each-drop (suc i) (x ∷ xs) a = Each-drop i xs a.1

module _ {A : Type 0} {k : ℕ} (F : Form A k) where
  pub encode_all-nil : encode_all F [] ≡ []
  unfolding encode_all
  encode_all-nil = refl

  pub encode_all-cons : (x : A) (xs : List A) → encode_all F (x ∷ xs) ≡ F.encode x ++ encode_all F xs
  unfolding encode_all
  encode_all-cons x xs = refl

  pub encode_all-append : (xs ys : List A) → encode_all F (xs ++ ys) ≡ encode_all F xs ++ encode_all F ys
  unfolding encode_all
  encode_all-append [] ys = refl
  encode_all-append (x ∷ xs) ys =
      ap (λ (z : List ℕ). F.encode x ++ z) (encode_all-append xs ys) ∙ sym (append_assoc (F.encode x) (encode_all F xs) (encode_all F ys))

  -- a loop over the cells: of m cells those from i on are valid if cell i is and those after it are
  pub valid_all-rest : (m i : ℕ) (b : List ℕ) → i < m
      → valid_all F (m - i) (drop (i * k) b) ≡ F.valid (part (i * k) k b) && valid_all F (m - (i + 1)) (drop ((i + 1) * k) b)
  unfolding valid_all
  valid_all-rest m i b h =
      let n : m - i ≡ suc (m - (i + 1)) = omega arith in
      let o : i * k + k ≡ (i + 1) * k = omega (arith, add-mul i 1 k, one-mul k) in
      ap (λ (j : ℕ). valid_all F j (drop (i * k) b)) n
      ∙ ap (λ (c : List ℕ). F.valid (part (i * k) k b) && valid_all F (m - (i + 1)) c) (drop-drop k (i * k) b ∙ ap (λ (j : ℕ). drop j b) o)

  module _ (L : Lawful F) where
    pub block-encode_all : (xs : List A) → Each F.ok xs → Block (length xs * k) (encode_all F xs)
    unfolding encode_all
    block-encode_all [] h = subst (λ (z : ℕ). Block z []) (sym (zero-mul k)) (block-zeros 0)
    block-encode_all (x ∷ xs) h =
        subst (λ (z : ℕ). Block z (F.encode x ++ encode_all F xs)) (sym (suc-cells (length xs) k))
        (block-append (L.stored x h.0) (block-encode_all xs h.1))

    front : (x : A) (r : List ℕ) → F.ok x → take k (F.encode x ++ r) ≡ F.encode x
    front x r h = take_at (F.encode x) r k (L.stored x h).len

    rear : (x : A) (r : List ℕ) → F.ok x → drop k (F.encode x ++ r) ≡ r
    rear x r h = drop_at (F.encode x) r k (L.stored x h).len

    pub decode_all-encode_all : (xs : List A) (r : List ℕ) → Each F.ok xs → decode_all F (length xs) (encode_all F xs ++ r) ≡ xs
    unfolding encode_all decode_all
    decode_all-encode_all [] r h = refl
    decode_all-encode_all (x ∷ xs) r h =
        rw (append_assoc, front x (encode_all F xs ++ r) h.0, rear x (encode_all F xs ++ r) h.0, L.back x h.0)
        (ap (λ (z : List A). x ∷ z) (decode_all-encode_all xs r h.1))

    pub valid_all-encode_all : (xs : List A) (r : List ℕ) → Each F.ok xs → valid_all F (length xs) (encode_all F xs ++ r) ≡ true
    unfolding encode_all valid_all
    valid_all-encode_all [] r h = refl
    valid_all-encode_all (x ∷ xs) r h =
        rw (append_assoc, front x (encode_all F xs ++ r) h.0, rear x (encode_all F xs ++ r) h.0, L.accepts x h.0)
        (valid_all-encode_all xs r h.1)

    pub length-decode_all : (m : ℕ) (b : List ℕ) → length (decode_all F m b) ≡ m
    unfolding decode_all
    length-decode_all zero b = refl
    length-decode_all (suc m) b = ap suc (length-decode_all m (drop k b))

    -- the first m cells of b, valid, and any bytes after them
    pub valid_all-sound : (m r : ℕ) (b : List ℕ) → Block (m * k + r) b → valid_all F m b ≡ true
        → Each F.ok (decode_all F m b) × (encode_all F (decode_all F m b) ≡ take (m * k) b)
    unfolding valid_all decode_all encode_all
    valid_all-sound zero r b s v = (tt, rw zero-mul)
    valid_all-sound (suc m) r b s v =
        let e = suc-cells m k in
        let s' : Block (k + (m * k + r)) b = subst (λ (z : ℕ). Block z b) (omega arith) s in
        let t = (and-eq-true_iff (F.valid (take k b)) (valid_all F m (drop k b))).0 v in
        let c = block-take k (m * k + r) s' in
        let u = valid_all-sound m r (drop k b) (block-drop k (m * k + r) s') t.1 in (
          (L.sound (take k b) c t.0, u.0),
          ap₂ ◌++◌ (L.forth (take k b) c t.0) u.1 ∙ sym (take-add k (m * k) b) ∙ ap (λ (z : ℕ). take z b) (sym e),
        )

    pub cells-lawful : (m n : ℕ) → m ≤ n → Lawful (cells F m n)
    unfolding cells
    cells-lawful m n h =
        record {
          stored = λ xs o. subst (λ (z : ℕ). Block z (encode_all F xs ++ zeros ((n - m) * k))) whole
              (block-append (first xs o) (block-zeros ((n - m) * k)));
          accepts = λ xs o. rw (drop_at (encode_all F xs) (zeros ((n - m) * k)) (m * k) (first xs o).len)
              ((and-eq-true_iff (valid_all F m (encode_all F xs ++ zeros ((n - m) * k))) (all_zero (zeros ((n - m) * k)))).1 (
                subst (λ (z : ℕ). valid_all F z (encode_all F xs ++ zeros ((n - m) * k)) ≡ true) o.0
                    (valid_all-encode_all xs (zeros ((n - m) * k)) o.1),
                all_zero-replicate ((n - m) * k),
              ));
          back = λ xs o. subst (λ (z : ℕ). decode_all F z (encode_all F xs ++ zeros ((n - m) * k)) ≡ xs) o.0
              (decode_all-encode_all xs (zeros ((n - m) * k)) o.1);
          sound = λ b s v. (length-decode_all m b, (parts b s v).0.0);
          forth = λ b s v. ap₂ ◌++◌ (parts b s v).0.1 (blank b s (parts b s v).1) ∙ take-append-drop (m * k) b;
        }
      where
        whole : m * k + (n - m) * k ≡ n * k
        whole =
            let e : m + (n - m) ≡ n = omega arith in
            sym (add-mul m (n - m) k) ∙ ap (λ (z : ℕ). z * k) e

        first : (xs : List A) → (length xs ≡ m) × Each F.ok xs → Block (m * k) (encode_all F xs)
        first xs o = subst (λ (z : ℕ). Block (z * k) (encode_all F xs)) o.0 (block-encode_all xs o.1)

        parts : (b : List ℕ) → Block (n * k) b → valid_all F m b && all_zero (drop (m * k) b) ≡ true
            → (Each F.ok (decode_all F m b) × (encode_all F (decode_all F m b) ≡ take (m * k) b)) × (all_zero (drop (m * k) b) ≡ true)
        parts b s v =
            let t = (and-eq-true_iff (valid_all F m b) (all_zero (drop (m * k) b))).0 v in
            (valid_all-sound m ((n - m) * k) b (subst (λ (z : ℕ). Block z b) (sym whole) s) t.0, t.1)

        blank : (b : List ℕ) → Block (n * k) b → all_zero (drop (m * k) b) ≡ true → zeros ((n - m) * k) ≡ drop (m * k) b
        blank b s z =
            let l : length (drop (m * k) b) ≡ (n - m) * k = simp length-drop (omega (arith, whole, s.len)) in
            sym (all_zero-eq (drop (m * k) b) z ∙ ap zeros l)
