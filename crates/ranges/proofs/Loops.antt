-- The cells of a table, tested one by one. Assumes nothing.
use Prim.Native.Nat.{ℕ, zero, suc, ◌+◌, ◌-◌, ◌*◌, ◌≤◌, ◌<◌}
use native.Mathlib.Omega.{arith}
use native.Mathlib.Nat.{mul-le-mul_right, zero-mul}
use native.Mathlib.Numerals.{one-add}
use mathlib.Core.Path.{◌≡◌, refl, sym, ap, ap₂, ◌∙◌}
use mathlib.Core.Bool.{Bool, false, ◌&&◌}
use mathlib.Core.List.{List, ◌∷◌}
use lib.Dec.{leb}
use lib.ListN.{length, get_or, take, drop}
use lib.Seq.{take-take, drop-drop}
use borrow.Author.Tests.{le-leb, lt-leb}
use Rattle.std.specs.List.{list_all, range_with_len}
use Rattle.codec.specs.Bytes.{part, all_zero}
use Rattle.codec.proofs.BytesLaws.{part-cons, drop-part}
use Rattle.codec.specs.Form.{Form}
use Rattle.codec.proofs.CellsLaws.{suc-cells}
use Rattle.codec.specs.Cells.{valid_all, decode_all, cells}
use Rattle.codec.specs.Bounded.{bounded}
use Rattle.ranges.specs.Tests.{tested}
use Rattle.codec.proofs.BoundedLaws.{bounded-valid, bounded-decode}

-- m cells from cell j on, tested one by one
valid_all-list : {A : Type 0} {k : ℕ} (F : Form A k) (o j m : ℕ) (b : List ℕ)
    → list_all (λ (i : ℕ). F.valid (part (o + i * k) k b)) (range_with_len j m) ≡ valid_all F m (drop (o + j * k) b)
unfolding valid_all
valid_all-list F o j zero b = refl
valid_all-list {A} {k} F o j (suc m) b =
    let e : o + (j + 1) * k ≡ o + j * k + k = omega arith in
    ap (λ (t : Bool). F.valid (part (o + j * k) k b) && t)
    (valid_all-list F o (j + 1) m b ∙ ap (valid_all F m) (ap (λ (i : ℕ). drop i b) e ∙ sym (drop-drop k (o + j * k) b)))

module _ {A : Type 0} {k : ℕ} (F : Form A k) where
  -- a form with the same test
  pub valid_all-same : {B : Type 0} (G : Form B k) → ((b : List ℕ) → F.valid b ≡ G.valid b) → (m : ℕ) (b : List ℕ) → valid_all F m b ≡ valid_all G m b
  unfolding valid_all
  valid_all-same G h zero b = refl
  valid_all-same G h (suc m) b = ap₂ ◌&&◌ (h (take k b)) (valid_all-same G h m (drop k b))

  pub cells_same : {B : Type 0} (G : Form B k) → ((b : List ℕ) → F.valid b ≡ G.valid b) → (m n : ℕ) (b : List ℕ) → (cells F m n).valid b ≡ (cells G m n).valid b
  unfolding cells
  cells_same G h m n b = ap (λ (t : Bool). t && all_zero (drop (m * k) b)) (valid_all-same G h m b)

  rest-first : (l : ℕ) (b : List ℕ) → k ≤ l → drop k (take l b) ≡ take (l - k) (drop k b)
  rest-first l b h =
      let e : 0 + k ≡ k = omega arith in
      drop-part 0 l k b h ∙ ap (λ (j : ℕ). part j (l - k) b) e

  -- the first m cells stand in the first m * k bytes
  valid_all-first : (m l : ℕ) (b : List ℕ) → m * k ≤ l → valid_all F m (take l b) ≡ valid_all F m b
  unfolding valid_all
  valid_all-first zero l b h = refl
  valid_all-first (suc m) l b h =
      let e = suc-cells m k in
      ap₂ (λ (x : List ℕ) (t : Bool). F.valid x && t) (take-take k l b (omega arith))
      (ap (valid_all F m) (rest-first l b (omega arith)) ∙ valid_all-first m (l - k) (drop k b) (omega arith))

  pub decode_all-first : (m l : ℕ) (b : List ℕ) → m * k ≤ l → decode_all F m (take l b) ≡ decode_all F m b
  unfolding decode_all
  decode_all-first zero l b h = refl
  decode_all-first (suc m) l b h =
      let e = suc-cells m k in
      ap₂ (λ (x : List ℕ) (t : List A). F.decode x ∷ t) (take-take k l b (omega arith))
      (ap (decode_all F m) (rest-first l b (omega arith)) ∙ decode_all-first m (l - k) (drop k b) (omega arith))

  -- a count, and then cells: the count is in range, and as many cells are valid
  module _ (cap o : ℕ) (b : List ℕ) (h : o + (1 + cap * k) ≤ length b) where
    opened : part o (1 + cap * k) b ≡ get_or b o 0 ∷ part (o + 1) (cap * k) b
    opened = ap (λ (n : ℕ). part o n b) (one-add (cap * k)) ∙ part-cons o (cap * k) b (omega arith)

    pub bounded-part : (bounded F cap).valid (part o (1 + cap * k) b) ≡ leb (get_or b o 0) cap && (cells F (get_or b o 0) cap).valid (part (o + 1) (cap * k) b)
    unfolding cells
    bounded-part = ap (bounded F cap).valid opened ∙ bounded-valid F cap (get_or b o 0) (part (o + 1) (cap * k) b)

    pub bounded-over : cap < get_or b o 0 → (bounded F cap).valid (part o (1 + cap * k) b) ≡ false
    bounded-over l = bounded-part ∙ rw (lt-leb (get_or b o 0) cap l)

    pub bounded-within : get_or b o 0 ≤ cap → (bounded F cap).valid (part o (1 + cap * k) b) ≡ (cells F (get_or b o 0) cap).valid (part (o + 1) (cap * k) b)
    bounded-within l = bounded-part ∙ rw (le-leb (get_or b o 0) cap l)

    pub bounded-value : get_or b o 0 ≤ cap → (bounded F cap).decode (part o (1 + cap * k) b) ≡ decode_all F (get_or b o 0) (drop (o + 1) b)
    bounded-value l =
        ap (bounded F cap).decode opened
        ∙ bounded-decode F cap (get_or b o 0) (part (o + 1) (cap * k) b)
        ∙ decode_all-first (get_or b o 0) (cap * k) (drop (o + 1) b) (mul-le-mul_right k l)

  -- n cells from offset o of b up to offset t, of which the first m are valid and the others blank
  module _ (o m : ℕ) (b : List ℕ) (n t : ℕ) (h : m ≤ n) (e : o + n * k ≡ t) where
    pub cells-part : (cells F m n).valid (part o (n * k) b) ≡ valid_all F m (drop o b) && all_zero (part (o + m * k) (t - (o + m * k)) b)
    unfolding cells
    cells-part =
        let l = mul-le-mul_right k h in
        let r : n * k - m * k ≡ t - (o + m * k) = omega arith in
        ap₂ ◌&&◌ (valid_all-first m (n * k) (drop o b) l)
        (ap all_zero (drop-part o (n * k) (m * k) b l ∙ ap (λ (j : ℕ). part (o + m * k) j b) r))

    -- by a list of their indices
    pub cells-list : list_all (λ (i : ℕ). F.valid (part (o + i * k) k b)) (range_with_len 0 m) && all_zero (part (o + m * k) (t - (o + m * k)) b)
        ≡ (cells F m n).valid (part o (n * k) b)
    cells-list =
        let f : o + 0 * k ≡ o = omega (arith, zero-mul k) in
        ap (λ (u : Bool). u && all_zero (part (o + m * k) (t - (o + m * k)) b)) (valid_all-list F o 0 m b ∙ ap (λ (j : ℕ). valid_all F m (drop j b)) f)
        ∙ sym cells-part

-- cells by their tests alone
pub by_test : {A : Type 0} {k : ℕ} (F : Form A k) (m n : ℕ) (b : List ℕ) → (cells (tested k F.valid) m n).valid b ≡ (cells F m n).valid b
unfolding tested
by_test {A} {k} F m n b = cells_same (tested k F.valid) F (λ x. refl) m n b

-- and where a count stands before them
pub bounded-by_test : {A : Type 0} {k : ℕ} (F : Form A k) (cap o : ℕ) (b : List ℕ) → o + (1 + cap * k) ≤ length b
    → (bounded (tested k F.valid) cap).valid (part o (1 + cap * k) b) ≡ (bounded F cap).valid (part o (1 + cap * k) b)
bounded-by_test {A} {k} F cap o b h =
    bounded-part (tested k F.valid) cap o b h
    ∙ ap (λ (t : Bool). leb (get_or b o 0) cap && t) (by_test F (get_or b o 0) cap (part (o + 1) (cap * k) b))
    ∙ sym (bounded-part F cap o b h)
