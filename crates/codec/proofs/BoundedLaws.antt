-- Laws of specs/Bounded. Assumes nothing.
use Prim.Native.Nat.{ℕ, suc, ◌+◌, ◌-◌, ◌*◌, ◌%◌, ◌^◌, ◌<◌}
use native.Mathlib.Omega.{arith}
use native.Mathlib.Nat.{not-suc-le-zero, le_of_suc-le-suc}
use mathlib.Core.Path.{◌≡◌, refl, sym, ap, ap₂, ◌∙◌}
use mathlib.Core.Bool.{Bool, ◌&&◌}
use mathlib.Core.List.{List, [], ◌∷◌, ◌++◌, append_assoc}
use mathlib.Core.Option.{Option, none, some}
use lib.Dec.{leb, leb-zero, lit<, lit≤}
use lib.ListN.{length, get_or, drop, set, length-append, length-replicate, replicate-append-replicate}
use lib.Seq.{sets}
use Rattle.codec.specs.Bytes.{zeros, all_zero}
use Rattle.codec.proofs.BytesLaws.{sets-between}
use Rattle.codec.specs.Form.{Form, mapped}
use Rattle.codec.proofs.FormLaws.{Lawful, Inverse, mapped-lawful}
use Rattle.codec.specs.Number.{number, byte, digits, value, between}
use Rattle.codec.proofs.NumberLaws.{number-lawful, byte-lawful}
use Rattle.codec.specs.Pair.{given}
use Rattle.codec.proofs.PairLaws.{given-lawful}
use Rattle.base.specs.Lists.{Each}
use Rattle.codec.proofs.CellsLaws.{suc-cells, Each-append, encode_all-append, encode_all-cons, encode_all-nil, cells-lawful, block-encode_all}
use Rattle.codec.specs.Cells.{encode_all, valid_all, decode_all, cells}
use Rattle.codec.proofs.Piece.{View, Piece, head, tail, cell, inner, mapped-view, mapped-piece, restated, whatever}
use Rattle.codec.specs.Bounded.{Within, counted, listed, bounded, Maybe, to_option, from_option, optional}

-- ## The bounds of a list of any capacity

module _ {A : Type 0} (P : A → Type 0) (cap : ℕ) where
  pub within-nil : Within P cap []
  within-nil = (omega arith, tt)

  -- one element more, where there is room
  pub within-push : (xs : List A) (x : A) → length xs < cap → Within P cap xs → P x → Within P cap (xs ++ (x ∷ []))
  within-push xs x h w p = (simp length-append (omega arith), Each-append P xs (x ∷ []) w.1 (p, tt))

  -- one element less
  pub within-rest : (x : A) (xs : List A) → Within P cap (x ∷ xs) → Within P cap xs
  within-rest x xs w = (omega (arith, w.0), w.1.1)

-- another property of the elements
pub within-map : {A : Type 0} {P Q : A → Type 0} {cap : ℕ} (xs : List A) → ((x : A) → P x → Q x) → Within P cap xs → Within Q cap xs
within-map {A} {P} {Q} xs k w = (w.0, each xs w.1)
  where
    each : (xs : List A) → Each P xs → Each Q xs
    each [] a = tt
    each (x ∷ xs) a = (k x a.0, each xs a.1)

module _ {A : Type 0} {k : ℕ} (n : ℕ) (F : Form A k) (cap : ℕ) where
  counts : Inverse (counted n F cap) (λ p. p.1) (λ xs. (length xs, xs)) (Within F.ok cap)
  unfolding given number cells
  counts =
      record {
        to-ok = λ p h. (omega (arith, h.0.1, h.1.0), h.1.1);
        from-ok = λ xs h. ((omega arith, h.0), (refl, h.1));
        to-from = λ xs h. refl;
        from-to = λ p h. λ i. (h.1.0 i, p.1);
      }

  pub listed-lawful : Lawful F → cap < 256 ^ n → Lawful (listed n F cap)
  unfolding number
  listed-lawful L h =
      mapped-lawful (counted n F cap) (λ p. p.1) (λ xs. (length xs, xs)) (Within F.ok cap)
      (given-lawful (number n 0 0 cap) (λ m. cells F m cap) (number-lawful n 0 0 cap (omega arith) (omega arith)) (λ m r. cells-lawful F L m cap r.1))
      counts

module _ {A : Type 0} {k : ℕ} (F : Form A k) (cap : ℕ) where
  -- the bytes of a list
  pub bounded-encode : (xs : List A) → length xs < 256
      → (bounded F cap).encode xs ≡ length xs ∷ (encode_all F xs ++ zeros ((cap - length xs) * k))
  unfolding bounded mapped given number cells digits
  bounded-encode xs l =
      let e : (length xs - 0) % 256 ≡ length xs = omega arith in
      ap (λ (z : ℕ). z ∷ (encode_all F xs ++ zeros ((cap - length xs) * k))) e

  -- the test, on the count c and the bytes b of the places
  pub bounded-valid : (c : ℕ) (b : List ℕ)
      → (bounded F cap).valid (c ∷ b) ≡ leb c cap && (valid_all F c b && all_zero (drop (c * k) b))
  unfolding bounded mapped given number cells value
  bounded-valid c b =
      let e : c + 0 + 0 ≡ c = omega arith in
      ap (λ (z : ℕ). between 0 cap z && (valid_all F z b && all_zero (drop (z * k) b))) e
      ∙ ap (λ (t : Bool). (t && leb c cap) && (valid_all F c b && all_zero (drop (c * k) b))) (leb-zero c)

  -- and the list that they hold
  pub bounded-decode : (c : ℕ) (b : List ℕ) → (bounded F cap).decode (c ∷ b) ≡ decode_all F c b
  unfolding bounded mapped given number cells value
  bounded-decode c b =
      let e : c + 0 + 0 ≡ c = omega arith in
      ap (λ (z : ℕ). decode_all F z b) e

  module _ (L : Lawful F) (h : cap < 256) where
    pub bounded-lawful : Lawful (bounded F cap)
    unfolding bounded
    bounded-lawful = listed-lawful 1 F cap L h

    -- the count stands first
    pub bounded-count : View (bounded F cap) (byte 0 cap) 0 (λ xs. Unit {0}) length
    unfolding bounded
    bounded-count =
        mapped-view (λ p. p.1) (λ xs. (length xs, xs)) (Within F.ok cap) (counts 1 F cap) (head (byte 0 cap) (λ m. cells F m cap))

    -- and then element i
    pub bounded-cell : (i : ℕ) (d : A) → Piece (bounded F cap) F (1 + i * k) (λ xs. i < length xs) (λ xs. get_or xs i d) (λ xs x. set xs i x)
    unfolding bounded
    bounded-cell i d = whatever length (λ m. i < m) at
      where
        at : (m : ℕ) → i < m → Piece (bounded F cap) F (1 + i * k) (λ xs. length xs ≡ m) (λ xs. get_or xs i d) (λ xs x. set xs i x)
        at m j =
            restated
            (mapped-piece (λ p. p.1) (λ xs. (length xs, xs)) (Within F.ok cap) (counts 1 F cap)
            (inner (tail (byte 0 cap) (λ m. cells F m cap) (byte-lawful 0 cap h) m) (cell F L m cap i d j)))
            (λ xs. length xs ≡ m) (λ xs. get_or xs i d) (λ xs x. set xs i x) (λ xs o e. (e, tt)) (λ xs o e. refl) (λ xs x o e g. refl)

    -- to append x below the capacity is to write it past the last element, and the count
    pub bounded-push : (xs : List A) (x : A) → Within F.ok cap xs → length xs < cap → F.ok x
        → (bounded F cap).encode (xs ++ (x ∷ []))
        ≡ sets (sets ((bounded F cap).encode xs) (1 + length xs * k) (F.encode x)) 0 ((length xs + 1) ∷ [])
    bounded-push xs x w r o =
        let c = length xs in
        let e = encode_all F xs in
        let z : ℕ = (cap - (c + 1)) * k in
        let longer : length (xs ++ (x ∷ [])) ≡ c + 1 = length-append xs (x ∷ []) in
        let less : cap - c ≡ suc (cap - (c + 1)) = omega arith in
        let room : zeros ((cap - c) * k) ≡ zeros k ++ zeros z =
        ap zeros (ap (λ (n : ℕ). n * k) less ∙ suc-cells (cap - (c + 1)) k) ∙ sym (replicate-append-replicate k z 0) in
        let old : (bounded F cap).encode xs ≡ (c ∷ e) ++ (zeros k ++ zeros z) =
        bounded-encode xs (omega arith) ∙ ap (λ (y : List ℕ). c ∷ (e ++ y)) room in
        let offset : length (c ∷ e) ≡ 1 + c * k = omega (arith, (block-encode_all F L xs w.1).len) in
        let new : (bounded F cap).encode (xs ++ (x ∷ [])) ≡ (c + 1) ∷ (e ++ (F.encode x ++ zeros z)) =
        bounded-encode (xs ++ (x ∷ [])) (omega (arith, longer))
        ∙ ap₂ (λ (n : ℕ) (y : List ℕ). n ∷ y) longer
        (ap (λ (n : ℕ). encode_all F (xs ++ (x ∷ [])) ++ zeros ((cap - n) * k)) longer
        ∙ simp (encode_all-append, encode_all-cons, append_assoc, encode_all-nil)) in
        new
        ∙ sym (ap (λ (y : List ℕ). sets (sets y (1 + c * k) (F.encode x)) 0 ((c + 1) ∷ [])) old
        ∙ ap (λ (y : List ℕ). sets y 0 ((c + 1) ∷ []))
        (sets-between (c ∷ e) (zeros k) (zeros z) (1 + c * k) k offset (length-replicate k 0) (F.encode x) (L.stored x o).len))

-- a value or none: a list of at most one
module _ {A : Type 0} {k : ℕ} (F : Form A k) where
  pub optional-lawful : Lawful F → Lawful (optional F)
  unfolding optional bounded mapped
  optional-lawful L =
      mapped-lawful (bounded F 1) (to_option F) (from_option F) (Maybe F) (bounded-lawful F 1 L (lit< tt))
      (record { to-ok = range; from-ok = within; to-from = same; from-to = again })
    where
      range : (xs : List A) → Within F.ok 1 xs → Maybe F (to_option F xs)
      range [] w = tt
      range (x ∷ xs) w = w.1.0

      within : (m : Option A) → Maybe F m → Within F.ok 1 (from_option F m)
      within none h = (lit≤ tt, tt)
      within (some a) h = (lit≤ tt, (h, tt))

      same : (m : Option A) → Maybe F m → to_option F (from_option F m) ≡ m
      same none h = refl
      same (some a) h = refl

      again : (xs : List A) → Within F.ok 1 xs → from_option F (to_option F xs) ≡ xs
      again [] w = refl
      again (x ∷ []) w = refl
      again (x ∷ y ∷ xs) w = absurd (not-suc-le-zero (le_of_suc-le-suc w.0))
