-- Laws of specs/Table. Assumes nothing.
use Prim.Native.Nat.{ℕ, zero, suc, ◌<◌, ◌+◌, ◌-◌, ◌*◌, ◌≤◌, suc-le-suc}
use native.Mathlib.Nat.{not-suc-le-zero, le_of_suc-le-suc, le_of_eq, suc-ne-zero, suc_inj}
use mathlib.Core.Path.{◌≡◌, refl, sym, ap, ◌∙◌, ap₂, subst, fun_ext}
use mathlib.Core.Bool.{true, false, true≢false, false≢true}
use mathlib.Core.List.{List, [], ◌∷◌, ◌++◌, map, map-append}
use lib.Dec.{eqb}
use lib.ListN.{length, get_or, set, length-append, length-map}
use borrow.Author.Tests.{eqb-true, eq-eqb, ne_eqb, eqb-false}
use Rattle.base.specs.Lists.{has, Each}
use Rattle.base.proofs.Bools.{by_cases}
use Rattle.codec.specs.Table.{index_of, lookup, Tabled, table, flags}
use Rattle.base.proofs.ListsLaws.{key_has}
use native.Mathlib.Omega.{arith}
unfoldable pub use Rattle.base.specs.Lists.{has}
unfoldable pub use Rattle.base.specs.Update.{upd}
use Rattle.codec.specs.Form.{Form, mapped}
use Rattle.codec.proofs.FormLaws.{Lawful, Inverse, mapped-lawful}
use Rattle.codec.specs.Number.{flag}
use Rattle.codec.proofs.NumberLaws.{flag-lawful}
use Rattle.codec.specs.Bytes.{zeros}
use Rattle.codec.specs.Cells.{encode_all, cells}
use Rattle.codec.proofs.CellsLaws.{encode_all-nil, encode_all-cons, cells-lawful}
use Rattle.codec.proofs.Piece.{Piece, cell, mapped-piece, restated}
use Rattle.codec.proofs.Blank.{Blank, cells-grow}
use Rattle.base.specs.Numbers.{numbers}
use Rattle.base.proofs.NumbersLaws.{length-numbers}

-- each key stands once
abbrev pub Distinct : List ℕ → Type 0
Distinct [] = Unit {0}
Distinct (y ∷ ys) = (has ys y ≡ false) × Distinct ys

-- a key that is there differs from one that is not
apart : (ks : List ℕ) (j k : ℕ) → has ks j ≡ true → has ks k ≡ false → eqb j k ≡ false
apart ks j k h n = ne_eqb j k (λ e. true≢false (sym h ∙ ap (has ks) e ∙ n))

pub index-lt : (ks : List ℕ) (j : ℕ) → has ks j ≡ true → index_of ks j < length ks
unfolding has index_of
index-lt [] j h = absurd (false≢true h)
index-lt (y ∷ ys) j h =
    by_cases (eqb j y) (λ e. rw e (omega arith)) (λ e. rw e (suc-le-suc (index-lt ys j (rw (e, has) at h))))

module _ {A : Type 0} where
  -- a function is looked up in its table, where it has the default outside the keys
  pub lookup-map : (ks : List ℕ) (d : A) (f : ℕ → A) (k : ℕ) → (has ks k ≡ false → f k ≡ d) → lookup ks d (map f ks) k ≡ f k
  unfolding has lookup
  lookup-map [] d f k h = sym (h refl)
  lookup-map (y ∷ ys) d f k h =
      by_cases (eqb k y) (λ e. rw e (ap f (sym (eqb-true k y e))))
      (λ e. rw e (lookup-map ys d f k (λ n. h (rw (e, has) n))))

  pub lookup-outside : (ks : List ℕ) (d : A) (xs : List A) (k : ℕ) → has ks k ≡ false → lookup ks d xs k ≡ d
  unfolding has lookup
  lookup-outside [] d xs k h = refl
  lookup-outside (y ∷ ys) d [] k h = refl
  lookup-outside (y ∷ ys) d (x ∷ xs) k h =
      by_cases (eqb k y) (λ e. absurd (true≢false (rw (e, has) at h))) (λ e. rw e (lookup-outside ys d xs k (rw (e, has) at h)))

  -- two functions that agree at the keys have one table
  pub map-agree : (ks : List ℕ) (f g : ℕ → A) → ((k : ℕ) → has ks k ≡ true → f k ≡ g k) → map f ks ≡ map g ks
  unfolding has
  map-agree [] f g h = refl
  map-agree (y ∷ ys) f g h =
      ap₂ ◌∷◌ (h y (rw (eq-eqb y y refl, has)))
      (map-agree ys f g (λ k n. h k (by_cases (eqb k y) (λ e. rw (e, has)) (λ e. rw (e, has) n))))

  -- the table of what is looked up in xs is xs
  pub map-lookup : (ks : List ℕ) (d : A) (xs : List A) → Distinct ks → length xs ≡ length ks → map (lookup ks d xs) ks ≡ xs
  unfolding lookup
  map-lookup [] d [] u l = refl
  map-lookup [] d (x ∷ xs) u l = absurd (suc-ne-zero (length xs) l)
  map-lookup (y ∷ ys) d [] u l = absurd (suc-ne-zero (length ys) (sym l))
  map-lookup (y ∷ ys) d (x ∷ xs) u l =
      ap₂ ◌∷◌ (rw (eq-eqb y y refl))
      (map-agree ys (lookup (y ∷ ys) d (x ∷ xs)) (lookup ys d xs) (λ k n. rw (apart ys k y n u.0))
      ∙ map-lookup ys d xs u.1 (suc_inj l))

  -- the table has f's value at each key's index
  pub get_d_map : (ks : List ℕ) (f : ℕ → A) (j : ℕ) (d : A) → has ks j ≡ true → get_or (map f ks) (index_of ks j) d ≡ f j
  unfolding has index_of
  get_d_map [] f j d h = absurd (false≢true h)
  get_d_map (y ∷ ys) f j d h =
      by_cases (eqb j y) (λ e. rw e (ap f (sym (eqb-true j y e)))) (λ e. rw e (get_d_map ys f j d (rw (e, has) at h)))

  -- to change f at a key is to set the table at its index
  pub map-upd : (ks : List ℕ) (f : ℕ → A) (j : ℕ) (x : A) → Distinct ks → has ks j ≡ true → map (upd f j x) ks ≡ set (map f ks) (index_of ks j) x
  unfolding has index_of upd
  map-upd [] f j x u h = absurd (false≢true h)
  map-upd (y ∷ ys) f j x u h = by_cases (eqb j y) here (there (map-upd ys f j x u.1))
    where
      here : eqb j y ≡ true → map (upd f j x) (y ∷ ys) ≡ set (map f (y ∷ ys)) (index_of (y ∷ ys) j) x
      here e =
          let q = eqb-true j y e in
          rw (e, eq-eqb y j (sym q), upd)
          (ap (λ (z : List A). x ∷ z) (map-agree ys (upd f j x) f (λ k n. rw (apart ys k j n (ap (has ys) q ∙ u.0), upd))))

      there : (has ys j ≡ true → map (upd f j x) ys ≡ set (map f ys) (index_of ys j) x)
          → eqb j y ≡ false → map (upd f j x) (y ∷ ys) ≡ set (map f (y ∷ ys)) (index_of (y ∷ ys) j) x
      there r e =
          rw (e, ne_eqb y j (λ q. eqb-false j y e (sym q)), upd)
          (ap (λ (z : List A). f y ∷ z) (r (rw (e, has) at h)))

-- a property of every value at a key
module _ {A : Type 0} (P : A → Type 0) (f : ℕ → A) where
  pub all-keys : (ks : List ℕ) → ((j : ℕ) → has ks j ≡ true → P (f j)) → Each P (map f ks)
  unfolding has
  all-keys [] h = tt
  all-keys (y ∷ ys) h =
      (h y (rw (eq-eqb y y refl, has)), all-keys ys (λ j n. h j (by_cases (eqb j y) (λ e. rw (e, has)) (λ e. rw (e, has) n))))

  pub each-key : (ks : List ℕ) → Each P (map f ks) → (j : ℕ) → has ks j ≡ true → P (f j)
  unfolding has
  each-key [] a j h = absurd (false≢true h)
  each-key (y ∷ ys) a j h =
      by_cases (eqb j y) (λ e. subst (λ (i : ℕ). P (f i)) (sym (eqb-true j y e)) a.0) (λ e. each-key ys a.1 j (rw (e, has) at h))

module _ {A : Type 0} {k : ℕ} (F : Form A k) (ks : List ℕ) (n : ℕ) (d : A) where
  module _ (u : Distinct ks) where
    tables : Inverse (cells F (length ks) n) (lookup ks d) (λ f. map f ks) (Tabled F ks n d)
    unfolding cells
    tables =
        record {
          to-ok = λ xs h. record { inside = rw (map-lookup ks d xs u h.0) h.1; outside = λ j o. lookup-outside ks d xs j o };
          from-ok = λ f t. (length-map ks f, t.inside);
          to-from = λ f t. fun_ext (λ j. lookup-map ks d f j (t.outside j));
          from-to = λ xs h. map-lookup ks d xs u h.0;
        }

    module _ (L : Lawful F) where
      pub table-lawful : length ks ≤ n → Lawful (table F ks n d)
      unfolding table
      table-lawful h =
          mapped-lawful (cells F (length ks) n) (lookup ks d) (λ f. map f ks) (Tabled F ks n d) (cells-lawful F L (length ks) n h) tables

      -- the value at a key stands at the key's index
      pub at_key : (j : ℕ) → has ks j ≡ true → Piece (table F ks n d) F (index_of ks j * k) (λ f. Unit {0}) (λ f. f j) (λ f x. upd f j x)
      unfolding table upd mapped
      at_key j h =
          restated
          (mapped-piece (lookup ks d) (λ f. map f ks) (Tabled F ks n d) tables (cell F L (length ks) n (index_of ks j) d (index-lt ks j h)))
          (λ f. Unit {0}) (λ f. f j) (λ f x. upd f j x) (λ f o t. t) (λ f t q. get_d_map ks f j d h) changed
        where
          changed : (f : ℕ → A) (x : A) → Tabled F ks n d f → Unit {0} → F.ok x → lookup ks d (set (map f ks) (index_of ks j) x) ≡ upd f j x
          changed f x t q o =
              ap (lookup ks d) (sym (map-upd ks f j x u h))
              ∙ fun_ext (λ i. lookup-map ks d (upd f j x) i (λ m. rw (not_key i m, upd) (t.outside i m)))
            where
              not_key : (i : ℕ) → has ks i ≡ false → eqb i j ≡ false
              not_key i m = ne_eqb i j (λ e. true≢false (sym h ∙ ap (has ks) (sym e) ∙ m))

-- one key more leaves the bytes as they are, where the default is blank
pub table-grow : {A : Type 0} {k : ℕ} (F : Form A k) (ks : List ℕ) (n : ℕ) (d : A) (f : ℕ → A) (j : ℕ)
    → length ks < n → Blank F d → f j ≡ d → (table F ks n d).encode f ≡ (table F (ks ++ (j ∷ [])) n d).encode f
unfolding table mapped
table-grow {A} F ks n d f j h e q =
    let longer : suc (length ks) ≡ length (ks ++ (j ∷ [])) = simp length-append (omega arith) in
    let last : map f ks ++ (d ∷ []) ≡ map f (ks ++ (j ∷ [])) = ap (λ (x : A). map f ks ++ (x ∷ [])) (sym q) ∙ sym (map-append f ks (j ∷ [])) in
    cells-grow F (length ks) n (map f ks) d h e ∙ ap₂ (λ (m : ℕ) (xs : List A). (cells F m n).encode xs) longer last

-- two forms of the cells that give each value the same bytes give the table the same
pub table-agree : {A : Type 0} {k : ℕ} (F G : Form A k) (ks : List ℕ) (n : ℕ) (d : A) (f : ℕ → A)
    → ((j : ℕ) → has ks j ≡ true → F.encode (f j) ≡ G.encode (f j)) → (table F ks n d).encode f ≡ (table G ks n d).encode f
unfolding table mapped cells
table-agree {A} {k} F G ks n d f h =
    ap (λ (z : List ℕ). z ++ zeros ((n - length ks) * k)) (same (map f ks) (all-keys (λ x. F.encode x ≡ G.encode x) f ks h))
  where
    same : (xs : List A) → Each (λ x. F.encode x ≡ G.encode x) xs → encode_all F xs ≡ encode_all G xs
    same [] a = encode_all-nil F ∙ sym (encode_all-nil G)
    same (x ∷ xs) a = encode_all-cons F x xs ∙ ap₂ ◌++◌ a.0 (same xs a.1) ∙ sym (encode_all-cons G x xs)

pub index-numbers : (s n j : ℕ) → s ≤ j → j < s + n → index_of (numbers s n) j ≡ j - s
unfolding index_of numbers
index-numbers s zero j h l = omega arith
index-numbers s (suc n) j h l =
    by_cases (eqb j s) (λ e. rw e (zero-index (eqb-true j s e)))
    (λ e. rw e (next (eqb-false j s e) (index-numbers (suc s) n j (more (eqb-false j s e)) (omega arith))))
  where
    zero-index : j ≡ s → 0 ≡ j - s
    zero-index e = omega arith

    more : (j ≡ s → ⊥) → suc s ≤ j
    more ne = omega arith

    next : (j ≡ s → ⊥) → index_of (numbers (suc s) n) j ≡ j - suc s → suc (index_of (numbers (suc s) n) j) ≡ j - s
    next ne r = omega arith

-- rising keys are distinct
abbrev pub Above : ℕ → List ℕ → Type 0
Above l [] = Unit {0}
Above l (y ∷ ys) = (l < y) × Above y ys

above-has : (l : ℕ) (ks : List ℕ) (j : ℕ) → Above l ks → j ≤ l → has ks j ≡ false
unfolding has
above-has l [] j a h = refl
above-has l (y ∷ ys) j a h = rw (ne_eqb j y (λ e. less e a.0), has) (above-has y ys j a.1 (omega (arith, a.0)))
  where
    less : j ≡ y → l < y → ⊥
    less e p = omega arith

pub above-distinct : (l : ℕ) (ks : List ℕ) → Above l ks → Distinct ks
above-distinct l [] a = tt
above-distinct l (y ∷ ys) a = (above-has y ys y a.1 (omega arith), above-distinct y ys a.1)

above-numbers : (l s n : ℕ) → l < s → Above l (numbers s n)
unfolding numbers
above-numbers l s zero h = tt
above-numbers l s (suc n) h = (h, above-numbers s (suc s) n (omega arith))

pub numbers-distinct : (n : ℕ) → Distinct (numbers 1 n)
numbers-distinct n = above-distinct 0 (numbers 1 n) (above-numbers 0 1 n (omega arith))

pub flags-lawful : (n : ℕ) → Lawful (flags n)
unfolding flags
flags-lawful n = table-lawful flag (numbers 1 n) n false (numbers-distinct n) flag-lawful (le_of_eq (length-numbers 1 n))

-- and its index is i, each key standing once
pub key-index : (ks : List ℕ) (i : ℕ) → Distinct ks → i < length ks → index_of ks (get_or ks i 0) ≡ i
unfolding index_of
key-index [] i d h = absurd (not-suc-le-zero h)
key-index (k ∷ ks) zero d h = rw (eq-eqb k k refl, index_of) refl
key-index (k ∷ ks) (suc i) d h =
    let l = le_of_suc-le-suc h in
    let n : eqb (get_or ks i 0) k ≡ false =
    ne_eqb (get_or ks i 0) k (λ e. true≢false (sym (sym (ap (has ks) e) ∙ key_has ks i l) ∙ d.0)) in
    rw (n, index_of) (ap suc (key-index ks i d.1 l))

-- the key at a key's index
pub index_key : (ks : List ℕ) (j : ℕ) → has ks j ≡ true → get_or ks (index_of ks j) 0 ≡ j
unfolding has index_of
index_key [] j h = absurd (false≢true h)
index_key (k ∷ ks) j h =
    by_cases (eqb j k) (λ e. rw (e, index_of) (sym (eqb-true j k e))) (λ e. rw (e, index_of) (index_key ks j (rw (e, has) at h)))

-- a key that is missing has the index past the last
pub index-missing : (ks : List ℕ) (j : ℕ) → has ks j ≡ false → index_of ks j ≡ length ks
unfolding has index_of
index-missing [] j h = refl
index-missing (k ∷ ks) j h =
    by_cases (eqb j k) (λ e. absurd (true≢false (rw (e, has) at h))) (λ e. rw (e, index_of) (ap suc (index-missing ks j (rw (e, has) at h))))
