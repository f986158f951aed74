-- Pieces: where a part of a value stands in the value's bytes. A piece is read and written at its offset,
-- and the offset of a piece of a piece is the sum. Assumes nothing.
use Prim.Native.Nat.{ℕ, suc, ◌+◌, ◌-◌, ◌*◌, ◌≤◌, ◌<◌}
use native.Mathlib.Omega.{arith}
use native.Mathlib.Nat.{le_of_lt}
use mathlib.Core.Path.{◌≡◌, refl, sym, ap, ap₂, subst, subst⁻¹, ◌∙◌}
use mathlib.Core.Bool.{Bool, true}
use mathlib.Core.List.{List, [], ◌∷◌, ◌++◌, append-nil, append_assoc}
use lib.ListN.{length, get_or, take, drop, set, length-append, length-set}
use lib.Seq.{sets, split_at, set_split, length-take-le}
use Rattle.codec.specs.Bytes.{Block, zeros, part}
use Rattle.codec.proofs.BytesLaws.{part-between, sets-between}
use Rattle.codec.specs.Form.{Form, mapped, guarded}
use Rattle.codec.proofs.FormLaws.{Lawful, Inverse}
use Rattle.codec.specs.Pair.{given, pair}
use Rattle.codec.proofs.CellsLaws.{Each-get_d, Each-set, Each-take, block-encode_all, encode_all-append, encode_all-cons}
use Rattle.codec.specs.Cells.{encode_all, cells}

module _ {A B : Type 0} {m n : ℕ} (F : Form A m) (P : Form B n) (o : ℕ) (on : A → Type 0) (get : A → B) where
  -- the part `get a` of a stands, in the form P, at offset o of a's bytes, for each a with `on a`
  pub record View : Type 0 where
    pub before : (a : A) → F.ok a → on a → List ℕ
    pub after : (a : A) → F.ok a → on a → List ℕ
    pub offset : (a : A) (h : F.ok a) (k : on a) → length (before a h k) ≡ o
    pub got : (a : A) → F.ok a → on a → P.ok (get a)
    pub split : (a : A) (h : F.ok a) (k : on a) → F.encode a ≡ before a h k ++ (P.encode (get a) ++ after a h k)

  -- and to put b in its place changes these bytes alone
  pub record Piece (put : A → B → A) : Type 0 where
    pub view : View
    pub kept : (a : A) (b : B) → F.ok a → on a → P.ok b → F.ok (put a b)
    pub stores : (a : A) (b : B) (h : F.ok a) (k : on a) → P.ok b
        → F.encode (put a b) ≡ view.before a h k ++ (P.encode b ++ view.after a h k)

module _ {A B : Type 0} {m n : ℕ} {F : Form A m} {P : Form B n} {o : ℕ} {on : A → Type 0} {get : A → B} (L : Lawful P) where
  -- a piece's bytes are its form's
  pub read : View F P o on get → (a : A) → F.ok a → on a → part o n (F.encode a) ≡ P.encode (get a)
  read W a h k =
      ap (part o n) (W.split a h k)
      ∙ part-between (W.before a h k) (P.encode (get a)) (W.after a h k) o n (W.offset a h k) (L.stored (get a) (W.got a h k)).len

  -- to write a piece's bytes is to store the changed value
  pub write : {put : A → B → A} → Piece F P o on get put → (a : A) (b : B) → F.ok a → on a → P.ok b
      → sets (F.encode a) o (P.encode b) ≡ F.encode (put a b)
  write Q a b h k g =
      let W = Q.view in
      ap (λ (z : List ℕ). sets z o (P.encode b)) (W.split a h k)
      ∙ sets-between (W.before a h k) (P.encode (get a)) (W.after a h k) o n (W.offset a h k) (L.stored (get a) (W.got a h k)).len
      (P.encode b) (L.stored b g).len
      ∙ sym (Q.stores a b h k g)

  -- the same on bytes that are valid for F
  module _ (K : Lawful F) (b : List ℕ) (s : Block m b) (v : F.valid b ≡ true) where
    pub read-bytes : View F P o on get → on (F.decode b) → part o n b ≡ P.encode (get (F.decode b))
    read-bytes W k = ap (part o n) (sym (K.forth b s v)) ∙ read W (F.decode b) (K.sound b s v) k

    pub read-value : View F P o on get → on (F.decode b) → P.decode (part o n b) ≡ get (F.decode b)
    read-value W k = ap P.decode (read-bytes W k) ∙ L.back (get (F.decode b)) (W.got (F.decode b) (K.sound b s v) k)

    pub read-valid : View F P o on get → on (F.decode b) → P.valid (part o n b) ≡ true
    read-valid W k = ap P.valid (read-bytes W k) ∙ L.accepts (get (F.decode b)) (W.got (F.decode b) (K.sound b s v) k)

    pub write_bytes : {put : A → B → A} → Piece F P o on get put → (x : B) → on (F.decode b) → P.ok x
        → sets b o (P.encode x) ≡ F.encode (put (F.decode b) x)
    write_bytes Q x k g =
        ap (λ (z : List ℕ). sets z o (P.encode x)) (sym (K.forth b s v)) ∙ write Q (F.decode b) x (K.sound b s v) k g

    pub write-value : {put : A → B → A} → Piece F P o on get put → (x : B) → on (F.decode b) → P.ok x
        → F.decode (sets b o (P.encode x)) ≡ put (F.decode b) x
    write-value {put} Q x k g =
        ap F.decode (write_bytes Q x k g) ∙ K.back (put (F.decode b) x) (Q.kept (F.decode b) x (K.sound b s v) k g)

    -- the changed bytes are valid again
    pub write-valid : {put : A → B → A} → Piece F P o on get put → (x : B) → on (F.decode b) → P.ok x
        → F.valid (sets b o (P.encode x)) ≡ true
    write-valid {put} Q x k g =
        ap F.valid (write_bytes Q x k g) ∙ K.accepts (put (F.decode b) x) (Q.kept (F.decode b) x (K.sound b s v) k g)

  -- a piece lies within the whole
  pub room : Lawful F → View F P o on get → (a : A) → F.ok a → on a → o + n ≤ m
  room K W a h k =
      let e : length (W.before a h k ++ (P.encode (get a) ++ W.after a h k)) ≡ m = ap length (sym (W.split a h k)) ∙ (K.stored a h).len in
      omega (arith, simp length-append at e, W.offset a h k, (L.stored (get a) (W.got a h k)).len)

-- a value is a piece of itself
pub self : {A : Type 0} {n : ℕ} (F : Form A n) → Piece F F 0 (λ a. Unit {0}) (λ a. a) (λ a b. b)
self F =
    record {
      view =
          record {
            before = λ a h k. [];
            after = λ a h k. [];
            offset = λ a h k. refl;
            got = λ a h k. h;
            split = λ a h k. sym (append-nil (F.encode a));
          };
      kept = λ a b h k g. g;
      stores = λ a b h k g. sym (append-nil (F.encode b));
    }

regroup : (p q x r t : List ℕ) → p ++ ((q ++ (x ++ r)) ++ t) ≡ (p ++ q) ++ (x ++ (r ++ t))
regroup p q x r t = simp append_assoc

-- a piece of a piece
module _ {A B C : Type 0} {l m n : ℕ} {F : Form A l} {P : Form B m} {Q : Form C n} {o u : ℕ}
    {on : A → Type 0} {get : A → B} {at : B → Type 0} {sub : B → C} where
  pub inner-view : View F P o on get → View P Q u at sub → View F Q (o + u) (λ a. on a × at (get a)) (λ a. sub (get a))
  inner-view W Z =
      record {
        before = λ a h k. W.before a h k.0 ++ Z.before (get a) (W.got a h k.0) k.1;
        after = λ a h k. Z.after (get a) (W.got a h k.0) k.1 ++ W.after a h k.0;
        offset =
            λ a h k. length-append (W.before a h k.0) (Z.before (get a) (W.got a h k.0) k.1)
            ∙ ap₂ ◌+◌ (W.offset a h k.0) (Z.offset (get a) (W.got a h k.0) k.1);
        got = λ a h k. Z.got (get a) (W.got a h k.0) k.1;
        split =
            λ a h k.
            let b = W.got a h k.0 in
            W.split a h k.0
            ∙ ap (λ (z : List ℕ). W.before a h k.0 ++ (z ++ W.after a h k.0)) (Z.split (get a) b k.1)
            ∙ regroup (W.before a h k.0) (Z.before (get a) b k.1) (Q.encode (sub (get a))) (Z.after (get a) b k.1) (W.after a h k.0);
      }

  pub inner : {put : A → B → A} {swap : B → C → B} → Piece F P o on get put → Piece P Q u at sub swap
      → Piece F Q (o + u) (λ a. on a × at (get a)) (λ a. sub (get a)) (λ a x. put a (swap (get a) x))
  unfolding inner-view
  inner {put} {swap} D E =
      record {
        view = inner-view D.view E.view;
        kept =
            λ a x h k g. D.kept a (swap (get a) x) h k.0 (E.kept (get a) x (D.view.got a h k.0) k.1 g);
        stores =
            λ a x h k g.
            let b = D.view.got a h k.0 in
            D.stores a (swap (get a) x) h k.0 (E.kept (get a) x b k.1 g)
            ∙ ap (λ (z : List ℕ). D.view.before a h k.0 ++ (z ++ D.view.after a h k.0)) (E.stores (get a) x b k.1 g)
            ∙ regroup (D.view.before a h k.0) (E.view.before (get a) b k.1) (Q.encode x) (E.view.after (get a) b k.1) (D.view.after a h k.0);
      }

-- a piece that is there for each value t of a tag, at one offset, is there whatever the tag is
module _ {A T C : Type 0} {m n : ℕ} {F : Form A m} {P : Form C n} {o : ℕ} {get : A → C} (tag : A → T) (good : T → Type 0) where
  pub whatever-view : ((t : T) → good t → View F P o (λ a. tag a ≡ t) get) → View F P o (λ a. good (tag a)) get
  whatever-view W =
      record {
        before = λ a h k. (W (tag a) k).before a h refl;
        after = λ a h k. (W (tag a) k).after a h refl;
        offset = λ a h k. (W (tag a) k).offset a h refl;
        got = λ a h k. (W (tag a) k).got a h refl;
        split = λ a h k. (W (tag a) k).split a h refl;
      }

  pub whatever : {put : A → C → A} → ((t : T) → good t → Piece F P o (λ a. tag a ≡ t) get put) → Piece F P o (λ a. good (tag a)) get put
  unfolding whatever-view
  whatever D =
      record {
        view = whatever-view (λ t k. (D t k).view);
        kept = λ a c h k g. (D (tag a) k).kept a c h refl g;
        stores = λ a c h k g. (D (tag a) k).stores a c h refl g;
      }

-- the parts of a pair
module _ {A B : Type 0} {m n : ℕ} (H : Form A m) where
  -- the first part, which the form of the second may go by
  pub head : (G : A → Form B n) → View (given H G) H 0 (λ p. Unit {0}) (λ p. p.0)
  unfolding given
  head G =
      record {
        before = λ p h k. [];
        after = λ p h k. (G p.0).encode p.1;
        offset = λ p h k. refl;
        got = λ p h k. h.0;
        split = λ p h k. refl;
      }

  pub first : (G : Form B n) → Piece (pair H G) H 0 (λ p. Unit {0}) (λ p. p.0) (λ p a. (a, p.1))
  unfolding given head
  first G =
      record {
        view = head (λ a. G);
        kept = λ p a h k g. (g, h.1);
        stores = λ p a h k g. refl;
      }

  -- the second part, where the first is t
  pub tail : (G : A → Form B n) → Lawful H → (t : A)
      → Piece (given H G) (G t) m (λ p. p.0 ≡ t) (λ p. p.1) (λ p b. (p.0, b))
  unfolding given
  tail G K t =
      record {
        view =
            record {
              before = λ p h k. H.encode p.0;
              after = λ p h k. [];
              offset = λ p h k. (K.stored p.0 h.0).len;
              got = λ p h k. subst (λ (a : A). (G a).ok p.1) k h.1;
              split = λ p h k. ap (λ (a : A). H.encode p.0 ++ (G a).encode p.1) k ∙ sym (nothing (H.encode p.0) ((G t).encode p.1));
            };
        kept = λ p b h k g. (h.0, subst⁻¹ (λ (a : A). (G a).ok b) k g);
        stores = λ p b h k g. ap (λ (a : A). H.encode p.0 ++ (G a).encode b) k ∙ sym (nothing (H.encode p.0) ((G t).encode b));
      }
    where
      nothing : (x y : List ℕ) → x ++ (y ++ []) ≡ x ++ y
      nothing x y = ap (λ (z : List ℕ). x ++ z) (append-nil y)

  -- the second part, where its form does not go by the first
  pub second : (G : Form B n) → Lawful H → Piece (pair H G) G m (λ p. Unit {0}) (λ p. p.1) (λ p b. (p.0, b))
  second G K = whatever (λ p. p.0) (λ t. Unit {0}) (λ t u. tail (λ a. G) K t)

-- a piece goes on through a map and a guard
module _ {A C : Type 0} {m n : ℕ} {F : Form A m} {P : Form C n} {o : ℕ} {on : A → Type 0} {get : A → C} where
  module _ {B : Type 0} (to : A → B) (from : B → A) (ok : B → Type 0) (I : Inverse F to from ok) where
    pub mapped-view : View F P o on get → View (mapped F to from ok) P o (λ x. on (from x)) (λ x. get (from x))
    unfolding mapped
    mapped-view W =
        record {
          before = λ x h k. W.before (from x) (I.from-ok x h) k;
          after = λ x h k. W.after (from x) (I.from-ok x h) k;
          offset = λ x h k. W.offset (from x) (I.from-ok x h) k;
          got = λ x h k. W.got (from x) (I.from-ok x h) k;
          split = λ x h k. W.split (from x) (I.from-ok x h) k;
        }

    pub mapped-piece : {put : A → C → A} → Piece F P o on get put
        → Piece (mapped F to from ok) P o (λ x. on (from x)) (λ x. get (from x)) (λ x c. to (put (from x) c))
    unfolding mapped mapped-view
    mapped-piece {put} D =
        record {
          view = mapped-view D.view;
          kept = λ x c h k g. I.to-ok (put (from x) c) (D.kept (from x) c (I.from-ok x h) k g);
          stores =
              λ x c h k g.
              let a = I.from-ok x h in
              ap F.encode (I.from-to (put (from x) c) (D.kept (from x) c a k g)) ∙ D.stores (from x) c a k g;
        }

  pub guarded-view : (p : A → Bool) → View F P o on get → View (guarded F p) P o on get
  unfolding guarded
  guarded-view p W =
      record {
        before = λ a h k. W.before a h.0 k;
        after = λ a h k. W.after a h.0 k;
        offset = λ a h k. W.offset a h.0 k;
        got = λ a h k. W.got a h.0 k;
        split = λ a h k. W.split a h.0 k;
      }

  -- to put a value is to keep the guard, where it holds of the changed value
  pub guarded-piece : {put : A → C → A} → Piece F P o on get put → (p : A → Bool)
      → ((a : A) (c : C) → F.ok a → p a ≡ true → on a → P.ok c → p (put a c) ≡ true) → Piece (guarded F p) P o on get put
  unfolding guarded guarded-view
  guarded-piece D p q =
      record {
        view = guarded-view p D.view;
        kept = λ a c h k g. (D.kept a c h.0 k g, q a c h.0 h.1 k g);
        stores = λ a c h k g. D.stores a c h.0 k g;
      }

  -- the same piece, its offset said in another way
  pub moved : {put : A → C → A} {u : ℕ} → Piece F P o on get put → o ≡ u → Piece F P u on get put
  moved {put} D e = subst (λ (j : ℕ). Piece F P j on get put) e D

  -- the same piece under other names: `on`, `get` and `put` said in another way
  pub restated-view : View F P o on get → (at : A → Type 0) (sub : A → C)
      → ((a : A) → F.ok a → at a → on a) → ((a : A) → F.ok a → at a → get a ≡ sub a) → View F P o at sub
  restated-view W at sub i e =
      record {
        before = λ a h k. W.before a h (i a h k);
        after = λ a h k. W.after a h (i a h k);
        offset = λ a h k. W.offset a h (i a h k);
        got = λ a h k. subst (λ (z : C). P.ok z) (e a h k) (W.got a h (i a h k));
        split = λ a h k. W.split a h (i a h k) ∙ ap (λ (z : C). W.before a h (i a h k) ++ (P.encode z ++ W.after a h (i a h k))) (e a h k);
      }

  pub restated : {put : A → C → A} → Piece F P o on get put → (at : A → Type 0) (sub : A → C) (swap : A → C → A)
      → ((a : A) → F.ok a → at a → on a) → ((a : A) → F.ok a → at a → get a ≡ sub a)
      → ((a : A) (c : C) → F.ok a → at a → P.ok c → put a c ≡ swap a c) → Piece F P o at sub swap
  unfolding restated-view
  restated D at sub swap i e f =
      record {
        view = restated-view D.view at sub i e;
        kept = λ a c h k g. subst (λ (z : A). F.ok z) (f a c h k g) (D.kept a c h (i a h k) g);
        stores = λ a c h k g. ap F.encode (sym (f a c h k g)) ∙ D.stores a c h (i a h k) g;
      }

-- cell i, of m in use
module _ {A : Type 0} {k : ℕ} (F : Form A k) (L : Lawful F) (m n i : ℕ) (d : A) (h : i < m) where
  pub cell : Piece (cells F m n) F (i * k) (λ xs. Unit {0}) (λ xs. get_or xs i d) (λ xs x. set xs i x)
  unfolding cells
  cell =
      record {
        view =
            record {
              before = λ xs g u. encode_all F (take i xs);
              after = λ xs g u. encode_all F (drop (suc i) xs) ++ zeros ((n - m) * k);
              offset = λ xs g u. (block-encode_all F L (take i xs) (Each-take F.ok i xs g.1)).len ∙ ap (λ (z : ℕ). z * k) (length-take-le i xs (le_of_lt (inside xs g.0)));
              got = λ xs g u. Each-get_d F.ok xs i d (inside xs g.0) g.1;
              split = λ xs g u. ap (λ (z : List A). encode_all F z ++ zeros ((n - m) * k)) (split_at xs i d (inside xs g.0)) ∙ around xs (get_or xs i d);
            };
        kept = λ xs x g u e. (length-set xs i x ∙ g.0, Each-set F.ok xs i x g.1 e);
        stores = λ xs x g u e. ap (λ (z : List A). encode_all F z ++ zeros ((n - m) * k)) (set_split xs i x (inside xs g.0)) ∙ around xs x;
      }
    where
      inside : (xs : List A) → length xs ≡ m → i < length xs
      inside xs e = omega arith

      around : (xs : List A) (x : A)
          → encode_all F (take i xs ++ x ∷ drop (suc i) xs) ++ zeros ((n - m) * k)
          ≡ encode_all F (take i xs) ++ (F.encode x ++ (encode_all F (drop (suc i) xs) ++ zeros ((n - m) * k)))
      around xs x = simp (encode_all-append, encode_all-cons, append_assoc)
