-- Laws of specs/Bytes. Assumes nothing.
use Prim.Native.Nat.{ℕ, zero, suc, ◌+◌, ◌-◌, ◌≤◌, ◌<◌}
use native.Mathlib.Omega.{arith}
use native.Mathlib.Nat.{add-zero, add-suc, suc-add}
use native.Mathlib.Numerals.{add-one, add-two, add-three}
use mathlib.Core.Path.{◌≡◌, refl, sym, ap, ap₂, ◌∙◌}
use mathlib.Core.Bool.{Bool, true, ◌&&◌, and-eq-true_iff, and-true, and_assoc, true≢false}
use mathlib.Core.List.{List, [], ◌∷◌, ◌++◌, append_assoc}
use lib.Dec.{eqb, lit<}
use lib.ListN.{length, get_or, take, drop, set, length-append, length-take, length-drop, length-replicate}
use lib.Seq.{sets, sets-eq, paste, take_at, drop_at, drop-drop, drop-cons, take-suc, take-suc-set, take-take, take_all, get_or-drop, length-take-le}
use borrow.Rule.Slice.PartMut.{put_mid}
use Rattle.std.proofs.lemmas.Slice.{put_mid-paste}
use Rattle.std.specs.Cmp.Lexicographic.{pointwise}
use borrow.Author.Tests.{eqb-true, eq-eqb}
use Rattle.codec.specs.Bytes.{Block, part, zeros, all_zero, same_bytes}

pub all_zero-replicate : (n : ℕ) → all_zero (zeros n) ≡ true
unfolding all_zero
all_zero-replicate zero = refl
all_zero-replicate (suc n) = all_zero-replicate n

-- zero bytes are determined by their number
pub all_zero-eq : (b : List ℕ) → all_zero b ≡ true → b ≡ zeros (length b)
unfolding all_zero
all_zero-eq [] h = refl
all_zero-eq (x ∷ xs) h =
    let p = (and-eq-true_iff (eqb x 0) (all_zero xs)).0 h in
    ap₂ ◌∷◌ (eqb-true x 0 p.0) (all_zero-eq xs p.1)

-- one byte more, at the front and at the end
pub part-cons : (o n : ℕ) (b : List ℕ) → o < length b → part o (suc n) b ≡ get_or b o 0 ∷ part (o + 1) n b
part-cons o n b h = rw (drop-cons b o 0 h, add-one)

pub part-snoc : (o n : ℕ) (b : List ℕ) → o + n < length b → part o (suc n) b ≡ part o n b ++ (get_or b (o + n) 0 ∷ [])
part-snoc o n b h =
    let l : n < length (drop o b) = simp length-drop (omega arith) in
    take-suc (drop o b) n 0 l ∙ ap (λ (x : ℕ). part o n b ++ (x ∷ [])) (get_or-drop o b n 0)

-- a part of the first n
pub part-take : (p m n : ℕ) (l : List ℕ) → p + m ≤ n → take m (drop p (take n l)) ≡ take m (drop p l)
part-take zero m n l h = take-take m n l (omega arith)
part-take (suc p) m zero l h = absurd (past h)
  where
    past : suc p + m ≤ 0 → ⊥
    past h = omega arith
part-take (suc p) m (suc n) [] h = refl
part-take (suc p) m (suc n) (x ∷ xs) h = part-take p m n xs (omega arith)

-- the same for the bytes from i up to t
pub part-rest : (i t : ℕ) (b : List ℕ) → i < t → t ≤ length b → part i (t - i) b ≡ get_or b i 0 ∷ part (i + 1) (t - (i + 1)) b
part-rest i t b h k =
    let n : t - i ≡ suc (t - (i + 1)) = omega arith in
    ap (λ (j : ℕ). part i j b) n ∙ part-cons i (t - (i + 1)) b (omega arith)

-- a part of a part
pub part-part : (o n p m : ℕ) (b : List ℕ) → p + m ≤ n → part p m (part o n b) ≡ part (o + p) m b
part-part o n p m b h = part-take p m n (drop o b) h ∙ ap (take m) (drop-drop p o b)

pub drop-part : (o n p : ℕ) (b : List ℕ) → p ≤ n → drop p (part o n b) ≡ part (o + p) (n - p) b
drop-part o n p b h =
    let l : length (drop p (part o n b)) ≤ n - p = simp (length-drop, length-take) (omega arith) in
    sym (take_all (n - p) (drop p (part o n b)) l) ∙ part-part o n p (n - p) b (omega arith)

pub all_zero-snoc : (b : List ℕ) (x : ℕ) → all_zero (b ++ (x ∷ [])) ≡ all_zero b && eqb x 0
unfolding all_zero
all_zero-snoc [] x = and-true (eqb x 0)
all_zero-snoc (y ∷ ys) x = ap (λ (t : Bool). eqb y 0 && t) (all_zero-snoc ys x) ∙ sym (and_assoc (eqb y 0) (all_zero ys) (eqb x 0))

-- a run of stores, and then another
pub sets-append : (l : List ℕ) (o : ℕ) (xs ys : List ℕ) → sets l o (xs ++ ys) ≡ sets (sets l o xs) (o + length xs) ys
sets-append l o [] ys = rw add-zero
sets-append l o (x ∷ xs) ys = rw (add-suc, ← suc-add) (sets-append (set l o x) (suc o) xs ys)

pub sets-snoc : (l : List ℕ) (o i : ℕ) (xs : List ℕ) (x : ℕ) → o + length xs ≡ i → set (sets l o xs) i x ≡ sets l o (xs ++ (x ∷ []))
sets-snoc l o i xs x h = ap (λ (j : ℕ). set (sets l o xs) j x) (sym h) ∙ sym (sets-append l o xs (x ∷ []))

pub sets-four : (l : List ℕ) (o w x y z : ℕ)
    → set (set (set (set l o w) (o + 1) x) (o + 2) y) (o + 3) z ≡ sets l o (w ∷ x ∷ y ∷ z ∷ [])
sets-four l o w x y z = rw (add-one, add-two, add-three)

-- the first n bytes of s put in at o
pub paste-sets : (b : List ℕ) (o : ℕ) (s : List ℕ) (n : ℕ) → o + n ≤ length b → n ≤ length s → paste b o s n ≡ sets b o (take n s)
paste-sets b o s n room h =
    let e : length (take n s) ≡ n = length-take-le n s h in
    sym (sets-eq (take n s) b o (omega arith) ∙ ap (λ (m : ℕ). take o b ++ take n s ++ drop (o + m) b) e)

-- what is written to the slice from o up to e
pub part-written : (b : List ℕ) (o e : ℕ) (ys zs : List ℕ) → ys ≡ zs → length zs ≡ e - o → o ≤ e → e ≤ length b → put_mid o (e - o) b ys ≡ sets b o zs
part-written b o e ys zs q l low room =
    put_mid-paste o (e - o) b ys zs (e - o) q refl (sym l)
    ∙ paste-sets b o zs (e - o) (omega arith) (omega arith)
    ∙ ap (sets b o) (take_all (e - o) zs (omega arith))

-- a loop that has copied the first i bytes of s
pub put_step : (l : List ℕ) (f i : ℕ) (s b : List ℕ) → i < length s → b ≡ sets l f (take i s) → set b (f + i) (get_or s i 0) ≡ sets l f (take (i + 1) s)
put_step l f i s b h e =
    let n : f + length (take i s) ≡ f + i = simp length-take (omega arith) in
    ap (λ (z : List ℕ). set z (f + i) (get_or s i 0)) e
    ∙ sets-snoc l f (f + i) (take i s) (get_or s i 0) n
    ∙ ap (sets l f) (sym (ap (λ (j : ℕ). take j s) (add-one i) ∙ take-suc s i 0 h))

pub get-step : (p : List ℕ) (f i : ℕ) (b : List ℕ) → i < length p → f + i < length b → take i p ≡ part f i b
    → take (i + 1) (set p i (get_or b (f + i) 0)) ≡ part f (i + 1) b
get-step p f i b h k e =
    rw add-one
    (take-suc-set p i (get_or b (f + i) 0) h ∙ ap (λ (z : List ℕ). z ++ (get_or b (f + i) 0 ∷ [])) e ∙ sym (part-snoc f i b k))

take-byte : (n : ℕ) (b : List ℕ) → ((i : ℕ) → get_or b i 0 < 256) → (i : ℕ) → get_or (take n b) i 0 < 256
take-byte zero b h i = lit< tt
take-byte (suc n) [] h i = lit< tt
take-byte (suc n) (x ∷ xs) h zero = h zero
take-byte (suc n) (x ∷ xs) h (suc i) = take-byte n xs (λ j. h (suc j)) i

append-byte : (a b : List ℕ) → ((i : ℕ) → get_or a i 0 < 256) → ((i : ℕ) → get_or b i 0 < 256) → (i : ℕ) → get_or (a ++ b) i 0 < 256
append-byte [] b h k i = k i
append-byte (x ∷ xs) b h k zero = h zero
append-byte (x ∷ xs) b h k (suc i) = append-byte xs b (λ j. h (suc j)) k i

zeros-byte : (n i : ℕ) → get_or (zeros n) i 0 < 256
zeros-byte zero i = lit< tt
zeros-byte (suc n) zero = lit< tt
zeros-byte (suc n) (suc i) = zeros-byte n i

pub block-zeros : (n : ℕ) → Block n (zeros n)
block-zeros n = record { len = length-replicate n 0; byte = zeros-byte n }

pub block-append : {m n : ℕ} {a b : List ℕ} → Block m a → Block n b → Block (m + n) (a ++ b)
block-append {m} {n} {a} {b} h k =
    record {
      len = length-append a b ∙ ap₂ ◌+◌ h.len k.len;
      byte = append-byte a b h.byte k.byte;
    }

-- a part of a block is a block
pub block-part : (o n : ℕ) {m : ℕ} {b : List ℕ} → o + n ≤ m → Block m b → Block n (part o n b)
block-part o n {m} {b} h k =
    record {
      len = simp (length-take, length-drop) (omega (arith, k.len));
      byte = take-byte n (drop o b) (λ i. rw get_or-drop (k.byte (o + i)));
    }

pub block-take : (m n : ℕ) {b : List ℕ} → Block (m + n) b → Block m (take m b)
block-take m n {b} k = block-part 0 m (omega arith) k

pub block-drop : (m n : ℕ) {b : List ℕ} → Block (m + n) b → Block n (drop m b)
block-drop m n {b} k =
    record {
      len = simp length-drop (omega (arith, k.len));
      byte = λ i. rw get_or-drop (k.byte (m + i));
    }

-- what stands between p and r, and what a write there gives
module _ (p q r : List ℕ) (o n : ℕ) (ho : length p ≡ o) (hq : length q ≡ n) where
  pub part-between : part o n (p ++ (q ++ r)) ≡ q
  part-between = ap (take n) (drop_at p (q ++ r) o ho) ∙ take_at q r n hq

  pub sets-between : (x : List ℕ) → length x ≡ n → sets (p ++ (q ++ r)) o x ≡ p ++ (x ++ r)
  sets-between x hx =
      let l : List ℕ = p ++ (q ++ r) in
      let room : o + length x ≤ length l = simp length-append (omega arith) in
      let front : take o l ≡ p = take_at p (q ++ r) o ho in
      let back : drop (o + length x) l ≡ r =
      sym (drop-drop (length x) o l) ∙ ap (drop (length x)) (drop_at p (q ++ r) o ho) ∙ drop_at q r (length x) (hq ∙ sym hx) in
      sets-eq x l o room ∙ ap₂ (λ (f b : List ℕ). f ++ x ++ b) front back ∙ append_assoc p x r

-- ## Two lists compared

pub same_refl : (a : List ℕ) → same_bytes a a ≡ true
unfolding same_bytes
same_refl [] = refl
same_refl (x ∷ xs) = (and-eq-true_iff (eqb x x) (same_bytes xs xs)).1 (eq-eqb x x refl, same_refl xs)

pub same-eq : (a b : List ℕ) → same_bytes a b ≡ true → a ≡ b
unfolding same_bytes
same-eq [] [] h = refl
same-eq [] (y ∷ ys) h = absurd (true≢false (sym h))
same-eq (x ∷ xs) [] h = absurd (true≢false (sym h))
same-eq (x ∷ xs) (y ∷ ys) h =
    let p = (and-eq-true_iff (eqb x y) (same_bytes xs ys)).0 h in
    ap₂ ◌∷◌ (eqb-true x y p.0) (same-eq xs ys p.1)

pub same-snoc : (a b : List ℕ) (x y : ℕ) → length a ≡ length b → same_bytes (a ++ (x ∷ [])) (b ++ (y ∷ [])) ≡ same_bytes a b && eqb x y
unfolding same_bytes
same-snoc [] [] x y e = and-true (eqb x y)
same-snoc [] (v ∷ vs) x y e = absurd (omega arith)
same-snoc (u ∷ us) [] x y e = absurd (omega arith)
same-snoc (u ∷ us) (v ∷ vs) x y e = ap (λ (t : Bool). eqb u v && t) (same-snoc us vs x y (omega arith)) ∙ sym (and_assoc (eqb u v) (same_bytes us vs) (eqb x y))

-- as `==` on slices tells it
pub same-pointwise : (a b : List ℕ) → pointwise eqb a b ≡ same_bytes a b
unfolding same_bytes
same-pointwise [] [] = refl
same-pointwise [] (y ∷ ys) = refl
same-pointwise (x ∷ xs) [] = refl
same-pointwise (x ∷ xs) (y ∷ ys) = ap (λ (t : Bool). eqb x y && t) (same-pointwise xs ys)
