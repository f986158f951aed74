-- Laws of specs/Number. Assumes nothing.
use Prim.Native.Nat.{ℕ, zero, suc, ◌+◌, ◌-◌, ◌*◌, ◌/◌, ◌%◌, ◌^◌, ◌≤◌, ◌<◌}
use native.Mathlib.Omega.{arith}
use native.Mathlib.Nat.{pow-suc, not-suc-le-zero, le_of_suc-le-suc}
use mathlib.Core.Path.{◌≡◌, refl, ap, ap₂, subst, ◌∙◌}
use mathlib.Core.Bool.{Bool, true, false, and-eq-true_iff}
use mathlib.Core.List.{List, [], ◌∷◌}
use lib.Dec.{leb, eqb, lit<, lit≤}
use lib.ListN.{length, get_or}
use borrow.Author.Tests.{le-leb, leb-true}
use Rattle.base.specs.Lists.{bit}
use Rattle.codec.specs.Bytes.{Block, part}
use Rattle.codec.specs.Form.{mapped}
use Rattle.codec.specs.Number.{digits, value, between, number, word, byte, mark, flag}
use Rattle.codec.proofs.BytesLaws.{part-cons}
use Rattle.codec.proofs.FormLaws.{Lawful, mapped-lawful}

pub block-digits : (n v : ℕ) → Block n (digits n v)
unfolding digits
block-digits zero v = record { len = refl; byte = λ i. lit< tt }
block-digits (suc n) v =
    let r = block-digits n (v / 256) in
    record { len = ap suc r.len; byte = at r }
  where
    at : Block n (digits n (v / 256)) → (i : ℕ) → get_or (v % 256 ∷ digits n (v / 256)) i 0 < 256
    at r zero = omega arith
    at r (suc i) = r.byte i

pub value-digits : (n v : ℕ) → v < 256 ^ n → value (digits n v) ≡ v
unfolding digits value
value-digits zero v h = omega arith
value-digits (suc n) v h =
    let e : 256 ^ suc n ≡ 256 ^ n * 256 = pow-suc 256 n in
    let r : value (digits n (v / 256)) ≡ v / 256 = value-digits n (v / 256) (omega arith) in
    omega arith

value-below : (b : List ℕ) → ((i : ℕ) → get_or b i 0 < 256) → value b < 256 ^ length b
unfolding value
value-below [] h = lit< tt
value-below (x ∷ xs) h =
    let r = value-below xs (λ i. h (suc i)) in
    let e : 256 ^ suc (length xs) ≡ 256 ^ length xs * 256 = pow-suc 256 (length xs) in
    omega (arith, h zero)

digits-of-value : (b : List ℕ) → ((i : ℕ) → get_or b i 0 < 256) → digits (length b) (value b) ≡ b
unfolding digits value
digits-of-value [] h = refl
digits-of-value (x ∷ xs) h =
    let low : (x + 256 * value xs) % 256 ≡ x = omega (arith, h zero) in
    let high : (x + 256 * value xs) / 256 ≡ value xs = omega (arith, h zero) in
    ap₂ ◌∷◌ low (ap (digits (length xs)) high ∙ digits-of-value xs (λ i. h (suc i)))

pub value-lt : (n : ℕ) (b : List ℕ) → Block n b → value b < 256 ^ n
value-lt n b k = subst (λ (z : ℕ). value b < 256 ^ z) k.len (value-below b k.byte)

pub digits_value : (n : ℕ) (b : List ℕ) → Block n b → digits n (value b) ≡ b
digits_value n b k = subst (λ (z : ℕ). digits z (value b) ≡ b) k.len (digits-of-value b k.byte)

-- four bytes, one by one
pub value-four : (o : ℕ) (b : List ℕ) → o + 4 ≤ length b
    → value (part o 4 b) ≡ get_or b o 0 + 256 * (get_or b (o + 1) 0 + 256 * (get_or b (o + 2) 0 + 256 * get_or b (o + 3) 0))
unfolding value
value-four o b h =
    let e₂ : o + 1 + 1 ≡ o + 2 = omega arith in
    let e₃ : o + 2 + 1 ≡ o + 3 = omega arith in
    let four : part o 4 b ≡ get_or b o 0 ∷ get_or b (o + 1) 0 ∷ get_or b (o + 2) 0 ∷ get_or b (o + 3) 0 ∷ [] =
    part-cons o 3 b (omega arith)
    ∙ ap (λ (z : List ℕ). get_or b o 0 ∷ z) (part-cons (o + 1) 2 b (omega arith))
    ∙ ap (λ (j : ℕ). get_or b o 0 ∷ get_or b (o + 1) 0 ∷ part j 2 b) e₂
    ∙ ap (λ (z : List ℕ). get_or b o 0 ∷ get_or b (o + 1) 0 ∷ z) (part-cons (o + 2) 1 b (omega arith))
    ∙ ap (λ (j : ℕ). get_or b o 0 ∷ get_or b (o + 1) 0 ∷ get_or b (o + 2) 0 ∷ part j 1 b) e₃
    ∙ ap (λ (z : List ℕ). get_or b o 0 ∷ get_or b (o + 1) 0 ∷ get_or b (o + 2) 0 ∷ z) (part-cons (o + 3) 0 b (omega arith)) in
    ap value four ∙ omega arith

-- one byte is its own number
pub value-byte : (o : ℕ) (b : List ℕ) → o < length b → value (part o 1 b) ≡ get_or b o 0
unfolding value
value-byte o b h = ap value (part-cons o 0 b h) ∙ omega arith

pub digits-byte : (v : ℕ) → v < 256 → digits 1 v ≡ v ∷ []
unfolding digits
digits-byte v h = ap (λ (x : ℕ). x ∷ []) (omega arith)

pub between-true : (lo hi v : ℕ) → between lo hi v ≡ true → (lo ≤ v) × (v ≤ hi)
between-true lo hi v h =
    let t = (and-eq-true_iff (leb lo v) (leb v hi)).0 h in
    (leb-true lo v t.0, leb-true v hi t.1)

pub true-between : (lo hi v : ℕ) → lo ≤ v → v ≤ hi → between lo hi v ≡ true
true-between lo hi v h k = (and-eq-true_iff (leb lo v) (leb v hi)).1 (le-leb lo v h, le-leb v hi k)

pub number-lawful : (n off lo hi : ℕ) → off ≤ lo → hi < 256 ^ n + off → Lawful (number n off lo hi)
unfolding number
number-lawful n off lo hi h k =
    record {
      stored = λ v r. block-digits n (v - off);
      accepts = λ v r. rw (whole v r) (true-between lo hi v r.0 r.1);
      back = λ v r. whole v r;
      sound = λ b s t. between-true lo hi (value b + off) t;
      forth = λ b s t. ap (digits n) (less b) ∙ digits_value n b s;
    }
  where
    whole : (v : ℕ) → (lo ≤ v) × (v ≤ hi) → value (digits n (v - off)) + off ≡ v
    whole v r =
        let e : value (digits n (v - off)) ≡ v - off = value-digits n (v - off) (omega arith) in
        omega arith

    less : (b : List ℕ) → value b + off - off ≡ value b
    less b = omega arith

-- what the code reads and writes of a number in one byte, at offset o of b
module _ (off lo hi : ℕ) where
  pub number-decode : (o : ℕ) (b : List ℕ) → o < length b → (number 1 off lo hi).decode (part o 1 b) ≡ get_or b o 0 + off
  unfolding number
  number-decode o b h = ap (λ (v : ℕ). v + off) (value-byte o b h)

  pub number-valid : (o : ℕ) (b : List ℕ) → o < length b → (number 1 off lo hi).valid (part o 1 b) ≡ between lo hi (get_or b o 0 + off)
  unfolding number
  number-valid o b h = ap (λ (v : ℕ). between lo hi (v + off)) (value-byte o b h)

  pub number-encode : (v : ℕ) → v < 256 + off → (number 1 off lo hi).encode v ≡ (v - off) ∷ []
  unfolding number
  number-encode v h = digits-byte (v - off) (omega arith)

pub word-lawful : Lawful word
word-lawful = number-lawful 4 0 0 (2 ^ 32 - 1) (lit≤ tt) (lit< tt)

pub word-decode : (b : List ℕ) → word.decode b ≡ value b
unfolding number
word-decode b = omega arith

pub word-encode : (v : ℕ) → word.encode v ≡ digits 4 v
unfolding number
word-encode v =
    let e : v - 0 ≡ v = omega arith in
    ap (digits 4) e

pub byte-lawful : (lo hi : ℕ) → hi < 256 → Lawful (byte lo hi)
byte-lawful lo hi h = number-lawful 1 0 lo hi (omega arith) (omega arith)

pub mark-lawful : (hi : ℕ) → hi ≤ 256 → Lawful (mark hi)
mark-lawful hi h = number-lawful 1 1 1 hi (omega arith) (omega arith)

pub flag-lawful : Lawful flag
unfolding flag number
flag-lawful =
    mapped-lawful (byte 0 1) (eqb 1) bit (λ b. Unit {0}) (byte-lawful 0 1 (lit< tt))
    (record { to-ok = λ a h. tt; from-ok = range; to-from = same; from-to = again })
  where
    range : (x : Bool) → Unit {0} → (0 ≤ bit x) × (bit x ≤ 1)
    range true u = (lit≤ tt, lit≤ tt)
    range false u = (lit≤ tt, lit≤ tt)

    same : (x : Bool) → Unit {0} → eqb 1 (bit x) ≡ x
    same true u = refl
    same false u = refl

    again : (a : ℕ) → (0 ≤ a) × (a ≤ 1) → bit (eqb 1 a) ≡ a
    again zero h = refl
    again (suc zero) h = refl
    again (suc (suc a)) h = absurd (not-suc-le-zero (le_of_suc-le-suc h.1))

pub flag-decode : (o : ℕ) (b : List ℕ) → o < length b → flag.decode (part o 1 b) ≡ eqb 1 (get_or b o 0)
unfolding flag mapped
flag-decode o b h =
    let e : get_or b o 0 + 0 ≡ get_or b o 0 = omega arith in
    ap (eqb 1) (number-decode 0 0 1 o b h ∙ e)

pub flag-valid : (o : ℕ) (b : List ℕ) → o < length b → flag.valid (part o 1 b) ≡ between 0 1 (get_or b o 0)
unfolding flag mapped
flag-valid o b h =
    let e : get_or b o 0 + 0 ≡ get_or b o 0 = omega arith in
    number-valid 0 0 1 o b h ∙ ap (between 0 1) e

pub flag-encode : (x : Bool) → flag.encode x ≡ bit x ∷ []
unfolding flag mapped
flag-encode true = number-encode 0 0 1 1 (lit< tt)
flag-encode false = number-encode 0 0 1 0 (lit< tt)
