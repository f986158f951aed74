-- Laws of specs/ByteList. Assumes nothing.
use Prim.Native.Nat.{ℕ, suc, ◌+◌, ◌≤◌, ◌<◌, zero, ◌-◌, ◌*◌}
use native.Mathlib.Omega.{arith}
use native.Mathlib.Numerals.{add-one, one-add}
use mathlib.Core.Path.{◌≡◌, sym, ap, ◌∙◌, refl, ap₂, subst}
use mathlib.Core.Bool.{Bool, true, false, ◌&&◌, and-eq-true_iff}
use mathlib.Core.List.{List, [], ◌∷◌, ◌++◌}
use lib.ListN.{length, get_or, set, take, drop, length-take, length-drop}
use lib.Seq.{take-suc-set, sets, take-take}
use borrow.Author.Tests.{leb-true, le-leb, lt-leb}
use native.Mathlib.Nat.{mul-one, not-suc-le-zero, le_of_suc-le-suc}
use lib.Dec.{leb}
use Rattle.base.specs.Lists.{Each}
use Rattle.codec.specs.Bytes.{zeros, part, all_zero}
use Rattle.codec.specs.Number.{number, byte, between, digits, value}
use Rattle.codec.specs.Cells.{encode_all, decode_all, valid_all}
use Rattle.codec.specs.Bounded.{Within, bounded}
use Rattle.codec.specs.ByteList.{list_at, list_bytes, all_in}
use Rattle.codec.proofs.BytesLaws.{part-cons, drop-part, sets-append}
use Rattle.codec.proofs.NumberLaws.{digits-byte}
use Rattle.codec.proofs.BoundedLaws.{bounded-encode, bounded-decode, bounded-valid}

-- to write the count, then the bytes, then the zeros is to write the list
pub write-list : (b : List ℕ) (o cap n : ℕ) (xs : List ℕ) → length xs ≡ n
    → sets (sets (set b o n) (o + 1) xs) (o + 1 + n) (zeros (o + 1 + cap - (o + 1 + n))) ≡ sets b o (list_bytes cap xs)
write-list b o cap n xs e = subst (λ (m : ℕ). sets (sets (set b o m) (o + 1) xs) (o + 1 + m) (zeros (o + 1 + cap - (o + 1 + m))) ≡ sets b o (list_bytes cap xs)) e whole
  where
    c : ℕ
    c = length xs

    rest : o + 1 + cap - (o + 1 + c) ≡ cap - c
    rest = omega arith

    whole : sets (sets (set b o c) (o + 1) xs) (o + 1 + c) (zeros (o + 1 + cap - (o + 1 + c))) ≡ sets b o (list_bytes cap xs)
    whole =
        ap (λ (m : ℕ). sets (sets (set b o c) (o + 1) xs) (o + 1 + c) (zeros m)) rest
        ∙ sym (sets-append (set b o c) (o + 1) xs (zeros (cap - c)))
        ∙ ap (λ (j : ℕ). sets (set b o c) j (xs ++ zeros (cap - c))) (add-one o)

-- what the code writes, reads and tests is the form of a bounded list of bytes
module _ (lo hi : ℕ) where
  pub encode-bytes : hi < 256 → (xs : List ℕ) → Each (byte lo hi).ok xs → encode_all (byte lo hi) xs ≡ xs
  unfolding number encode_all
  encode-bytes h [] a = refl
  encode-bytes h (x ∷ xs) a =
      let e : x - 0 ≡ x = omega arith in
      ap₂ ◌++◌ (ap (digits 1) e ∙ digits-byte x (omega (arith, a.0.1))) (encode-bytes h xs a.1)

  pub decode-bytes : (m : ℕ) (b : List ℕ) → m ≤ length b → decode_all (byte lo hi) m b ≡ take m b
  unfolding number decode_all value
  decode-bytes zero b h = refl
  decode-bytes (suc m) [] h = absurd (not-suc-le-zero h)
  decode-bytes (suc m) (x ∷ xs) h =
      let e : x + 0 + 0 ≡ x = omega arith in
      ap₂ ◌∷◌ e (decode-bytes m xs (le_of_suc-le-suc h))

  pub valid-bytes : (m : ℕ) (b : List ℕ) → m ≤ length b → valid_all (byte lo hi) m b ≡ all_in lo hi (take m b)
  unfolding number valid_all value all_in
  valid-bytes zero b h = refl
  valid-bytes (suc m) [] h = absurd (not-suc-le-zero h)
  valid-bytes (suc m) (x ∷ xs) h =
      let e : x + 0 + 0 ≡ x = omega arith in
      ap₂ (λ (z : ℕ) (t : Bool). between lo hi z && t) e (valid-bytes m xs (le_of_suc-le-suc h))

  pub encode-list : hi < 256 → (cap : ℕ) → cap < 256 → (xs : List ℕ) → Within (byte lo hi).ok cap xs
      → (bounded (byte lo hi) cap).encode xs ≡ list_bytes cap xs
  encode-list h cap k xs w =
      bounded-encode (byte lo hi) cap xs (omega (arith, w.0))
      ∙ ap₂ (λ (e : List ℕ) (n : ℕ). length xs ∷ (e ++ zeros n)) (encode-bytes h xs w.1) (mul-one (cap - length xs))

  -- the list at offset o of b, with room for cap
  module _ (cap o : ℕ) (b : List ℕ) (h : o + (1 + cap) ≤ length b) where
    opened : part o (1 + cap) b ≡ get_or b o 0 ∷ part (o + 1) cap b
    opened = ap (λ (n : ℕ). part o n b) (one-add cap) ∙ part-cons o cap b (omega arith)

    places : length (part (o + 1) cap b) ≡ cap
    places = simp (length-take, length-drop) (omega arith)

    pub decode-list : get_or b o 0 ≤ cap → (bounded (byte lo hi) cap).decode (part o (1 + cap) b) ≡ list_at b o
    decode-list k =
        ap (bounded (byte lo hi) cap).decode opened
        ∙ bounded-decode (byte lo hi) cap (get_or b o 0) (part (o + 1) cap b)
        ∙ decode-bytes (get_or b o 0) (part (o + 1) cap b) (omega (arith, places))
        ∙ take-take (get_or b o 0) cap (drop (o + 1) b) k

    counted : (bounded (byte lo hi) cap).valid (part o (1 + cap) b)
        ≡ leb (get_or b o 0) cap && (valid_all (byte lo hi) (get_or b o 0) (part (o + 1) cap b) && all_zero (drop (get_or b o 0 * 1) (part (o + 1) cap b)))
    counted = ap (bounded (byte lo hi) cap).valid opened ∙ bounded-valid (byte lo hi) cap (get_or b o 0) (part (o + 1) cap b)

    -- what is valid has a count within the capacity
    pub valid-list-count : (bounded (byte lo hi) cap).valid (part o (1 + cap) b) ≡ true → get_or b o 0 ≤ cap
    valid-list-count v =
        leb-true (get_or b o 0) cap
        ((and-eq-true_iff (leb (get_or b o 0) cap)
        (valid_all (byte lo hi) (get_or b o 0) (part (o + 1) cap b) && all_zero (drop (get_or b o 0 * 1) (part (o + 1) cap b)))).0
        (sym counted ∙ v)).0

    -- a count past the capacity
    pub valid-list-over : cap < get_or b o 0 → (bounded (byte lo hi) cap).valid (part o (1 + cap) b) ≡ false
    valid-list-over k = counted ∙ rw (lt-leb (get_or b o 0) cap k)

    -- else it is valid if the bytes are in range, r, and the others 0, z, as the code finds them
    pub valid-list : get_or b o 0 ≤ cap → (r z : Bool)
        → r ≡ all_in lo hi (part (o + 1) (o + 1 + get_or b o 0 - (o + 1)) b)
        → z ≡ all_zero (part (o + 1 + get_or b o 0) (o + 1 + cap - (o + 1 + get_or b o 0)) b)
        → (bounded (byte lo hi) cap).valid (part o (1 + cap) b) ≡ r && z
    valid-list k r z e f = counted ∙ rw (le-leb c cap k) (ap₂ ◌&&◌ inside outside)
      where
        c : ℕ
        c = get_or b o 0

        used : o + 1 + c - (o + 1) ≡ c
        used = omega arith

        left : o + 1 + cap - (o + 1 + c) ≡ cap - c
        left = omega arith

        inside : valid_all (byte lo hi) c (part (o + 1) cap b) ≡ r
        inside =
            valid-bytes c (part (o + 1) cap b) (omega (arith, places))
            ∙ ap (all_in lo hi) (take-take c cap (drop (o + 1) b) k)
            ∙ ap (λ (n : ℕ). all_in lo hi (part (o + 1) n b)) (sym used)
            ∙ sym e

        outside : all_zero (drop (c * 1) (part (o + 1) cap b)) ≡ z
        outside =
            ap all_zero (ap (λ (n : ℕ). drop n (part (o + 1) cap b)) (mul-one c) ∙ drop-part (o + 1) cap c b k)
            ∙ ap (λ (n : ℕ). all_zero (part (o + 1 + c) n b)) (sym left)
            ∙ sym f

-- x after the first n places
pub take-push : (xs : List ℕ) (n x : ℕ) → n < length xs → take (n + 1) (set xs n x) ≡ take n xs ++ (x ∷ [])
take-push xs n x h = ap (λ (k : ℕ). take k (set xs n x)) (add-one n) ∙ take-suc-set xs n x h
