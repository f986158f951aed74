-- Laws of the fields that are numbers: a number told in decimal is read back. Assumes nothing.
use Prim.Native.Nat.{ℕ, ◌+◌, ◌/◌, ◌%◌, ◌^◌, ◌≤◌, ◌<◌}
use native.Mathlib.Omega.{arith}
use mathlib.Core.Path.{◌≡◌, refl, sym, ap, ◌∙◌}
use mathlib.Core.Bool.{Bool, true, false, not, and-false, true≢false}
use mathlib.Core.List.{List, [], ◌∷◌, ◌++◌}
use lib.Dec.{leb, ltb, lit<}
use lib.ListN.{length}
use borrow.Author.Tests.{ltb-true, lt-ltb, le-leb, not-true}
use Rattle.base.specs.Lists.{all, is_empty}
use Rattle.base.specs.Numbers.{within, numbers}
use Rattle.base.proofs.Bools.{by_cases, and-true}
use Rattle.base.proofs.ListsLaws.{all-has, each_append}
use Rattle.base.proofs.NumbersLaws.{has-numbers}
use Rattle.model.specs.Listing.{decimal}
use Rattle.text.proofs.Decimal.{last_digit, decimal-ind, decimal-some}
use Rattle.story.specs.Fields.{is_break}
use Rattle.story.specs.Numbers.{Value, value, no_value, with_digit, goes_on, digits_from, number_of}
use Rattle.story.proofs.Computing.{computing}
use Rattle.story.proofs.FieldsLaws.{Unbroken, Field}

-- what is computed of 0 to n - 1 holds of each
pub below : (p : ℕ → Bool) (n : ℕ) → all p (numbers 0 n) ≡ true → (x : ℕ) → x < n → p x ≡ true
below p n e x h = all-has p (numbers 0 n) x e (has-numbers 0 n x (omega arith) (omega arith))

-- ## What is read is a word of 32 bits

digits-on : (n b : ℕ) (bs : List ℕ) → goes_on n b ≡ true → digits_from n (b ∷ bs) ≡ digits_from (with_digit n b) bs
unfolding digits_from
digits-on n b bs t = rw (t, digits_from)

digits-off : (n b : ℕ) (bs : List ℕ) → goes_on n b ≡ false → digits_from n (b ∷ bs) ≡ no_value
unfolding digits_from
digits-off n b bs t = rw (t, digits_from)

-- a number that a digit goes on to is one
on_word : (n b : ℕ) → goes_on n b ≡ true → with_digit n b < 2 ^ 32
unfolding goes_on
on_word n b t =
    by_cases (ltb (with_digit n b) (2 ^ 32)) (ltb-true (with_digit n b) (2 ^ 32))
    (λ f. absurd (true≢false (sym (rw (f, and-false) at t))))

digits-word : (n : ℕ) (bs : List ℕ) → n < 2 ^ 32 → (digits_from n bs).number < 2 ^ 32
unfolding digits_from
digits-word n [] h = h
digits-word n (b ∷ bs) h =
    by_cases (goes_on n b) (λ t. rw (digits-on n b bs t) (digits-word (with_digit n b) bs (on_word n b t)))
    (λ t. rw (digits-off n b bs t) (lit< tt))

pub number_word : (f : List ℕ) → (number_of f).number < 2 ^ 32
unfolding number_of
number_word [] = lit< tt
number_word (b ∷ bs) = digits-word 0 (b ∷ bs) (lit< tt)

-- ## A number told is read back

-- a digit of a number that is a word goes on
digit-on : (x : ℕ) → x < 2 ^ 32 → goes_on (x / 10) (last_digit x) ≡ true
unfolding goes_on within
digit-on x h =
    and-true (within 48 57 (last_digit x)) (ltb (with_digit (x / 10) (last_digit x)) (2 ^ 32))
    (and-true (leb 48 (last_digit x)) (leb (last_digit x) 57) (le-leb 48 (last_digit x) (omega arith)) (le-leb (last_digit x) 57 (omega arith)))
    (lt-ltb (with_digit (x / 10) (last_digit x)) (2 ^ 32) (omega arith))

-- and makes it
digits_last : (x : ℕ) → x < 2 ^ 32 → digits_from (x / 10) (last_digit x ∷ []) ≡ value x
unfolding digits_from
digits_last x h =
    let e : with_digit (x / 10) (last_digit x) ≡ x = omega arith in
    digits-on (x / 10) (last_digit x) [] (digit-on x h) ∙ ap value e

-- digits after others
digits_append : (n m : ℕ) (bs cs : List ℕ) → digits_from n bs ≡ value m → digits_from n (bs ++ cs) ≡ digits_from m cs
unfolding digits_from
digits_append n m [] cs e = ap (λ (x : Value). digits_from x.number cs) e
digits_append n m (b ∷ bs) cs e =
    by_cases (goes_on n b)
    (λ t. digits-on n b (bs ++ cs) t ∙ digits_append (with_digit n b) m bs cs (sym (digits-on n b bs t) ∙ e))
    (λ t. let z : true ≡ false = ap (λ (x : Value). x.ok) (sym e ∙ digits-off n b bs t) in absurd (true≢false z))

abbrev ReadBack : ℕ → List ℕ → Type 0
ReadBack x l = x < 2 ^ 32 → digits_from 0 l ≡ value x

read_small : (x : ℕ) → x < 10 → ReadBack x (last_digit x ∷ [])
read_small x h k =
    let z : 0 ≡ x / 10 = omega arith in
    ap (λ (n : ℕ). digits_from n (last_digit x ∷ [])) z ∙ digits_last x k

read_more : (x : ℕ) → 10 ≤ x → ReadBack (x / 10) (decimal (x / 10)) → ReadBack x (decimal (x / 10) ++ (last_digit x ∷ []))
read_more x h ih k = digits_append 0 (x / 10) (decimal (x / 10)) (last_digit x ∷ []) (ih (omega arith)) ∙ digits_last x k

-- ## Its bytes

-- no digit ends a field
digit-goes : (x : ℕ) → is_break (last_digit x) ≡ false
unfolding computing
digit-goes x = not-true (is_break (last_digit x)) (below (λ d. not (is_break (48 + d))) 10 refl (x % 10) (omega arith))

some_bytes : (l : List ℕ) → 1 ≤ length l → is_empty l ≡ false
unfolding is_empty
some_bytes [] h = absurd (omega arith)
some_bytes (b ∷ bs) h = refl

pub decimal-field : (x : ℕ) → Field (decimal x)
decimal-field x =
    record {
      some = some_bytes (decimal x) (decimal-some x);
      unbroken =
          decimal-ind (λ x l. Unbroken l) (λ x h. (digit-goes x, tt))
          (λ x h ih. each_append (λ (b : ℕ). is_break b ≡ false) (decimal (x / 10)) (last_digit x ∷ []) ih (digit-goes x, tt))
          x;
    }

-- a field with a byte is read as its digits
number_digits : (f : List ℕ) → is_empty f ≡ false → number_of f ≡ digits_from 0 f
unfolding number_of is_empty
number_digits [] e = absurd (true≢false e)
number_digits (b ∷ bs) e = refl

pub number-decimal : (x : ℕ) → x < 2 ^ 32 → number_of (decimal x) ≡ value x
number-decimal x h = number_digits (decimal x) (decimal-field x).some ∙ decimal-ind ReadBack read_small read_more x h
