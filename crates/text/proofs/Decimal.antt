-- Decimal numbers: the digits of x are those of x / 10 and one more; how many they are.
-- Assumes nothing.
use Prim.Native.Nat.{ℕ, zero, suc, ◌+◌, ◌/◌, ◌%◌, ◌^◌, ◌≤◌, ◌<◌}
use native.Mathlib.Omega.{arith}
use native.Mathlib.Numerals.{add-one}
use mathlib.Core.Path.{◌≡◌, refl, sym, ap, subst, ◌∙◌}
use mathlib.Core.List.{List, [], ◌∷◌, ◌++◌, append_assoc}
use lib.Dec.{ltb}
use lib.ListN.{length, length-append}
use borrow.Author.Tests.{ltb-true, ltb-false, lt-ltb, le-ltb}
use Rattle.base.proofs.Bools.{by_cases}
use Rattle.model.specs.Listing.{digits, decimal}

-- the last digit of x
abbrev pub last_digit : ℕ → ℕ
last_digit x = 48 + x % 10

digits-small : (f x : ℕ) (rest : List ℕ) → x < 10 → digits (suc f) x rest ≡ last_digit x ∷ rest
unfolding digits
digits-small f x rest h = rw (lt-ltb x 10 h, digits)

digits_more : (f x : ℕ) (rest : List ℕ) → 10 ≤ x → digits (suc f) x rest ≡ digits f (x / 10) (last_digit x ∷ rest)
unfolding digits
digits_more f x rest h = rw (le-ltb x 10 h, digits)

-- below ten or not
by_size : {X : Type 0} (x : ℕ) → (x < 10 → X) → (10 ≤ x → X) → X
by_size x f g = by_cases (ltb x 10) (λ e. f (ltb-true x 10 e)) (λ e. g (ltb-false x 10 e))

digits-rest : (f x : ℕ) (rest : List ℕ) → digits f x rest ≡ digits f x [] ++ rest
unfolding digits
digits-rest zero x rest = refl
digits-rest (suc f) x rest =
    by_size x (λ h. digits-small f x rest h ∙ ap (λ (l : List ℕ). l ++ rest) (sym (digits-small f x [] h)))
    (λ h.
    digits_more f x rest h
    ∙ digits-rest f (x / 10) (last_digit x ∷ rest)
    ∙ sym (append_assoc (digits f (x / 10) []) (last_digit x ∷ []) rest)
    ∙ ap (λ (l : List ℕ). l ++ rest) (sym (digits_more f x [] h ∙ digits-rest f (x / 10) (last_digit x ∷ []))))

-- x / 10 is below x, and has its digits with one fewer
fewer : (n x : ℕ) → x < suc n → 10 ≤ x → x / 10 < n
fewer n x h l = omega arith

none : (x : ℕ) → x < 0 → ⊥
none x h = omega arith

-- any number of digits above x is enough
digits-enough : (f g x : ℕ) (rest : List ℕ) → x < f → x < g → digits f x rest ≡ digits g x rest
digits-enough zero g x rest h k = absurd (none x h)
digits-enough (suc f) zero x rest h k = absurd (none x k)
digits-enough (suc f) (suc g) x rest h k =
    by_size x (λ l. digits-small f x rest l ∙ sym (digits-small g x rest l))
    (λ l.
    digits_more f x rest l
    ∙ digits-enough f g (x / 10) (last_digit x ∷ rest) (fewer f x h l) (fewer g x k l)
    ∙ sym (digits_more g x rest l))

pub decimal-small : (x : ℕ) → x < 10 → decimal x ≡ last_digit x ∷ []
unfolding decimal
decimal-small x h = rw add-one (digits-small x x [] h)

pub decimal-more : (x : ℕ) → 10 ≤ x → decimal x ≡ decimal (x / 10) ++ (last_digit x ∷ [])
unfolding decimal
decimal-more x h =
    let own : x / 10 < x / 10 + 1 = omega arith in
    ap (λ (n : ℕ). digits n x []) (add-one x)
    ∙ digits_more x x [] h
    ∙ digits-rest x (x / 10) (last_digit x ∷ [])
    ∙ ap (λ (l : List ℕ). l ++ (last_digit x ∷ [])) (digits-enough x (x / 10 + 1) (x / 10) [] (fewer x x (omega arith) h) own)

pub length-small : (x : ℕ) → x < 10 → length (decimal x) ≡ 1
length-small x h = ap length (decimal-small x h)

pub length_more : (x : ℕ) → 10 ≤ x → length (decimal x) ≡ length (decimal (x / 10)) + 1
length_more x h = ap length (decimal-more x h) ∙ length-append (decimal (x / 10)) (last_digit x ∷ [])

-- what holds of one digit, and of x where it holds of x / 10, holds of every x
module _ (P : ℕ → List ℕ → Type 0)
    (small : (x : ℕ) → x < 10 → P x (last_digit x ∷ []))
    (more : (x : ℕ) → 10 ≤ x → P (x / 10) (decimal (x / 10)) → P x (decimal (x / 10) ++ (last_digit x ∷ []))) where
  below : (n x : ℕ) → x < n → P x (decimal x)
  below zero x h = absurd (none x h)
  below (suc n) x h =
      by_size x (λ l. subst (P x) (sym (decimal-small x l)) (small x l))
      (λ l. subst (P x) (sym (decimal-more x l)) (more x l (below n (x / 10) (fewer n x h l))))

  pub decimal-ind : (x : ℕ) → P x (decimal x)
  decimal-ind x = below (suc x) x (omega arith)

-- at least one digit
pub decimal-some : (x : ℕ) → 1 ≤ length (decimal x)
decimal-some = decimal-ind (λ x l. 1 ≤ length l) (λ x h. omega arith) (λ x h i. simp length-append (omega arith))

-- a number below 10 ^ n has at most n
abbrev Short : ℕ → List ℕ → Type 0
Short x l = (n : ℕ) → 1 ≤ n → x < 10 ^ n → length l ≤ n

longer : (x : ℕ) (l : List ℕ) → 10 ≤ x → Short (x / 10) l → Short x (l ++ (last_digit x ∷ []))
longer x l h i zero g k = omega arith
longer x l h i (suc zero) g k = absurd (past k)
  where
    past : x < 10 ^ 1 → ⊥
    past k = omega arith
longer x l h i (suc (suc n)) g k = simp length-append (omega (arith, i (suc n) (omega arith) (omega arith)))

pub decimal-length : (x n : ℕ) → 1 ≤ n → x < 10 ^ n → length (decimal x) ≤ n
decimal-length = decimal-ind Short (λ x h n g k. g) (λ x h. longer x (decimal (x / 10)) h)

-- a 32-bit number has at most ten
pub decimal-word : (x : ℕ) → x < 2 ^ 32 → length (decimal x) ≤ 10
decimal-word x h = decimal-length x 10 (omega arith) (omega arith)
