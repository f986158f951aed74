-- Numbers in a range, little-endian in n bytes. Assumes nothing.
use Rattle.std.specs.Prelude.{ℕ, zero, suc, ◌+◌, ◌-◌, ◌*◌, ◌/◌, ◌%◌, ◌^◌, ◌≤◌, Bool, ◌&&◌, List, [], ◌∷◌, leb, eqb}
use Rattle.base.specs.Lists.{bit}
use Rattle.codec.specs.Form.{Form, mapped}

-- the n bytes of v, least first
unfoldable pub digits : ℕ → ℕ → List ℕ
digits zero v = []
digits (suc n) v = v % 256 ∷ digits n (v / 256)

-- the number whose bytes are b, least first
unfoldable pub value : List ℕ → ℕ
value [] = 0
value (x ∷ xs) = x + 256 * value xs

-- is v in lo .. hi?
abbrev pub between : ℕ → ℕ → ℕ → Bool
between lo hi v = leb lo v && leb v hi

-- a number of lo .. hi in n bytes, stored less `off`: with off = lo the least number is stored as 0
unfoldable pub number : (n off lo hi : ℕ) → Form ℕ n
number n off lo hi =
    record {
      encode = λ v. digits n (v - off);
      decode = λ b. value b + off;
      valid = λ b. between lo hi (value b + off);
      ok = λ v. (lo ≤ v) × (v ≤ hi);
    }

-- a 32-bit word
abbrev pub word : Form ℕ 4
word = number 4 0 0 (2 ^ 32 - 1)

-- a byte in lo .. hi, stored as it is
abbrev pub byte : ℕ → ℕ → Form ℕ 1
byte lo hi = number 1 0 lo hi

-- a mark, a number of 1 .. hi in one byte, stored less 1 so that the first mark is 0
abbrev pub mark : ℕ → Form ℕ 1
mark hi = number 1 1 1 hi

-- a Bool in one byte
unfoldable pub flag : Form Bool 1
flag = mapped (byte 0 1) (eqb 1) bit (λ b. Unit {0})
