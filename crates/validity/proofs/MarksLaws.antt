-- Laws of specs/Marks. Assumes nothing.
use Prim.Native.Nat.{ℕ, zero, suc, ◌+◌, ◌-◌, ◌*◌, ◌≤◌, ◌<◌}
use native.Mathlib.Omega.{arith}
use native.Mathlib.Nat.{mul-one, not-suc-le-zero, le_of_suc-le-suc}
use mathlib.Core.Path.{◌≡◌, refl, sym, ap, ap₂, ◌∙◌}
use mathlib.Core.Bool.{Bool, true, false, not, ◌&&◌, ◌||◌}
use mathlib.Core.List.{List, [], ◌∷◌}
use lib.Dec.{eqb, lit≤}
use lib.ListN.{length, get_or, drop, length-take, length-drop}
use lib.Seq.{get_or-take, get_or-drop}
use borrow.Author.Tests.{eq-eqb, ne_eqb, eqb-true, eqb-false, lt-ltb, le-ltb}
use Rattle.base.specs.Lists.{bit}
use Rattle.base.specs.Numbers.{numbers}
use Rattle.base.proofs.Bools.{by_cases}
use Rattle.base.proofs.NumbersLaws.{length-numbers}
use Rattle.model.specs.Hall.{max_entries}
use Rattle.codec.specs.Bytes.{part}
use Rattle.codec.specs.Form.{mapped}
use Rattle.codec.specs.Number.{value, number, flag}
use Rattle.codec.specs.Cells.{decode_all, cells}
use Rattle.codec.specs.Table.{lookup, table, flags}
use Rattle.validity.specs.Marks.{byte_values, messages_from, message_marked, flag_at, set_ok}

pub from-small : (sent : Bool) → messages_from sent ≤ byte_values
from-small true = lit≤ tt
from-small false = lit≤ tt

-- the table's byte of a message
pub message-at : (t : List ℕ) (sent : Bool) (x : ℕ) → x < byte_values → message_marked t sent x ≡ eqb (get_or t (messages_from sent + x) 0) 0
unfolding message_marked
message-at t sent x h = rw (lt-ltb x byte_values h)

-- a number that is no byte
pub message-past : (t : List ℕ) (sent : Bool) (x : ℕ) → byte_values ≤ x → message_marked t sent x ≡ false
unfolding message_marked
message-past t sent x h = rw (le-ltb x byte_values h)

-- a byte made of a test is 0 where the test fails
pub bit-zero : (t : Bool) → eqb (bit t) 0 ≡ not t
bit-zero true = refl
bit-zero false = refl

-- a flag s asks t: what the two tests come to is 0 where it holds
pub asked-zero : (s t : Bool) → eqb (bit (s && not t)) 0 ≡ (not s || t)
asked-zero true true = refl
asked-zero true false = refl
asked-zero false t = refl

-- what is asked where the flag x is set
pub flag-on : (x : ℕ) (t : Bool) → 1 ≡ x → (not (eqb 1 x) || t) ≡ t
flag-on x t e = rw (eq-eqb 1 x e)

pub flag_off : (x : ℕ) (t : Bool) → (1 ≡ x → ⊥) → (not (eqb 1 x) || t) ≡ true
flag_off x t e = rw (ne_eqb 1 x e)

-- nothing where it is not set: the test alone says so
pub unset : (x : ℕ) (t : Bool) → (1 ≡ x → ⊥) → not (eqb 1 x) ≡ (not (eqb 1 x) || t)
unset x t e = rw (ne_eqb 1 x e)

-- the flag at j and its entry's byte in the table
pub set_at : (t b : List ℕ) (o j : ℕ) → j < max_entries → set_ok t b o (j + 1) ≡ (not (eqb 1 (get_or b (o + j) 0)) || eqb (get_or t (j + 1) 0) 0)
unfolding set_ok
set_at t b o j h =
    let e : j + 1 - 1 ≡ j = omega arith in
    let f : messages_from false + (j + 1) ≡ j + 1 = omega arith in
    ap₂ (λ (s u : Bool). not s || u) (ap (λ (i : ℕ). eqb 1 (get_or b (o + i) 0)) e)
    (message-at t false (j + 1) (omega arith) ∙ ap (λ (i : ℕ). eqb (get_or t i 0) 0) f)

-- flags, as the form has them
lookup-number : {A : Type 0} (s n : ℕ) (xs : List A) (d : A) (j : ℕ) → s ≤ j → j < s + n → n ≤ length xs → lookup (numbers s n) d xs j ≡ get_or xs (j - s) d
unfolding lookup numbers
lookup-number s zero xs d j h k l = absurd (past h k)
  where
    past : s ≤ j → j < s + 0 → ⊥
    past h k = omega arith
lookup-number s (suc n) [] d j h k l = absurd (not-suc-le-zero l)
lookup-number {A} s (suc n) (x ∷ xs) d j h k l =
    by_cases (eqb j s) (λ e. rw e (here (eqb-true j s e)))
    (λ e. rw e (lookup-number (suc s) n xs d j (above (eqb-false j s e)) (omega arith) (le_of_suc-le-suc l) ∙ there (eqb-false j s e)))
  where
    here : j ≡ s → x ≡ get_or (x ∷ xs) (j - s) d
    here e =
        let z : j - s ≡ 0 = omega arith in
        ap (λ (i : ℕ). get_or (x ∷ xs) i d) (sym z)

    above : (j ≡ s → ⊥) → suc s ≤ j
    above ne = omega arith

    there : (j ≡ s → ⊥) → get_or xs (j - suc s) d ≡ get_or (x ∷ xs) (j - s) d
    there ne =
        let z : j - s ≡ suc (j - suc s) = omega arith in
        ap (λ (i : ℕ). get_or (x ∷ xs) i d) (sym z)

length-flags : (m : ℕ) (b : List ℕ) → length (decode_all flag m b) ≡ m
unfolding decode_all
length-flags zero b = refl
length-flags (suc m) b = ap suc (length-flags m (drop 1 b))

decode-flag : (m i : ℕ) (b : List ℕ) → i < m → m ≤ length b → get_or (decode_all flag m b) i false ≡ eqb 1 (get_or b i 0)
unfolding decode_all flag mapped number value
decode-flag zero i b h l = absurd (not-suc-le-zero h)
decode-flag (suc m) i [] h l = absurd (not-suc-le-zero l)
decode-flag (suc m) zero (x ∷ xs) h l =
    let e : x + 0 + 0 ≡ x = omega arith in
    ap (eqb 1) e
decode-flag (suc m) (suc i) (x ∷ xs) h l = decode-flag m i xs (le_of_suc-le-suc h) (le_of_suc-le-suc l)

pub flags-at : (n o : ℕ) (b : List ℕ) → o + n ≤ length b → (k : ℕ) → 1 ≤ k → k ≤ n → (flags n).decode (part o (n * 1) b) k ≡ flag_at b o k
unfolding flags table mapped cells
flags-at n o b h k l u =
    let fits : length (part o n b) ≡ n = simp (length-take, length-drop) (omega arith) in
    ap₂ (λ (c j : ℕ). lookup (numbers 1 n) false (decode_all flag c (part o j b)) k) (length-numbers 1 n) (mul-one n)
    ∙ lookup-number 1 n (decode_all flag n (part o n b)) false k l (omega arith) (omega (arith, length-flags n (part o n b)))
    ∙ decode-flag n (k - 1) (part o n b) (omega arith) (omega arith)
    ∙ ap (eqb 1) (get_or-take n (drop o b) (k - 1) 0 (omega arith) ∙ get_or-drop o b (k - 1) 0)
