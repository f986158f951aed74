-- Laws of the fields that are sets: a set told is read back. Assumes nothing.
use Prim.Native.Nat.{ℕ, ◌+◌, ◌-◌, ◌^◌, ◌<◌}
use native.Mathlib.Omega.{arith}
use mathlib.Core.Path.{◌≡◌, refl, sym, ap, ◌∙◌}
use mathlib.Core.Bool.{Bool, true, false, not, ◌&&◌, ◌||◌}
use mathlib.Core.List.{List, [], ◌∷◌}
use lib.Dec.{eqb, ltb, lit<}
use borrow.Author.Tests.{eqb-true, ltb-true, not-true}
use Rattle.base.specs.Lists.{all, any, is_empty}
use Rattle.base.specs.Numbers.{within, numbers}
use Rattle.base.proofs.Bools.{and_both}
use Rattle.base.proofs.NumbersLaws.{within_both}
use Rattle.quorum.specs.Sets.{in_mask}
use Rattle.story.specs.Fields.{is_break}
use Rattle.story.specs.Numbers.{Value, value, no_value}
use Rattle.story.specs.Sets.{set_text, joins, with_member, members_from, set_from, set_of}
use Rattle.story.proofs.Computing.{computing}
use Rattle.story.proofs.FieldsLaws.{Field, unbroken-any}
use Rattle.story.proofs.NumbersLaws.{below}

-- ## A set told is read back

-- is the value x read, and that number?
abbrev is : ℕ → Value → Bool
is n x = x.ok && eqb x.number n

is-value : (n : ℕ) (x : Value) → is n x ≡ true → x ≡ value n
is-value n x e =
    let p = and_both x.ok (eqb x.number n) e in
    let q = eqb-true x.number n p.1 in
    λ i. record { ok = p.0 i; number = q i }

reads_back : ℕ → Bool
reads_back m = is m (set_of (set_text m)) && not (any is_break (set_text m))

-- of every set of recorders 1 to 8
all_back : all reads_back (numbers 0 256) ≡ true
unfolding computing reads_back
all_back = refl

module _ (m : ℕ) (h : m < 256) where
  both : (is m (set_of (set_text m)) ≡ true) × (not (any is_break (set_text m)) ≡ true)
  unfolding reads_back
  both = and_both (is m (set_of (set_text m))) (not (any is_break (set_text m))) (below reads_back 256 all_back m h)

  pub set_back : set_of (set_text m) ≡ value m
  set_back = is-value m (set_of (set_text m)) both.0

  pub set-field : Field (set_text m)
  unfolding is_empty set_text
  set-field = record { some = refl; unbroken = unbroken-any (set_text m) (not-true (any is_break (set_text m)) both.1) }

-- ## What is read is a set of recorders 1 to 8

-- one member more
stays_small : ℕ → Bool
stays_small m = all (λ b. not (joins m (b + 49)) || ltb (m + 2 ^ b) 256) (numbers 0 8)

all_small : all stays_small (numbers 0 256) ≡ true
unfolding computing stays_small
all_small = refl

pub member-small : (m b : ℕ) → m < 256 → joins m b ≡ true → with_member m b < 256
unfolding stays_small joins
member-small m b h t =
    let r = within_both 49 56 b (and_both (within 49 56 b) (not (in_mask m (b - 48))) t).0 in
    let c : ℕ = b - 49 in
    let e : b ≡ c + 49 = omega arith in
    let stays = below (λ b. not (joins m (b + 49)) || ltb (m + 2 ^ b) 256) 8 (below stays_small 256 all_small m h) c (omega arith) in
    let on : not (joins m (c + 49)) ≡ false = ap not (ap (joins m) (sym e) ∙ t) in
    ltb-true (with_member m b) 256 (sym (ap (λ (u : Bool). u || ltb (m + 2 ^ c) 256) on) ∙ stays)

abbrev Small : Value → Type 0
Small x = x.number < 256

small-if : (t : Bool) (x y : Value) → (t ≡ true → Small x) → Small y → Small (elim t [ true ↦ x | false ↦ y ])
small-if true x y h k = h refl
small-if false x y h k = k

members-small : (m : ℕ) (bs : List ℕ) → m < 256 → Small (members_from m bs)
unfolding members_from
members-small m [] h = lit< tt
members-small m (b ∷ []) h = lit< tt
members-small m (b ∷ c ∷ bs) h =
    small-if (joins m b) _ no_value
    (λ t.
    let g = member-small m b h t in
    small-if (eqb c 44) _ _ (λ e. members-small (with_member m b) bs g)
    (small-if (eqb c 125 && is_empty bs) (value (with_member m b)) no_value (λ e. g) (lit< tt)))
    (lit< tt)

inside-small : (bs : List ℕ) → Small (set_from bs)
unfolding set_from
inside-small [] = members-small 0 [] (lit< tt)
inside-small (b ∷ bs) =
    small-if (eqb b 125 && is_empty bs) (value 0) (members_from 0 (b ∷ bs)) (λ e. lit< tt) (members-small 0 (b ∷ bs) (lit< tt))

pub set-small : (f : List ℕ) → (set_of f).number < 256
unfolding set_of
set-small [] = lit< tt
set-small (b ∷ bs) = small-if (eqb b 123) (set_from bs) no_value (λ e. inside-small bs) (lit< tt)
