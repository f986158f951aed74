-- Laws of the text of a set. Assumes nothing.
use Prim.Native.Nat.{ℕ, zero, suc, ◌+◌, ◌-◌, ◌*◌, ◌%◌, ◌^◌, ◌≤◌}
use native.Mathlib.Omega.{arith}
use native.Mathlib.Numerals.{add-one}
use native.Mathlib.Nat.{add-zero, add-suc}
use mathlib.Core.Path.{◌≡◌, sym, ap, subst, ◌∙◌}
use mathlib.Core.Bool.{Bool, true, false}
use mathlib.Core.List.{List, [], ◌∷◌, ◌++◌}
use lib.Dec.{eqb}
use lib.ListN.{length, length-append}
use Rattle.quorum.specs.Sets.{in_mask}
use Rattle.model.specs.Listing.{decimal}
use Rattle.text.specs.Text.{Room, Wrote}
use Rattle.text.proofs.TextLaws.{wrote-length}
use Rattle.text.proofs.Decimal.{decimal-small}
use Rattle.story.specs.Sets.{member_text, members_text, set_text}
use Rattle.printing.specs.Lines.{spaced}
use Rattle.printing.proofs.FieldsLaws.{spaced-one}

-- ## A member

-- a recorder's digit is its number
digit : (i : ℕ) → i ≤ 8 → (48 + i) ∷ [] ≡ decimal i
digit i h = sym (decimal-small i (omega arith) ∙ ap (λ (d : ℕ). d ∷ []) (omega arith))

module _ (m i : ℕ) where
  pub member-out : in_mask m i ≡ false → member_text m i ≡ []
  unfolding member_text
  member-out e = rw (e, member_text)

  -- the lowest, and one after a comma
  pub member-first : i ≤ 8 → in_mask m i ≡ true → eqb (m % 2 ^ (i - 1)) 0 ≡ true → member_text m i ≡ decimal i
  unfolding member_text
  member-first h e f = rw (e, f, member_text) (digit i h)

  pub member-later : i ≤ 8 → in_mask m i ≡ true → eqb (m % 2 ^ (i - 1)) 0 ≡ false → member_text m i ≡ 44 ∷ decimal i
  unfolding member_text
  member-later h e f = rw (e, f, member_text) (ap (λ (l : List ℕ). 44 ∷ l) (digit i h))

-- ## The members, one after the other

pub members-next : (m i : ℕ) → members_text m (i + 1) ≡ members_text m i ++ member_text m (i + 1)
unfolding members_text
members-next m i = rw add-one

pub members-upto : (m i : ℕ) → 1 ≤ i → members_text m i ≡ members_text m (i - 1) ++ member_text m i
unfolding members_text
members-upto m i h =
    let e : i ≡ suc (i - 1) = omega arith in
    ap (members_text m) e ∙ ap (λ (k : ℕ). members_text m (i - 1) ++ member_text m k) (sym e)

longer : (m i d : ℕ) → length (members_text m i) ≤ length (members_text m (i + d))
unfolding members_text
longer m i zero = rw add-zero (omega arith)
longer m i (suc d) =
    rw (add-suc i d, members_text) (omega (arith, length-append (members_text m (i + d)) (member_text m (suc (i + d))), longer m i d))

-- the next one has room
pub member-room : {b a : List ℕ} {o n : ℕ} (m i : ℕ) → 1 ≤ i → i ≤ 8 → Room b o (members_text m 8) → Wrote b o (members_text m (i - 1)) a n
    → Room a n (member_text m i)
member-room m i low high r w =
    let whole : i + (8 - i) ≡ 8 = omega arith in
    let next : length (members_text m i) ≡ length (members_text m (i - 1)) + length (member_text m i) =
    ap length (members-upto m i low) ∙ length-append (members_text m (i - 1)) (member_text m i)
    in
    let most : length (members_text m i) ≤ length (members_text m 8) =
    subst (λ (k : ℕ). length (members_text m i) ≤ length (members_text m k)) whole (longer m i (8 - i))
    in
    record { fits = omega (arith, r.fits, w.next, wrote-length w) }

-- ## Lengths

pub member-short : (m i : ℕ) → length (member_text m i) ≤ 2
unfolding member_text
member-short m i = go (in_mask m i) (eqb (m % 2 ^ (i - 1)) 0)
  where
    go : (s t : Bool) → length {A = ℕ} (elim s [ true ↦ elim t [ true ↦ (48 + i) ∷ [] | false ↦ 44 ∷ (48 + i) ∷ [] ] | false ↦ [] ]) ≤ 2
    go true true = omega arith
    go true false = omega arith
    go false t = omega arith

pub members-short : (m i : ℕ) → length (members_text m i) ≤ 2 * i
unfolding members_text
members-short m zero = omega arith
members-short m (suc i) =
    omega (arith, length-append (members_text m i) (member_text m (suc i)), members-short m i, member-short m (suc i))

pub set-short : (m : ℕ) → length (set_text m) ≤ 18
unfolding set_text
set-short m = omega (arith, length-append (members_text m 8) (125 ∷ []), members-short m 8)

-- ## A set as a field

pub set-parts : (m : ℕ) → spaced (set_text m ∷ []) ≡ (32 ∷ 123 ∷ []) ++ (members_text m 8 ++ (125 ∷ []))
unfolding set_text
set-parts m = spaced-one (set_text m)
