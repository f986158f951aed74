-- Bytes that differ from a stored hall's in two parts alone, both within its stored form and short enough for a slot: two
-- writes, in either order, are such. Assumes nothing.
use Prim.Native.Nat.{ℕ, ◌+◌, ◌≤◌}
use native.Mathlib.Omega.{arith}
use mathlib.Core.Path.{◌≡◌, sym, ap, subst, ◌∙◌}
use mathlib.Core.Bool.{true}
use mathlib.Core.List.{List}
use lib.ListN.{length, get_or}
use lib.Seq.{sets, length-sets}
use Rattle.codec.specs.Bytes.{Block}
use Rattle.codec.specs.Covers.{Outside, Covers}
use Rattle.codec.proofs.PutBack.{sets-outside}
use Rattle.store.specs.Layout.{recorder_size, endpoint_size, stored_length}
use Rattle.store.specs.StoredForm.{is_stored}
use Rattle.store.proofs.StoredFormLaws.{is_stored-long}
use Rattle.undo.specs.Parts.{Places}

-- c differs from b in the places p alone, and the places have a slot
pub record Covered (b c : List ℕ) (p : Places) : Type 0 where
  pub covers : Covers b c p.first.offset p.first.size p.second.offset p.second.size
  pub first_in : p.first.offset + p.first.size ≤ stored_length
  pub second_in : p.second.offset + p.second.size ≤ stored_length
  pub first_small : p.first.size ≤ recorder_size
  pub second_small : p.second.size ≤ endpoint_size

-- n places from o on, and m from u on
abbrev pub spans : ℕ → ℕ → ℕ → ℕ → Places
spans o n u m = record { first = record { offset = o; size = n }; second = record { offset = u; size = m } }

-- what is written elsewhere leaves place j
leaves : {n : ℕ} {x : List ℕ} → Block n x → (l : List ℕ) (o j : ℕ) → Outside o n j → get_or (sets l o x) j 0 ≡ get_or l j 0
leaves {n} {x} p l o j far = sets-outside x l o j (subst (λ (k : ℕ). Outside o k j) (sym p.len) far)

module _ {b : List ℕ} (s : is_stored b ≡ true) where
  -- nothing is written
  pub unchanged : {c : List ℕ} → c ≡ b → Covered b c (spans 0 0 0 0)
  unchanged e =
      record {
        covers = record { first = omega arith; second = omega arith; long = ap length e; same = λ j far away. ap (λ (z : List ℕ). get_or z j 0) e };
        first_in = omega arith;
        second_in = omega arith;
        first_small = omega arith;
        second_small = omega arith;
      }

  module _ {o n u m : ℕ} (one : o + n ≤ stored_length) (two : u + m ≤ stored_length) (few : n ≤ recorder_size) (fewer : m ≤ endpoint_size)
      {c : List ℕ} where
    from-same : length c ≡ length b → ((j : ℕ) → Outside o n j → Outside u m j → get_or c j 0 ≡ get_or b j 0) → Covered b c (spans o n u m)
    from-same l same =
        let room = is_stored-long b s in
        record {
          covers = record { first = omega arith; second = omega arith; long = l; same = same };
          first_in = one;
          second_in = two;
          first_small = few;
          second_small = fewer;
        }

    module _ {x y : List ℕ} (p : Block n x) (q : Block m y) where
      -- the first part, then the second
      pub in-turn : sets (sets b o x) u y ≡ c → Covered b c (spans o n u m)
      in-turn e =
          from-same
          (ap length (sym e) ∙ length-sets (sets b o x) u y ∙ length-sets b o x)
          (λ j far away. ap (λ (z : List ℕ). get_or z j 0) (sym e) ∙ leaves q (sets b o x) u j away ∙ leaves p b o j far)

      -- the second part, then the first
      pub second-first : sets (sets b u y) o x ≡ c → Covered b c (spans o n u m)
      second-first e =
          from-same
          (ap length (sym e) ∙ length-sets (sets b u y) o x ∙ length-sets b u y)
          (λ j far away. ap (λ (z : List ℕ). get_or z j 0) (sym e) ∙ leaves p (sets b u y) o j far ∙ leaves q b u j away)
