-- The digits denote the number. "fields are decimal". Assumes nothing.
use Prim.Native.Nat.{ℕ, zero, suc, ◌+◌, ◌-◌, ◌*◌, ◌/◌, ◌≤◌, ◌<◌}
use native.Mathlib.Omega.{arith}
use mathlib.Core.Path.{◌≡◌, refl, ◌∙◌}
use mathlib.Core.List.{List, [], ◌∷◌, ◌++◌}
use lib.ListN.{length, get_or, length-append}
use Rattle.model.specs.Listing.{decimal}
use Rattle.text.proofs.Decimal.{last_digit, decimal-ind}

-- the number that digits denote, after those that denote acc
unfoldable pub denoted_after : ℕ → List ℕ → ℕ
denoted_after acc [] = acc
denoted_after acc (d ∷ ds) = denoted_after (10 * acc + (d - 48)) ds

unfoldable pub denoted : List ℕ → ℕ
denoted ds = denoted_after 0 ds

-- is d one of the ten digits?
abbrev pub Digit : ℕ → Type 0
Digit d = (48 ≤ d) × (d ≤ 57)

-- ds is x in decimal: each byte is a digit, they denote x, and no 0 leads unless x is 0
pub record Decimal (x : ℕ) (ds : List ℕ) : Type 0 where
  pub denotes : denoted ds ≡ x
  pub digit : (i : ℕ) → i < length ds → Digit (get_or ds i 0)
  pub some : 1 ≤ length ds
  pub lead : get_or ds 0 0 ≡ 48 → x ≡ 0

denoted_after-snoc : (acc : ℕ) (ds : List ℕ) (d : ℕ) → denoted_after acc (ds ++ (d ∷ [])) ≡ 10 * denoted_after acc ds + (d - 48)
unfolding denoted_after
denoted_after-snoc acc [] d = refl
denoted_after-snoc acc (e ∷ ds) d = denoted_after-snoc (10 * acc + (e - 48)) ds d

one : (x : ℕ) → x < 10 → Decimal x (last_digit x ∷ [])
unfolding denoted denoted_after
one x h =
    record {
      denotes = omega arith;
      digit = each;
      some = omega arith;
      lead = λ e. zero-lead e;
    }
  where
    each : (i : ℕ) → i < 1 → Digit (get_or (last_digit x ∷ []) i 0)
    each zero k = (omega arith, omega arith)
    each (suc i) k = absurd (past k)
      where
        past : suc i < 1 → ⊥
        past k = omega arith

    zero-lead : last_digit x ≡ 48 → x ≡ 0
    zero-lead e = omega arith

digit-snoc : (ds : List ℕ) (d : ℕ) → ((i : ℕ) → i < length ds → Digit (get_or ds i 0)) → Digit d
    → (i : ℕ) → i < length ds + 1 → Digit (get_or (ds ++ (d ∷ [])) i 0)
digit-snoc [] d h k zero l = k
digit-snoc [] d h k (suc i) l = absurd (past l)
  where
    past : suc i < 0 + 1 → ⊥
    past l = omega arith
digit-snoc (e ∷ ds) d h k zero l = h zero (omega arith)
digit-snoc (e ∷ ds) d h k (suc i) l = digit-snoc ds d (λ j g. h (suc j) (omega arith)) k i (omega arith)

lead_snoc : (ds : List ℕ) (d : ℕ) → 1 ≤ length ds → get_or (ds ++ (d ∷ [])) 0 0 ≡ get_or ds 0 0
lead_snoc [] d h = absurd (past h)
  where
    past : 1 ≤ 0 → ⊥
    past h = omega arith
lead_snoc (e ∷ ds) d h = refl

more : (x : ℕ) (ds : List ℕ) → 10 ≤ x → Decimal (x / 10) ds → Decimal x (ds ++ (last_digit x ∷ []))
unfolding denoted
more x ds h t =
    let longer : length (ds ++ (last_digit x ∷ [])) ≡ length ds + 1 = simp length-append in
    record {
      denotes = denoted_after-snoc 0 ds (last_digit x) ∙ whole t.denotes;
      digit = λ i l. digit-snoc ds (last_digit x) t.digit (omega arith, omega arith) i (omega arith);
      some = omega arith;
      lead = λ e. never (t.lead (rw (lead_snoc ds (last_digit x) t.some) at e));
    }
  where
    whole : denoted_after 0 ds ≡ x / 10 → 10 * denoted_after 0 ds + (last_digit x - 48) ≡ x
    whole e = omega arith

    never : x / 10 ≡ 0 → x ≡ 0
    never e = omega arith

pub digits-denote : (x : ℕ) → Decimal x (decimal x)
digits-denote = decimal-ind Decimal one (λ x h. more x (decimal (x / 10)) h)
