-- 31 exactly. Assumes nothing.
use Prim.Native.Nat.{ℕ}
use mathlib.Core.Path.{◌≡◌, sym, ap, ◌∙◌, subst}
use mathlib.Core.Bool.{true}
use mathlib.Core.List.{List, ◌++◌}
use lib.ListN.{take, drop, take-append-drop}
use Rattle.model.specs.Hall.{Hall}
use Rattle.store.specs.Layout.{stored_length}
use Rattle.store.specs.Valid.{ValidHall}
use Rattle.store.specs.StoredForm.{stored, hall_of, is_stored}
use Rattle.store.proofs.StoredFormLaws.{stored-is_stored, hall_of-stored, hall_of-valid, stored-hall_of}
use Rattle.store.specs.Exact.{StoredExactly}

-- the form, then the rest of the slice
whole : (b : List ℕ) (h : Hall) → take stored_length b ≡ stored h → stored h ++ drop stored_length b ≡ b
whole b h e = ap (λ (c : List ℕ). c ++ drop stored_length b) (sym e) ∙ take-append-drop stored_length b

pub stored-exactly : (b : List ℕ) → StoredExactly b
stored-exactly b =
    record {
      some = λ s. record { hall = hall_of b; begun = record { valid = hall_of-valid b s; begins = sym (stored-hall_of b s) } };
      only = λ k. is-stored k.hall k.begun.valid k.begun.begins;
      reads = λ h v s e. sym (stored-hall_of b s) ∙ ap stored e;
      holds = λ h v e. (is-stored h v e, ap hall_of (sym (whole b h e)) ∙ hall_of-stored h v (drop stored_length b));
    }
  where
    is-stored : (h : Hall) → ValidHall h → take stored_length b ≡ stored h → is_stored b ≡ true
    is-stored h v e = subst (λ (c : List ℕ). is_stored c ≡ true) (whole b h e) (stored-is_stored h v (drop stored_length b))
