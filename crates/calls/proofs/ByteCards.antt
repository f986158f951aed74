-- Calls on bytes that are no hall's stored form. Assumes nothing.
use Prim.Native.Nat.{ℕ, ◌-◌}
use native.Mathlib.Omega.{arith}
use mathlib.Core.Path.{◌≡◌, refl, ap, ◌∙◌}
use mathlib.Core.Bool.{true, false}
use mathlib.Core.List.{List, [], ◌∷◌}
use lib.ListN.{length-take}
use Rattle.base.specs.Lists.{Each}
use Rattle.base.proofs.Bools.{by_cases}
use Rattle.model.specs.Kinds.{kinds, kind_of, submit}
use Rattle.model.specs.Answers.{refused}
use Rattle.model.specs.Call.{words_of}
use Rattle.codec.specs.Bytes.{zeros}
use Rattle.codec.specs.Form.{mapped, renamed, guarded}
use Rattle.codec.specs.Number.{value, number}
use Rattle.codec.specs.Pair.{given}
use Rattle.codec.specs.Slice.{value_of}
use Rattle.store.specs.Layout.{stored_length}
use Rattle.store.specs.HallForm.{fields, hall_fields, hall_form}
use Rattle.store.specs.StoredForm.{hall_of, is_stored}
use Rattle.store.proofs.StoredFormLaws.{hall_of-valid, short-broken}
use Rattle.calls.specs.ByKind.{give}
use Rattle.calls.specs.ByteCards.{CardHolds, kind_twelve, kind_one, cut_short, broken_cards}
use Rattle.calls.proofs.ByKindLaws.{act_on, step-by-kind}

-- every slice that is no hall's stored form
pub broken-refused : (b : List ℕ) → is_stored b ≡ false → CardHolds (kind_twelve b) × CardHolds (kind_one b)
unfolding kind_of kinds
broken-refused b no-hall = (
  step-by-kind b (words_of 12 0 0 0),
  step-by-kind b (words_of 1 0 0 0)
      ∙ ap (λ t. elim t [ true ↦ act_on b submit 0 0 0 | false ↦ give (refused 31) b ]) no-hall,
)

-- N stands in the first byte, and is not 0
zero-broken : (xs : List ℕ) → is_stored (0 ∷ xs) ≡ false
unfolding hall_of value_of hall_form guarded hall_fields renamed mapped fields given number value
zero-broken xs =
    by_cases (is_stored (0 ∷ xs)) (λ t. absurd (omega (arith, (hall_of-valid (0 ∷ xs) t).in_range.size.0, size))) (λ f. f)
  where
    size : (hall_of (0 ∷ xs)).size ≡ 0
    size = refl

pub broken-cards-hold : Each CardHolds broken_cards
unfolding broken_cards
broken-cards-hold =
    let none = broken-refused [] (short-broken [] (omega arith)) in
    let few = broken-refused cut_short (short-broken cut_short (simp length-take (omega arith))) in
    let zero = broken-refused (zeros stored_length) (zero-broken (zeros (stored_length - 1))) in
    (none.0, (none.1, (few.0, (few.1, (zero.0, (zero.1, tt))))))
