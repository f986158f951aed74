-- Who is a founder, and the call: 16 and 41 before 18, or the opened hall. Assumes nothing.
use Prim.Native.Nat.{ℕ, ◌+◌, ◌<◌}
use native.Mathlib.Omega.{arith}
use mathlib.Core.Path.{◌≡◌, sym, ap, ap₂, ◌∙◌}
use Rattle.std.specs.Prelude.{Result}
use Rattle.std.specs.Result.{IsErrAnd, result_and}
use mathlib.Core.List.{List, ◌++◌}
use lib.Dec.{ltb}
use lib.ListN.{length, drop}
use Rattle.base.specs.Lists.{has}
use Rattle.base.specs.Chains.{refuse, ◌⨾◌}
use Rattle.quorum.specs.Sets.{in_mask, members}
use Rattle.quorum.proofs.SetLaws.{has-members}
use Rattle.model.specs.Hall.{Hall}
use Rattle.model.specs.declared.refusals.Refusal.{Refusal}
use Rattle.model.specs.RefusalNumbers.{number, refused_by}
use Rattle.model.proofs.RefusalNumbersLaws.{has-number, exit, and-chain}
use Rattle.model.specs.Opening.{opening_of, open_refusal, founder_mask, opened}
use Rattle.store.specs.Layout.{stored_length}
use Rattle.store.specs.StoredForm.{stored}
use Rattle.calls.specs.Calls.{with_hall, open_number, open_on}
use Rattle.calls.proofs.OpenLaws.{open-refused, open-taken}
use Rattle.opening.specs.Opened.{begun, Taken}
use Rattle.opening.proofs.OpenedLaws.{begun_opened, taken}

-- the mask says whether recorder k + 1 is a founder
pub in-founders : (n set k : ℕ) → k < n → has (members n set) (k + 1) ≡ in_mask set (k + 1)
in-founders n set k h = has-members n set (k + 1) (omega arith) (omega arith)

-- ## The call

module _ (b : List ℕ) (n founders : ℕ) (row : List ℕ) where
  -- 16 and 41 before 18
  pub in-turn : {S T : Type 0} {k : ℕ} (wrong : Result S Refusal) (short both : Result T Refusal) → refused_by wrong ≡ open_refusal (opening_of n founders row)
      → refused_by short ≡ refuse (ltb (length b) stored_length) 18 → both ≡ result_and wrong short → k ≡ refused_by both → k ≡ open_number b (opening_of n founders row)
  unfolding open_number
  in-turn wrong short both e f g k = k ∙ ap refused_by g ∙ and-chain wrong short ∙ ap₂ ◌⨾◌ e f

  pub leaves-refused : {T : Type 0} (r : Result T Refusal) (why : Refusal) → IsErrAnd r (λ y. y ≡ why) → number why ≡ open_number b (opening_of n founders row)
      → (refused_by r ≡ (open_on b (opening_of n founders row)).number) × (b ≡ (open_on b (opening_of n founders row)).bytes)
  leaves-refused r why i e =
      let q = open-refused b (opening_of n founders row) (λ z. has-number why (e ∙ z)) in
      (exit r why i ∙ e ∙ sym q.0, sym q.1)

  module _ (z : 0 ≡ open_number b (opening_of n founders row)) (m : ℕ) (h : m ≡ founder_mask founders) where
    pub allowed : Taken n row m b
    allowed = rw h (taken b (opening_of n founders row) (sym z))

    pub leaves-opened : (c : List ℕ) → c ≡ stored (begun n row m n) ++ drop stored_length b
        → (0 ≡ (open_on b (opening_of n founders row)).number) × (c ≡ (open_on b (opening_of n founders row)).bytes)
    unfolding with_hall
    leaves-opened c k =
        let t = open-taken b (opening_of n founders row) (sym z) in
        let o : begun n row m n ≡ opened (opening_of n founders row) = ap (λ (m : ℕ). begun n row m n) h ∙ begun_opened (opening_of n founders row) in
        (sym t.0, k ∙ ap (λ (g : Hall). stored g ++ drop stored_length b) o ∙ sym t.1)
