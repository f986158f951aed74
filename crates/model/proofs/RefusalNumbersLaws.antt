-- What a `?` on a refusal gives: the call's refusal ends a chain, or the chain goes on. Assumes nothing.
use Rattle.std.proofs.Common.{◌≡◌, ℕ, Result, Ok, Err, ◌≢◌, arith}
use mathlib.Core.Path.{refl, sym, ap, ◌∙◌}
use borrow.Author.Tests.{ne_eqb}
use Rattle.std.specs.Prelude.{true, false, List, [], ◌∷◌, eqb}
use Rattle.std.specs.Result.{IsErrAnd, result_and}
use Rattle.std.proofs.lemmas.Result.{err_from_is_err_and}
use Rattle.base.specs.Chains.{◌⨾◌}
use Rattle.model.specs.declared.refusals.Refusal.{Refusal}
use Rattle.model.specs.declared.refusals.Refusal.TheVariants.{Kind, Recorder, Unused, ViewNumber, Set, Opening, Short, File, Bytes, TooMany, NotRising, NotFormed, NoMember, NotAbove, Phase, Nothing, NotYet, Full, Votes, NotPrimary, Undo}
use Rattle.model.specs.RefusalNumbers.{number, refused_by}

-- no refusal has number 0
pub has-number : (why : Refusal) → number why ≢ 0
has-number Kind e = omega arith
has-number Recorder e = omega arith
has-number Unused e = omega arith
has-number ViewNumber e = omega arith
has-number Set e = omega arith
has-number Opening e = omega arith
has-number Short e = omega arith
has-number File e = omega arith
has-number Bytes e = omega arith
has-number TooMany e = omega arith
has-number NotRising e = omega arith
has-number NotFormed e = omega arith
has-number NoMember e = omega arith
has-number NotAbove e = omega arith
has-number Phase e = omega arith
has-number Nothing e = omega arith
has-number NotYet e = omega arith
has-number Full e = omega arith
has-number Votes e = omega arith
has-number NotPrimary e = omega arith
has-number Undo e = omega arith

-- at the exit of a `?`: the refusal returned is that of the call
pub exit : {T : Type 0} (r : Result T Refusal) (why : Refusal) → IsErrAnd r (λ y. y ≡ why) → refused_by r ≡ number why
exit r why e = let p = err_from_is_err_and r e in ap refused_by p.1 ∙ ap number p.2

-- a refusal ends the chain that it begins
pub ends : (why : Refusal) {a : ℕ} (b : ℕ) → number why ≡ a → number why ≡ a ⨾ b
unfolding ◌⨾◌
ends why {a = a} b e = e ∙ sym (kept a b (λ z. has-number why (e ∙ z)))
  where
    kept : (a b : ℕ) → a ≢ 0 → a ⨾ b ≡ a
    kept a b ne = rw (ne_eqb a 0 ne, ◌⨾◌)

-- where a call is not refused the chain goes on
pub goes-on : {a b n : ℕ} → 0 ≡ a → n ≡ b → n ≡ a ⨾ b
unfolding ◌⨾◌
goes-on {b = b} e f = f ∙ ap (λ z. z ⨾ b) e

-- the exit of a `?` on the first call of a chain
pub stops : {T : Type 0} (r : Result T Refusal) (why : Refusal) {a : ℕ} (b : ℕ) → IsErrAnd r (λ y. y ≡ why) → number why ≡ a → refused_by r ≡ a ⨾ b
stops r why b x e = exit r why x ∙ ends why b e

-- two calls in turn
pub and-chain : {S T : Type 0} (x : Result S Refusal) (y : Result T Refusal) → refused_by (result_and x y) ≡ refused_by x ⨾ refused_by y
unfolding ◌⨾◌
and-chain (Ok x) y = refl
and-chain (Err why) y = ends why _ refl

-- ## No two refusals have the same number

-- the first refusal of a list that has a number
found : ℕ → List Refusal → Refusal
found n [] = Undo
found n (why ∷ l) = elim (eqb n (number why)) [ true ↦ why | false ↦ found n l ]

abbrev every : List Refusal
every = Kind ∷ Recorder ∷ Unused ∷ ViewNumber ∷ Set ∷ Opening ∷ Short ∷ File ∷ Bytes ∷ TooMany ∷ NotRising ∷ NotFormed ∷ NoMember ∷ NotAbove ∷ Phase ∷ Nothing ∷ NotYet ∷ Full ∷ Votes ∷ NotPrimary ∷ []

back : (why : Refusal) → found (number why) every ≡ why
unfolding found
back Kind = refl
back Recorder = refl
back Unused = refl
back ViewNumber = refl
back Set = refl
back Opening = refl
back Short = refl
back File = refl
back Bytes = refl
back TooMany = refl
back NotRising = refl
back NotFormed = refl
back NoMember = refl
back NotAbove = refl
back Phase = refl
back Nothing = refl
back NotYet = refl
back Full = refl
back Votes = refl
back NotPrimary = refl
back Undo = refl

pub same-refusal : (a b : Refusal) → number a ≡ number b → a ≡ b
same-refusal a b e = sym (back a) ∙ ap (λ n. found n every) e ∙ back b
