-- From a kind to its own call: the words that the kind does not use are 0. Assumes nothing.
use Prim.Native.Nat.{ℕ}
use mathlib.Core.Path.{◌≡◌, refl, sym, subst}
use mathlib.Core.Bool.{false, ◌||◌}
use mathlib.Core.List.{List}
use lib.Dec.{eqb}
use borrow.Author.Tests.{eqb-true, not-false}
use Rattle.base.proofs.Bools.{or-none}
use Rattle.base.proofs.ChainsLaws.{link}
use Rattle.model.specs.Kinds.{Use, unused, word, recorder, number, set, Kind, uses, wrong_recorder, stray_word, input_refusal}
use Rattle.store.specs.StoredForm.{hall_of}
use Rattle.std.specs.Prelude.{Result}
use Rattle.model.specs.declared.refusals.Refusal.{Refusal}
use Rattle.answer.specs.declared.Answer.{Answer}
use Rattle.hall.specs.Acts.{Judged, number_on, Does}

-- the word that a kind's call is made with: 0 where it is unused
unfoldable pub as_used : Use → ℕ → ℕ
as_used unused w = 0
as_used word w = w
as_used recorder w = w
as_used number w = w
as_used set w = w

-- an unused word that passes is 0
stray : (u : Use) (w : ℕ) → stray_word u w ≡ false → w ≡ as_used u w
unfolding stray_word as_used
stray unused w e = eqb-true w 0 (not-false (eqb w 0) e)
stray word w e = refl
stray recorder w e = refl
stray number w e = refl
stray set w e = refl

wrong : (n : ℕ) (u : Use) (w : ℕ) → wrong_recorder n u w ≡ false → w ≡ as_used u w
unfolding wrong_recorder as_used
wrong n unused w e = eqb-true w 0 (not-false (eqb w 0) e)
wrong n word w e = refl
wrong n recorder w e = refl
wrong n number w e = refl
wrong n set w e = refl

-- what the call of kind κ with its own words asks for, and what it gives to a step of the kind that it is
pub record Turned (bs : List ℕ) (κ' : Kind) (r a b : ℕ) (κ : Kind) : Type 0 where
  pub judged : Judged bs κ (as_used (uses κ).r r) (as_used (uses κ).a a) (as_used (uses κ).b b)
  pub done : (x : Result Answer Refusal) (c : List ℕ) → Does bs κ (as_used (uses κ).r r) (as_used (uses κ).a a) (as_used (uses κ).b b) x c
      → Does bs κ' r a b x c
  pub number : number_on bs κ (as_used (uses κ).r r) (as_used (uses κ).a a) ≡ number_on bs κ' r a

pub to : {bs : List ℕ} {κ' : Kind} {r a b : ℕ} → Judged bs κ' r a b → (κ : Kind) → κ' ≡ κ → Turned bs κ' r a b κ
unfolding input_refusal
to {bs} {κ'} {r} {a} {b} j κ is =
    let words = (subst (λ μ. Judged bs μ r a b) is j).words in
    let n = (hall_of bs).size in
    let u = uses κ in
    let link-12 = link (wrong_recorder n u.r r) 11 _ words in
    let link-13 = or-none (stray_word u.a a) (stray_word u.b b) (link (stray_word u.a a || stray_word u.b b) 12 _ link-12.1).0 in
    let r-is = wrong n u.r r link-12.0 in
    let a-is = stray u.a a link-13.0 in
    let b-is = stray u.b b link-13.1 in
    record {
      judged = subst (λ z. z) (λ i. Judged bs (is i) (r-is i) (a-is i) (b-is i)) j;
      done = λ x c m. subst (λ z. z) (λ i. Does bs (sym is i) (sym r-is i) (sym a-is i) (sym b-is i) x c) m;
      number = λ i. number_on bs (sym is i) (sym r-is i) (sym a-is i);
    }
