-- A step on bytes, call by call: 11, 31, 12 to 15, then the kind. Assumes nothing.
use Prim.Native.Nat.{ℕ, ◌≤◌, ◌<◌}
use native.Mathlib.Omega.{arith}
use mathlib.Core.Path.{◌≡◌, refl, sym, ap, subst, ◌∙◌}
use mathlib.Core.Bool.{Bool, true, false, not}
use mathlib.Core.List.{List}
use lib.Dec.{eqb, leb}
use borrow.Author.Tests.{eq-eqb, ne_eqb, leb-true, leb-false}
use Rattle.std.specs.Prelude.{Result, Ok, Err, IfOk}
use Rattle.std.specs.Result.{IsErrAnd, result_and}
use Rattle.std.proofs.lemmas.Result.{err_from_is_err_and}
use Rattle.base.specs.Chains.{refuse, ◌⨾◌}
use Rattle.base.specs.Numbers.{within}
use Rattle.base.proofs.ChainsLaws.{chain-none}
use Rattle.base.proofs.Bools.{by_cases}
use Rattle.model.specs.Kinds.{Kind, KindWord, kind, no_kind, kinds, last_kind, kind_of, input_refusal}
use Rattle.model.specs.Answers as model
use Rattle.model.specs.Call.{words_of}
use Rattle.model.specs.declared.kinds.Kind as code
use Rattle.model.specs.declared.refusals.Refusal.{Refusal}
use Rattle.model.specs.KindNumbers.{kind_meaning, kind_number, Names}
use Rattle.model.specs.RefusalNumbers.{number, refused_by}
use Rattle.model.proofs.KindLaws.{names-kind, past-last}
use Rattle.model.proofs.KindNumbersLaws.{number-names}
use Rattle.model.proofs.RefusalNumbersLaws.{has-number, ends, exit}
use Rattle.store.specs.StoredForm.{hall_of, is_stored}
use Rattle.answer.specs.declared.Answer.{Answer}
use Rattle.answer.specs.Meaning.{meaning}
use Rattle.calls.specs.Calls.{Outcome, step_on}
use Rattle.calls.specs.Steps.{Steps}
use Rattle.calls.specs.ByKind.{kind_on, give}
use Rattle.calls.proofs.ByKindLaws.{act_on, step-by-kind}
use Rattle.calls.proofs.Refused.{kind-number}
use Rattle.hall.specs.Acts.{Judged, number_on, Does}
use Rattle.step.specs.Numbers.{word_kind_number, bytes_number}

-- ## 11 and 31

number-of : KindWord → ℕ
number-of w = elim w [ kind κ ↦ 0 | no_kind ↦ 11 ]

number-low : (k : ℕ) → k < 1 → 11 ≡ word_kind_number k
unfolding word_kind_number kind_of kinds number-of
number-low k l = let z : k ≡ 0 = omega arith in sym (ap (λ j. number-of (kind_of j)) z)

number-high : (k : ℕ) → last_kind < k → 11 ≡ word_kind_number k
unfolding word_kind_number number-of
number-high k l = sym (ap number-of (past-last k l))

number-kind : (k : ℕ) → 1 ≤ k → k ≤ last_kind → 0 ≡ word_kind_number k
unfolding word_kind_number number-of
number-kind k low high = sym (ap number-of (names-kind k low high).1)

-- 11 just where a number is not 1 to the last kind's
pub number-test : (k : ℕ) → refuse (not (within 1 last_kind k)) 11 ≡ word_kind_number k
unfolding refuse within
number-test k =
    by_cases (leb 1 k)
    (λ t. by_cases (leb k last_kind) (λ u. rw (t, u, within) (number-kind k (leb-true 1 k t) (leb-true k last_kind u))) (λ u. rw (t, u, within) (number-high k (leb-false k last_kind u))))
    (λ t. rw (t, within) (number-low k (leb-false 1 k t)))

pub kind-range : (k : ℕ) → word_kind_number k ≡ 0 → (1 ≤ k) × (k ≤ last_kind)
kind-range k e =
    let low : k < 1 → ⊥ = λ l. let z : ◌≡◌ {A = ℕ} 11 0 = number-low k l ∙ e in omega arith in
    let high : last_kind < k → ⊥ = λ l. let z : ◌≡◌ {A = ℕ} 11 0 = number-high k l ∙ e in omega arith in
    (omega arith, omega arith)

pub bytes-hall : (bs : List ℕ) → is_stored bs ≡ true → 0 ≡ bytes_number bs
unfolding bytes_number
bytes-hall bs s = rw (s, bytes_number) refl

pub bytes-broken : (bs : List ℕ) → is_stored bs ≡ false → 31 ≡ bytes_number bs
unfolding bytes_number
bytes-broken bs s = rw (s, bytes_number) refl

-- 31 by the check
pub bytes-test : (bs : List ℕ) → refuse (not (is_stored bs)) 31 ≡ bytes_number bs
unfolding refuse bytes_number
bytes-test bs = by_cases (is_stored bs) (λ t. rw (t, bytes_number) refl) (λ t. rw (t, bytes_number) refl)

-- no 31: the bytes hold a hall
pub bytes-hold : (bs : List ℕ) → bytes_number bs ≡ 0 → is_stored bs ≡ true
bytes-hold bs e = by_cases (is_stored bs) (λ t. t) (λ t. let z : ◌≡◌ {A = ℕ} 31 0 = bytes-broken bs t ∙ e in absurd (omega arith))

-- 31: the bytes hold none
bytes-stop : (bs : List ℕ) (why : Refusal) → number why ≡ bytes_number bs → (is_stored bs ≡ false) × (number why ≡ 31)
bytes-stop bs why e =
    by_cases (is_stored bs) (λ t. absurd (has-number why (e ∙ sym (bytes-hall bs t)))) (λ t. (t, e ∙ sym (bytes-broken bs t)))

-- 11 by what a number names
pub kind-test : (k : ℕ) (x : Result code.Kind Refusal) → Names k x → refused_by x ≡ word_kind_number k
unfolding word_kind_number
kind-test k (Ok κ) n = rw (n.0, word_kind_number) refl
kind-test k (Err why) n = rw (n.0, word_kind_number) (ap number n.1)

-- 11, then 31
pub early : {T : Type 0} (x : Result code.Kind Refusal) (y : Result T Refusal) → refused_by (result_and (result_and x y) x) ≡ refused_by x ⨾ refused_by y
unfolding ◌⨾◌
early (Ok κ) (Ok u) = refl
early (Ok κ) (Err why) = refl
early (Err why) y = ends why _ refl

pub early-kind : {T : Type 0} (k : ℕ) (x : Result code.Kind Refusal) (y : Result T Refusal) → Names k x → IfOk (result_and (result_and x y) x) (λ κ. kind_number κ ≡ k)
early-kind k (Ok κ) (Ok u) n = n.1
early-kind k (Ok κ) (Err why) n = tt
early-kind k (Err why) y n = tt

-- neither: the bytes hold a hall
pub early-passed : (bs : List ℕ) (k : ℕ) → 0 ≡ word_kind_number k ⨾ bytes_number bs → is_stored bs ≡ true
early-passed bs k e = bytes-hold bs (chain-none (word_kind_number k) (bytes_number bs) (sym e)).1

-- ## A step

module _ (bs : List ℕ) (k r a b : ℕ) where
  by_kind : KindWord → Bool → Outcome
  by_kind w t = elim w [ kind κ ↦ elim t [ true ↦ act_on bs κ r a b | false ↦ give (model.refused 31) bs ] | no_kind ↦ give (model.refused 11) bs ]

  step_is : (w : KindWord) (t : Bool) → kind_of k ≡ w → is_stored bs ≡ t → step_on bs (words_of k r a b) ≡ by_kind w t
  unfolding by_kind
  step_is w t e f = step-by-kind bs (words_of k r a b) ∙ ap (λ x. by_kind x (is_stored bs)) e ∙ ap (by_kind w) f

  gives : (o : Outcome) (x : Result Answer Refusal) (c : List ℕ) → step_on bs (words_of k r a b) ≡ o → meaning x ≡ o.answer → c ≡ o.bytes → Steps bs k r a b x c
  gives o x c e p q = record { answer = p ∙ sym (ap (λ (z : Outcome). z.answer) e); bytes = q ∙ sym (ap (λ (z : Outcome). z.bytes) e) }

  -- a step that a refusal ends, and its number
  module _ (n : ℕ) (is : step_on bs (words_of k r a b) ≡ give (model.refused n) bs) (why : Refusal) (e : number why ≡ n) where
    pub refused : (x : Result Answer Refusal) → IsErrAnd x (λ y. y ≡ why) → Steps bs k r a b x bs
    refused x i = let p = err_from_is_err_and x i in gives (give (model.refused n) bs) x bs is (ap meaning p.1 ∙ ap model.refused (ap number p.2 ∙ e)) refl

    pub refused-number : {T : Type 0} (x : Result T Refusal) → IsErrAnd x (λ y. y ≡ why) → refused_by x ≡ (model.plain (step_on bs (words_of k r a b)).answer).number
    unfolding model.plain
    refused-number x i = exit x why i ∙ e ∙ sym (ap (λ (o : Outcome). (model.plain o.answer).number) is)

  -- 11, then 31
  pub early-is : (why : Refusal) → number why ≡ word_kind_number k ⨾ bytes_number bs → step_on bs (words_of k r a b) ≡ give (model.refused (number why)) bs
  unfolding by_kind word_kind_number ◌⨾◌
  early-is why e = go (kind_of k) refl
    where
      told : KindWord → ℕ
      told w = elim w [ kind κ ↦ 0 | no_kind ↦ 11 ]

      go : (w : KindWord) → kind_of k ≡ w → step_on bs (words_of k r a b) ≡ give (model.refused (number why)) bs
      go (kind κ) f =
          let t = bytes-stop bs why (e ∙ ap (λ z. told z ⨾ bytes_number bs) f) in
          step_is (kind κ) false f t.0 ∙ (λ i. give (model.refused (sym t.1 i)) bs)
      go no_kind f =
          let t : number why ≡ 11 = e ∙ ap (λ z. told z ⨾ bytes_number bs) f in
          step_is no_kind (is_stored bs) f refl ∙ (λ i. give (model.refused (sym t i)) bs)

  -- 11 alone
  pub kind-is : kind_of k ≡ no_kind → step_on bs (words_of k r a b) ≡ give (model.refused 11) bs
  unfolding by_kind
  kind-is f = step_is no_kind (is_stored bs) f refl

  -- 31
  pub bytes-refused : 1 ≤ k → k ≤ last_kind → (why : Refusal) → number why ≡ bytes_number bs → Steps bs k r a b (Err why) bs
  unfolding by_kind
  bytes-refused low high why e =
      let κ = names-kind k low high in
      let t = bytes-stop bs why e in
      gives (give (model.refused (number why)) bs) (Err why) bs (step_is (kind κ.0) false κ.1 t.0 ∙ (λ i. give (model.refused (sym t.1 i)) bs)) refl refl

  -- of a kind, on bytes that hold a hall
  module _ (κ : Kind) (f : kind_of k ≡ kind κ) (s : is_stored bs ≡ true) where
    is-act : step_on bs (words_of k r a b) ≡ act_on bs κ r a b
    unfolding by_kind
    is-act = step_is (kind κ) true f s

    judge : ℕ → Bool → Outcome
    judge n t = elim t [ true ↦ kind_on bs κ r a b | false ↦ give (model.refused n) bs ]

    act-is : (t : Bool) → eqb (input_refusal (hall_of bs).size κ r a b) 0 ≡ t → act_on bs κ r a b ≡ judge (input_refusal (hall_of bs).size κ r a b) t
    unfolding act_on judge
    act-is t e = ap (judge (input_refusal (hall_of bs).size κ r a b)) e

    -- 12 to 15
    pub words-is : (why : Refusal) (m : ℕ) → m ≡ (hall_of bs).size → number why ≡ input_refusal m κ r a b → step_on bs (words_of k r a b) ≡ give (model.refused (number why)) bs
    unfolding judge
    words-is why m size e =
        let e' : number why ≡ input_refusal (hall_of bs).size κ r a b = e ∙ ap (λ n. input_refusal n κ r a b) size in
        is-act ∙ act-is false (ne_eqb _ 0 (λ z. has-number why (e' ∙ z))) ∙ (λ i. give (model.refused (sym e' i)) bs)

    pub words-refused : (why : Refusal) → number why ≡ input_refusal (hall_of bs).size κ r a b → Steps bs k r a b (Err why) bs
    words-refused why e = gives (give (model.refused (number why)) bs) (Err why) bs (words-is why (hall_of bs).size refl e) refl refl

    pub judged : (m : ℕ) → m ≡ (hall_of bs).size → 0 ≡ input_refusal m κ r a b → Judged bs κ r a b
    judged m size z = record { holds = s; words = sym (z ∙ ap (λ n. input_refusal n κ r a b) size) }

    -- then the kind
    pub acted : (x : Result Answer Refusal) (c : List ℕ) → Judged bs κ r a b → Does bs κ r a b x c → Steps bs k r a b x c
    unfolding judge
    acted x c j m = gives (kind_on bs κ r a b) x c (is-act ∙ act-is true (eq-eqb _ 0 j.words)) m.answer m.bytes

    pub acted-number : Judged bs κ r a b → (n : ℕ) → n ≡ number_on bs κ r a → n ≡ (model.plain (step_on bs (words_of k r a b)).answer).number
    unfolding judge number_on
    acted-number j n e =
        e ∙ sym (ap (λ (o : Outcome). (model.plain o.answer).number) (is-act ∙ act-is true (eq-eqb _ 0 j.words)) ∙ kind-number bs κ r a b)
