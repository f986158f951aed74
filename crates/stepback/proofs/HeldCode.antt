-- What the code of the held calls finds is what their definitions say. Assumes nothing.
use Prim.Native.Nat.{ℕ, ◌^◌, ◌<◌}
use mathlib.Core.Path.{◌≡◌, sym, ap, ◌∙◌, subst}
use mathlib.Core.Bool.{Bool, true, false, not}
use mathlib.Core.List.{List, [], ◌∷◌}
use borrow.Author.Tests.{eq-eqb}
use Rattle.base.specs.Chains.{refuse, ◌⨾◌}
use Rattle.base.proofs.ChainsLaws.{not-refused, chain-none, first-refuses, first_passes, chain-assoc}
use Rattle.std.specs.Prelude.{Result}
use Rattle.std.specs.Result.{IsErrAnd}
use Rattle.std.proofs.lemmas.Result.{err_from_is_err_and}
use Rattle.model.specs.Answers as model
use Rattle.model.specs.Answers.{plain, accepted}
use Rattle.model.specs.Call.{Words, words_of}
use Rattle.model.specs.Settle.{cannot_settle}
use Rattle.store.specs.StoredForm.{hall_of, is_stored}
use Rattle.model.specs.declared.kinds.Kind.{Kind}
use Rattle.model.specs.declared.refusals.Refusal.{Refusal}
use Rattle.model.specs.KindNumbers.{kind_number}
use Rattle.model.specs.RefusalNumbers.{number}
use Rattle.model.proofs.RefusalNumbersLaws.{has-number}
use Rattle.answer.specs.declared.Answer.{Answer}
use Rattle.answer.specs.Meaning.{meaning, settled_meaning}
use Rattle.calls.specs.Calls.{step_on, settle_on}
use Rattle.calls.specs.Steps.{Steps}
use Rattle.step.specs.Numbers.{word_kind_number, bytes_number}
use Rattle.step.proofs.StepsLaws.{bytes-hold}
use Rattle.undo.specs.Buffer.{is_undo, pushed}
use Rattle.undo.specs.Parts.{slot_of}
use Rattle.undo.specs.Code.{Accepts}
use Rattle.stepback.specs.Held.{Bench, bench_of, undo_number, HeldStep, early_number, step_held_on, HeldSettle, settle_held_number}
use Rattle.stepback.specs.Steps.{StepsHeld, SettlesHeld}
use Rattle.stepback.proofs.HeldLaws.{step-early, step-made, step-keeps-bench, step-taken, step-takes, step-answers, settle-early}

-- ## Numbers

pub undo-broken : (u : List ℕ) → is_undo u ≡ false → 43 ≡ undo_number u
unfolding undo_number refuse
undo-broken u f = sym (ap (λ (t : Bool). refuse (not t) 43) f)

-- a refusal is known by its number
refused-is : (a : model.Answer) (n : ℕ) → n ≡ (plain a).number → (n ≡ 0 → ⊥) → a ≡ model.refused n
unfolding plain
refused-is model.done n e ne = absurd (ne e)
refused-is (model.message s (model.entry g k p v)) n e ne = absurd (ne e)
refused-is (model.message s (model.summary k o c h)) n e ne = absurd (ne e)
refused-is (model.from s v) n e ne = absurd (ne e)
refused-is (model.refused k) n e ne = ap model.refused (sym e)

module _ (x : Bench) (w : Words) where
  in-turn : early_number x w ≡ (word_kind_number w.k ⨾ bytes_number x.hall) ⨾ undo_number x.undo
  unfolding early_number
  in-turn = sym (chain-assoc (word_kind_number w.k) (bytes_number x.hall) (undo_number x.undo))

  early-is : (n : ℕ) → n ≡ early_number x w → (n ≡ 0 → ⊥) → n ≡ (plain (step_held_on x w).answer).number
  unfolding plain
  early-is n e ne = e ∙ sym (ap (λ (o : HeldStep). (plain o.answer).number) (step-early x w (λ z. ne (e ∙ z))))

  -- 11 and 31
  pub early-first : (n : ℕ) → n ≡ word_kind_number w.k ⨾ bytes_number x.hall → (n ≡ 0 → ⊥) → n ≡ (plain (step_held_on x w).answer).number
  early-first n e ne = early-is n (e ∙ sym (in-turn ∙ first-refuses _ (undo_number x.undo) (λ z. ne (e ∙ z)))) ne

  module _ (m : ℕ) (e : m ≡ word_kind_number w.k ⨾ bytes_number x.hall) (z : m ≡ 0) where
    then-undo : early_number x w ≡ undo_number x.undo
    then-undo = in-turn ∙ first_passes _ (undo_number x.undo) (sym e ∙ z)

    -- no 31: the slice holds a hall
    pub early-holds : is_stored x.hall ≡ true
    early-holds = bytes-hold x.hall (chain-none (word_kind_number w.k) (bytes_number x.hall) (sym e ∙ z)).1

    -- 43
    pub early-undo : (n : ℕ) → n ≡ undo_number x.undo → (n ≡ 0 → ⊥) → n ≡ (plain (step_held_on x w).answer).number
    early-undo n f ne = early-is n (f ∙ sym then-undo) ne

    -- the rest
    pub early-none : (n : ℕ) → n ≡ undo_number x.undo → n ≡ 0 → (plain (step_on x.hall w).answer).number ≡ (plain (step_held_on x w).answer).number
    early-none n f y = sym (ap (λ (o : HeldStep). (plain o.answer).number) (step-made x w (then-undo ∙ sym f ∙ y)))

-- ## A held step

-- it is refused
pub step-refuses : (b u : List ℕ) (k r a d : ℕ) (x : Result Answer Refusal) (why : Refusal) → IsErrAnd x (λ y. y ≡ why)
    → number why ≡ (plain (step_held_on (bench_of b u) (words_of k r a d)).answer).number → StepsHeld b u k r a d x b u
step-refuses b u k r a d x why i e =
    let y = bench_of b u in
    let w = words_of k r a d in
    let p = err_from_is_err_and x i in
    let kept = step-keeps-bench y w (λ z. has-number why (e ∙ z)) in
    record {
      answer = ap meaning p.1 ∙ ap model.refused (ap number p.2) ∙ sym (refused-is (step_held_on y w).answer (number why) e (has-number why));
      left = record { hall = sym (ap (λ (z : Bench). z.hall) kept); undo = sym (ap (λ (z : Bench). z.undo) kept) };
    }

-- it is accepted
pub step-accepts : (b u : List ℕ) (k r a d : ℕ) → 0 ≡ (plain (step_held_on (bench_of b u) (words_of k r a d)).answer).number → a < 2 ^ 32
    → (κ : Kind) → kind_number κ ≡ k → (is_undo u ≡ true) × Accepts b (words_of (kind_number κ) r a d)
unfolding accepted
step-accepts b u k r a d z low κ is =
    let t = step-taken (bench_of b u) (words_of k r a d) (eq-eqb _ 0 (sym z)) in
    (t.1, subst (λ j. Accepts b (words_of j r a d)) (sym is) (record { holds = t.0; low = low; accepts = t.2 }))

-- held, and performed
pub step-performs : (b u : List ℕ) (k r a d : ℕ) → is_undo u ≡ true → Accepts b (words_of k r a d) → (v : List ℕ) → v ≡ pushed u (slot_of b (words_of k r a d))
    → (x : Result Answer Refusal) (c : List ℕ) → Steps b k r a d x c → StepsHeld b u k r a d x c v
step-performs b u k r a d i p v e x c steps =
    let y = bench_of b u in
    let w = words_of k r a d in
    let taken = step-takes y w p.holds i p.accepts in
    record {
      answer = steps.answer ∙ sym (step-answers y w p.holds i p.accepts);
      left = record { hall = steps.bytes ∙ sym (ap (λ (z : Bench). z.hall) taken); undo = e ∙ sym (ap (λ (z : Bench). z.undo) taken) };
    }

-- ## A held settle

module _ (x : Bench) where
  -- 31
  pub settle-bytes : (n : ℕ) → n ≡ bytes_number x.hall → (n ≡ 0 → ⊥) → n ≡ settle_held_number x
  unfolding settle_held_number
  settle-bytes n e ne = e ∙ sym (first-refuses (bytes_number x.hall) _ (λ z. ne (e ∙ z)))

  module _ (m : ℕ) (e : m ≡ bytes_number x.hall) (z : m ≡ 0) where
    bar : ℕ
    bar = refuse (cannot_settle (hall_of x.hall)) 42

    -- 42
    pub settle-bar : (n : ℕ) → n ≡ refuse (cannot_settle (hall_of x.hall)) 42 → (n ≡ 0 → ⊥) → n ≡ settle_held_number x
    unfolding settle_held_number bar
    settle-bar n f ne = f ∙ sym (first_passes (bytes_number x.hall) _ (sym e ∙ z) ∙ first-refuses bar _ (λ y. ne (f ∙ y)))

    module _ (k : ℕ) (f : k ≡ refuse (cannot_settle (hall_of x.hall)) 42) (y : k ≡ 0) where
      -- 43
      pub settle-undo : (n : ℕ) → n ≡ undo_number x.undo → (n ≡ 0 → ⊥) → n ≡ settle_held_number x
      unfolding settle_held_number bar
      settle-undo n g ne =
          g ∙ sym (first_passes (bytes_number x.hall) _ (sym e ∙ z) ∙ first_passes bar _ (sym f ∙ y) ∙ first-refuses (undo_number x.undo) _ (λ q. ne (g ∙ q)))

      -- 40
      pub settle-last : (j : ℕ) → j ≡ undo_number x.undo → j ≡ 0 → (n : ℕ) → n ≡ (settle_on x.hall).answer.number → n ≡ settle_held_number x
      unfolding settle_held_number bar
      settle-last j g q n h =
          h ∙ sym (first_passes (bytes_number x.hall) _ (sym e ∙ z) ∙ first_passes bar _ (sym f ∙ y) ∙ first_passes (undo_number x.undo) _ (sym g ∙ q))

-- it is refused
pub settle-refuses : (b u : List ℕ) (x : Result ℕ Refusal) (why : Refusal) → IsErrAnd x (λ y. y ≡ why)
    → number why ≡ settle_held_number (bench_of b u) → SettlesHeld b u x b u
settle-refuses b u x why i e =
    let p = err_from_is_err_and x i in
    let early = settle-early (bench_of b u) (λ z. has-number why (e ∙ z)) in
    record {
      answer =
          ap settled_meaning p.1 ∙ ap (λ n. record { number = n; values = 0 ∷ [] }) (ap number p.2 ∙ e)
          ∙ sym (ap (λ (h : HeldSettle). h.answer) early);
      left = record { hall = sym (ap (λ (h : HeldSettle). h.left.hall) early); undo = sym (ap (λ (h : HeldSettle). h.left.undo) early) };
    }

-- it is taken: the hall can be settled
pub settle-can : (x : Bench) (n : ℕ) → n ≡ settle_held_number x → n ≡ 0 → cannot_settle (hall_of x.hall) ≡ false
unfolding settle_held_number
settle-can x n e z = not-refused _ 41 (chain-none (refuse (cannot_settle (hall_of x.hall)) 42) _ (chain-none (bytes_number x.hall) _ (sym e ∙ z)).1).0
