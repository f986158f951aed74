-- The calls on a bench, case by case: what is known of one that is taken, and that a refused one leaves both slices.
-- Assumes nothing.
use Prim.Native.Nat.{ℕ}
use mathlib.Core.Path.{◌≡◌, refl, sym, ap, ap₂, ◌∙◌}
use mathlib.Core.Bool.{Bool, true, false, true≢false, not}
use mathlib.Core.List.{List, [], ◌∷◌}
use mathlib.Core.Option.{Option}
use lib.Dec.{eqb}
use borrow.Author.Tests.{eqb-true, eqb-false, eq-eqb, ne_eqb, not-false}
use Rattle.base.specs.Chains.{refuse, ◌⨾◌}
use Rattle.base.proofs.ChainsLaws.{not-refused, chain-none, first_passes, chain-assoc}
use Rattle.model.specs.Kinds.{KindWord, kind, no_kind, kind_of}
use Rattle.model.specs.Answers.{refused, plain, accepted}
use Rattle.model.specs.Call.{Words}
use Rattle.model.specs.Settle.{cannot_settle, calls_taken}
use Rattle.store.specs.StoredForm.{hall_of, is_stored}
use Rattle.calls.specs.Calls.{Outcome, step_on, settling_on, settle_on}
use Rattle.calls.specs.ByKind.{give}
use Rattle.calls.proofs.ByKindLaws.{act_on, step-by-kind}
use Rattle.calls.proofs.Refused.{step_keeps}
use Rattle.step.specs.Numbers.{word_kind_number, bytes_number}
use Rattle.step.proofs.StepsLaws.{bytes-hall, bytes-hold}
use Rattle.undo.specs.Buffer.{Slot, is_undo, held_in, newest_of, pushed, popped}
use Rattle.undo.specs.Parts.{slot_of}
use Rattle.stepback.specs.Held.{Bench, bench_of, undo_number, HeldStep, early_number, held_after, step_held_on, held_run, HeldSettle, settle_held_number, settle_held_on, restored_by, can_step_back, SteppedBack, back_number, back_on}
use Rattle.stepback.specs.Kept.{KeepsBench}

-- ## The numbers

pub undo-in_form : (u : List ℕ) → undo_number u ≡ 0 → is_undo u ≡ true
unfolding undo_number
undo-in_form u e = not-false (is_undo u) (not-refused (not (is_undo u)) 42 e)

pub in_form-undo : (u : List ℕ) → is_undo u ≡ true → undo_number u ≡ 0
unfolding undo_number refuse
in_form-undo u i = ap (λ (t : Bool). refuse (not t) 43) i

-- an accepted step has a kind
step-kind : (b : List ℕ) (w : Words) → accepted (step_on b w).answer ≡ true → word_kind_number w.k ≡ 0
unfolding word_kind_number accepted plain
step-kind b w t = go (kind_of w.k) (ap (λ (o : Outcome). accepted o.answer) (sym (step-by-kind b w)) ∙ t)
  where
    by : KindWord → Outcome
    by k =
        elim k [
          | kind κ ↦ elim (is_stored b) [ true ↦ act_on b κ w.r w.a w.b | false ↦ give (refused 31) b ]
          | no_kind ↦ give (refused 11) b
        ]

    go : (k : KindWord) → accepted (by k).answer ≡ true → ◌≡◌ {A = ℕ} (elim k [ kind κ ↦ 0 | no_kind ↦ 11 ]) 0
    go (kind κ) e = refl
    go no_kind e = absurd (true≢false (sym e))

-- ## A held step

module _ (x : Bench) (w : Words) where
  abbrev o : Outcome
  o = step_on x.hall w

  held_by : Bool → List ℕ
  held_by t = elim t [ true ↦ pushed x.undo (slot_of x.hall w) | false ↦ x.undo ]

  step_by : Bool → HeldStep
  step_by t =
      elim t [
        | true ↦ record { answer = o.answer; left = bench_of o.bytes (held_after x w) }
        | false ↦ record { answer = refused (early_number x w); left = x }
      ]

  pub step-early : (early_number x w ≡ 0 → ⊥) → step_held_on x w ≡ record { answer = refused (early_number x w); left = x }
  unfolding step_held_on step_by
  step-early ne = ap step_by (ne_eqb (early_number x w) 0 ne)

  pub step-made : early_number x w ≡ 0 → step_held_on x w ≡ record { answer = o.answer; left = bench_of o.bytes (held_after x w) }
  unfolding step_held_on step_by
  step-made z = ap step_by (eq-eqb (early_number x w) 0 z)

  -- its answer's number
  pub step-number : (plain (step_held_on x w).answer).number
      ≡ (word_kind_number w.k ⨾ bytes_number x.hall) ⨾ undo_number x.undo ⨾ (plain o.answer).number
  unfolding step_held_on step_by early_number plain ◌⨾◌
  step-number =
      go (eqb (early_number x w) 0)
      ∙ ap (λ n. n ⨾ (plain o.answer).number) (sym (chain-assoc (word_kind_number w.k) (bytes_number x.hall) (undo_number x.undo)))
      ∙ chain-assoc (word_kind_number w.k ⨾ bytes_number x.hall) (undo_number x.undo) (plain o.answer).number
    where
      go : (t : Bool) → ◌≡◌ {A = ℕ} (plain (step_by t).answer).number (elim t [ true ↦ (plain o.answer).number | false ↦ early_number x w ])
      go true = refl
      go false = refl

  pub step-keeps-bench : KeepsBench (plain (step_held_on x w).answer).number x (step_held_on x w).left
  unfolding step_held_on held_after accepted step_by held_by
  step-keeps-bench = go (eqb (early_number x w) 0)
    where
      go : (t : Bool) → KeepsBench (plain (step_by t).answer).number x (step_by t).left
      go true ne = ap₂ bench_of (step_keeps x.hall w ne) (ap held_by (ne_eqb (plain o.answer).number 0 ne))
      go false ne = refl

  pub step-refused : accepted (step_held_on x w).answer ≡ false → (step_held_on x w).left ≡ x
  unfolding accepted
  step-refused f = step-keeps-bench (eqb-false (plain (step_held_on x w).answer).number 0 f)

  -- one that is accepted: a hall, a buffer, and its step is accepted
  pub step-taken : accepted (step_held_on x w).answer ≡ true
      → (is_stored x.hall ≡ true) × (is_undo x.undo ≡ true) × (accepted o.answer ≡ true)
  unfolding step_held_on accepted plain early_number step_by
  step-taken = go (eqb (early_number x w) 0) refl
    where
      go : (t : Bool) → eqb (early_number x w) 0 ≡ t → accepted (step_by t).answer ≡ true
          → (is_stored x.hall ≡ true) × (is_undo x.undo ≡ true) × (accepted o.answer ≡ true)
      go true t a =
          let late = (chain-none (word_kind_number w.k) _ (eqb-true (early_number x w) 0 t)).1 in
          let both = chain-none (bytes_number x.hall) (undo_number x.undo) late in
          (bytes-hold x.hall both.0, undo-in_form x.undo both.1, a)
      go false t a = absurd (true≢false (sym a ∙ t))

  not-early : is_stored x.hall ≡ true → is_undo x.undo ≡ true → accepted o.answer ≡ true → early_number x w ≡ 0
  unfolding early_number
  not-early s i a =
      first_passes (word_kind_number w.k) _ (step-kind x.hall w a)
      ∙ first_passes (bytes_number x.hall) _ (sym (bytes-hall x.hall s)) ∙ in_form-undo x.undo i

  -- on a hall and a buffer
  pub step-answers : is_stored x.hall ≡ true → is_undo x.undo ≡ true → accepted o.answer ≡ true → (step_held_on x w).answer ≡ o.answer
  step-answers s i a = ap (λ (h : HeldStep). h.answer) (step-made (not-early s i a))

  pub step-takes : is_stored x.hall ≡ true → is_undo x.undo ≡ true → accepted o.answer ≡ true
      → (step_held_on x w).left ≡ bench_of o.bytes (pushed x.undo (slot_of x.hall w))
  unfolding held_after held_by
  step-takes s i a = ap (λ (h : HeldStep). h.left) (step-made (not-early s i a)) ∙ ap (λ (t : Bool). bench_of o.bytes (held_by t)) a

-- ## A held settle

module _ (x : Bench) where
  abbrev run : Bench
  run = held_run x (calls_taken (settling_on x.hall))

  settle-by : Bool → HeldSettle
  settle-by t =
      elim t [
        | true ↦ record { answer = (settle_on x.hall).answer; left = run }
        | false ↦ record { answer = record { number = settle_held_number x; values = 0 ∷ [] }; left = x }
      ]

  pub settle-early : (settle_held_number x ≡ 0 → ⊥)
      → settle_held_on x ≡ record { answer = record { number = settle_held_number x; values = 0 ∷ [] }; left = x }
  unfolding settle_held_on settle-by
  settle-early ne = ap settle-by (ne_eqb (settle_held_number x) 0 ne)

  pub settle-made : settle_held_number x ≡ 0 → settle_held_on x ≡ record { answer = (settle_on x.hall).answer; left = run }
  unfolding settle_held_on settle-by
  settle-made z = ap settle-by (eq-eqb (settle_held_number x) 0 z)

  pub settle-links : settle_held_number x ≡ 0 → (is_stored x.hall ≡ true) × (is_undo x.undo ≡ true) × ((settle_on x.hall).answer.number ≡ 0)
  unfolding settle_held_number
  settle-links z =
      let one = chain-none (bytes_number x.hall) _ z in
      let two = chain-none (refuse (cannot_settle (hall_of x.hall)) 42) _ one.1 in
      let three = chain-none (undo_number x.undo) _ two.1 in
      (bytes-hold x.hall one.0, undo-in_form x.undo three.0, three.1)

  -- one that is taken: a hall, a buffer, and the held steps of its run
  pub settle-taken : (settle_held_on x).answer.number ≡ 0
      → (is_stored x.hall ≡ true) × (is_undo x.undo ≡ true) × ((settle_held_on x).left ≡ run)
  unfolding settle_held_on settle-by
  settle-taken = go (eqb (settle_held_number x) 0) refl
    where
      go : (t : Bool) → eqb (settle_held_number x) 0 ≡ t → (settle-by t).answer.number ≡ 0
          → (is_stored x.hall ≡ true) × (is_undo x.undo ≡ true) × ((settle-by t).left ≡ run)
      go true t z = let l = settle-links (eqb-true (settle_held_number x) 0 t) in (l.0, l.1, refl)
      go false t z = absurd (eqb-false (settle_held_number x) 0 t z)

  pub settle-keeps-bench : KeepsBench (settle_held_on x).answer.number x (settle_held_on x).left
  unfolding settle_held_on settle-by
  settle-keeps-bench = go (eqb (settle_held_number x) 0) refl
    where
      go : (t : Bool) → eqb (settle_held_number x) 0 ≡ t → KeepsBench (settle-by t).answer.number x (settle-by t).left
      go true t ne = absurd (ne (settle-links (eqb-true (settle_held_number x) 0 t)).2)
      go false t ne = refl

  -- its answer's number
  pub settle-number : (settle_held_on x).answer.number ≡ settle_held_number x
  unfolding settle_held_on settle-by
  settle-number = go (eqb (settle_held_number x) 0) refl
    where
      go : (t : Bool) → eqb (settle_held_number x) 0 ≡ t → (settle-by t).answer.number ≡ settle_held_number x
      go true t = let z = eqb-true (settle_held_number x) 0 t in (settle-links z).2 ∙ sym z
      go false t = refl

-- ## A step back

module _ (x : Bench) where
  abbrev s : Option Slot
  s = newest_of (held_in x.undo)

  abbrev before : Bench
  before = bench_of (restored_by x.hall s) (popped x.undo)

  back_by : Bool → SteppedBack
  back_by t = elim t [ true ↦ record { number = 0; left = before } | false ↦ record { number = back_number x; left = x } ]

  pub back_early : (back_number x ≡ 0 → ⊥) → back_on x ≡ record { number = back_number x; left = x }
  unfolding back_on back_by
  back_early ne = ap back_by (ne_eqb (back_number x) 0 ne)

  pub back-made : back_number x ≡ 0 → back_on x ≡ record { number = 0; left = before }
  unfolding back_on back_by
  back-made z = ap back_by (eq-eqb (back_number x) 0 z)

  pub back-keeps-bench : KeepsBench (back_on x).number x (back_on x).left
  unfolding back_on back_by
  back-keeps-bench = go (eqb (back_number x) 0)
    where
      go : (t : Bool) → KeepsBench (back_by t).number x (back_by t).left
      go true ne = absurd (ne refl)
      go false ne = refl

  -- one that is taken: a hall, a buffer, and a newest slot that leads to the hall
  pub back-taken : (back_on x).number ≡ 0
      → (is_stored x.hall ≡ true) × (is_undo x.undo ≡ true) × (can_step_back x.hall s ≡ true)
  unfolding back_on back_number back_by
  back-taken = go (eqb (back_number x) 0) refl
    where
      go : (t : Bool) → eqb (back_number x) 0 ≡ t → (back_by t).number ≡ 0
          → (is_stored x.hall ≡ true) × (is_undo x.undo ≡ true) × (can_step_back x.hall s ≡ true)
      go true t z =
          let one = chain-none (bytes_number x.hall) _ (eqb-true (back_number x) 0 t) in
          let two = chain-none (undo_number x.undo) _ one.1 in
          (bytes-hold x.hall one.0, undo-in_form x.undo two.0, not-false _ (not-refused _ 42 two.1))
      go false t z = absurd (eqb-false (back_number x) 0 t z)

  pub back-takes : is_stored x.hall ≡ true → is_undo x.undo ≡ true → can_step_back x.hall s ≡ true
      → ((back_on x).number ≡ 0) × ((back_on x).left ≡ before)
  unfolding back_number refuse
  back-takes t i c =
      let why : back_number x ≡ 0 =
      first_passes (bytes_number x.hall) _ (sym (bytes-hall x.hall t))
      ∙ first_passes (undo_number x.undo) _ (in_form-undo x.undo i) ∙ ap (λ (t : Bool). refuse (not t) 43) c in
      let e = back-made why in
      (ap (λ (z : SteppedBack). z.number) e, ap (λ (z : SteppedBack). z.left) e)
