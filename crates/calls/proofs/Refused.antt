-- A refused step leaves the bytes; the calls into a lent slice, case by case. Assumes nothing.
use Prim.Native.Nat.{ℕ, ◌≤◌, ◌<◌}
use mathlib.Core.Path.{◌≡◌, refl, sym, ap, ap₂, subst, ◌∙◌}
use mathlib.Core.Bool.{Bool, true, false}
use mathlib.Core.List.{List}
use lib.Dec.{eqb, ltb}
use lib.ListN.{length}
use borrow.Author.Tests.{ne_eqb, eqb-true, eqb-false, lt-ltb, le-ltb}
use Rattle.base.specs.Chains.{refuse, ◌⨾◌}
use Rattle.base.proofs.Bools.{by_cases}
use Rattle.model.specs.Hall.{Hall}
use Rattle.model.specs.Kinds.{Kind, submit, label, send_entry, send_summary, form, enter, place, receive, notice, confirm, deliver, KindWord, kind, no_kind, kind_of, input_refusal}
use Rattle.model.specs.Answers.{Content, message, refused, Plain, plain}
use Rattle.model.specs.Refusals.{state_refusal, to_receive, to_notice}
use Rattle.model.specs.Actions as actions
use Rattle.model.specs.Actions.{perform}
use Rattle.model.specs.Opening.{Opening}
use Rattle.model.specs.Page.{plain_page}
use Rattle.model.specs.Call.{Words, hl3}
use Rattle.model.specs.Settle.{Settling, calls_taken, plain_settle}
use Rattle.model.specs.RunFile.{read_file, read_answer, next_at, write_file}
use Rattle.store.specs.StoredForm.{hall_of, is_stored}
use Rattle.calls.specs.Calls.{with_hall, open_on, Outcome, step_on, page_on, run_on, settling_on, settle_on}
use Rattle.calls.specs.ByKind.{kind_on, give}
use Rattle.calls.specs.Kept.{Keeps, RefusedKeeps}
use Rattle.calls.specs.Lent.{answer_length, with_answer, Lent, lent_number, lent_call, step_lent, page_lent, settle_lent, Leaves}
use Rattle.calls.specs.RunsLent.{read_words, next_words, written_words, run_read_lent, run_action_lent, run_write_lent}
use Rattle.calls.proofs.ByKindLaws.{act_on, step-by-kind}
use Rattle.calls.proofs.OpenLaws.{open-refused, open-taken}

-- what is performed is accepted
message-number : (q : ℕ) (x : Content) → (plain (message q x)).number ≡ 0
unfolding plain
message-number q (Content.entry v s p x) = refl
message-number q (Content.summary k o c g) = refl

performed : (h : Hall) (κ : Kind) (r a d : ℕ) → (plain (perform hl3 h κ r a d).answer).number ≡ 0
unfolding perform plain actions.do_submit actions.do_label actions.do_send_entry actions.do_send_summary actions.do_form actions.do_enter actions.do_place actions.do_receive actions.do_notice actions.do_confirm actions.do_deliver
performed h submit r a d = refl
performed h label r a d = refl
performed h send_entry r a d = refl
performed h send_summary r a d = refl
performed h form r a d = refl
performed h enter r a d = refl
performed h place r a d = refl
performed h receive r a d = message-number (to_receive h r).source (actions.content_of h (h.service.current r) (to_receive h r))
performed h notice r a d = message-number (to_notice h r).source (actions.content_of h (h.service.current r) (to_notice h r))
performed h confirm r a d = refl
performed h deliver r a d = refl

-- a kind's number is that of its refusal
pub kind-number : (b : List ℕ) (κ : Kind) (r a d : ℕ) → (plain (kind_on b κ r a d).answer).number ≡ state_refusal hl3 (hall_of b) κ r a
unfolding kind_on plain
kind-number b κ r a d =
    by_cases (eqb why 0) (λ t. rw (t, kind_on) (performed (hall_of b) κ r a d ∙ sym (eqb-true why 0 t))) (λ t. rw (t, kind_on) refl)
  where
    why : ℕ
    why = state_refusal hl3 (hall_of b) κ r a

-- an outcome that leaves b if it is refused
abbrev KeepsBytes : List ℕ → Outcome → Type 0
KeepsBytes b o = Keeps (plain o.answer).number b o.bytes

module _ (b : List ℕ) (r a d : ℕ) where
  kind-keeps : (κ : Kind) → KeepsBytes b (kind_on b κ r a d)
  unfolding kind_on
  kind-keeps κ = go (eqb (state_refusal hl3 (hall_of b) κ r a) 0)
    where
      o : actions.Outcome
      o = perform hl3 (hall_of b) κ r a d

      after : Bool → Outcome
      after t = elim t [ true ↦ give o.answer (with_hall b o.hall) | false ↦ give (refused (state_refusal hl3 (hall_of b) κ r a)) b ]

      go : (t : Bool) → KeepsBytes b (after t)
      go true ne = absurd (ne (performed (hall_of b) κ r a d))
      go false ne = refl

  act-keeps : (κ : Kind) → KeepsBytes b (act_on b κ r a d)
  unfolding act_on
  act-keeps κ = go (eqb (input_refusal (hall_of b).size κ r a d) 0)
    where
      after : Bool → Outcome
      after t = elim t [ true ↦ kind_on b κ r a d | false ↦ give (refused (input_refusal (hall_of b).size κ r a d)) b ]

      go : (t : Bool) → KeepsBytes b (after t)
      go true ne = kind-keeps κ ne
      go false ne = refl

pub step_keeps : (b : List ℕ) (w : Words) → Keeps (plain (step_on b w).answer).number b (step_on b w).bytes
step_keeps b w = subst (KeepsBytes b) (sym (step-by-kind b w)) (by_kind (kind_of w.k))
  where
    on-bytes : Kind → Bool → Outcome
    on-bytes κ t = elim t [ true ↦ act_on b κ w.r w.a w.b | false ↦ give (refused 31) b ]

    by_bytes : (κ : Kind) (t : Bool) → KeepsBytes b (on-bytes κ t)
    by_bytes κ true ne = act-keeps b w.r w.a w.b κ ne
    by_bytes κ false ne = refl

    by_kind : (k : KindWord) → KeepsBytes b (elim k [ kind κ ↦ on-bytes κ (is_stored b) | no_kind ↦ give (refused 11) b ])
    by_kind (kind κ) = by_bytes κ (is_stored b)
    by_kind no_kind = λ ne. refl

-- ## A call into a lent slice

module _ (x : Plain) (before next out : List ℕ) where
  after : ℕ → Lent
  after why = elim (eqb why 0) [ true ↦ record { number = 0; bytes = next; answer = with_answer out x.values } | false ↦ record { number = why; bytes = before; answer = out } ]

  is-after : (n : ℕ) → lent_number x.number out ≡ n → lent_call x before next out ≡ after n
  unfolding lent_call after
  is-after n e = ap after e

  leaves : (l : Lent) → lent_call x before next out ≡ l → Leaves (lent_call x before next out) l.number l.bytes l.answer
  leaves l e = subst (λ (z : Lent). Leaves z l.number l.bytes l.answer) (sym e) (record { number = refl; bytes = refl; answer = refl })

  pub lent-refused : (n : ℕ) → n ≡ x.number → (n ≡ 0 → ⊥) → Leaves (lent_call x before next out) n before out
  unfolding lent_number ◌⨾◌ after
  lent-refused n e ne =
      leaves (record { number = n; bytes = before; answer = out })
      (is-after n (ap (λ m. m ⨾ refuse (ltb (length out) answer_length) 18) (sym e) ∙ rw (ne_eqb n 0 ne, ◌⨾◌) refl) ∙ rw (ne_eqb n 0 ne, after) refl)

  pub lent-short : x.number ≡ 0 → length out < answer_length → Leaves (lent_call x before next out) 18 before out
  unfolding lent_number ◌⨾◌ after refuse
  lent-short e l =
      leaves (record { number = 18; bytes = before; answer = out })
      (is-after 18 (ap₂ (λ (m : ℕ) (t : Bool). m ⨾ refuse t 18) e (lt-ltb _ _ l)))

  -- the number, tried without a room for the answer
  pub lent-tried : (n : ℕ) → n ≡ x.number ⨾ 18 → length out < answer_length → Leaves (lent_call x before next out) n before out
  unfolding ◌⨾◌
  lent-tried n e l =
      by_cases (eqb x.number 0)
      (λ t. subst (λ (m : ℕ). Leaves (lent_call x before next out) m before out) (sym (e ∙ rw (t, ◌⨾◌) refl)) (lent-short (eqb-true x.number 0 t) l))
      (λ t. lent-refused n (e ∙ rw (t, ◌⨾◌) refl) (λ z. eqb-false x.number 0 t (sym (e ∙ rw (t, ◌⨾◌) refl) ∙ z)))

  pub lent-done : x.number ≡ 0 → answer_length ≤ length out → Leaves (lent_call x before next out) 0 next (with_answer out x.values)
  unfolding lent_number ◌⨾◌ after refuse
  lent-done e l =
      leaves (record { number = 0; bytes = next; answer = with_answer out x.values })
      (is-after 0 (ap₂ (λ (m : ℕ) (t : Bool). m ⨾ refuse t 18) e (le-ltb _ _ l)))

-- a call into a lent slice that returned 0 left its own bytes
pub lent-taken : (x : Plain) (before next out : List ℕ) → (lent_call x before next out).number ≡ 0 → (lent_call x before next out).bytes ≡ next
unfolding lent_call
lent-taken x before next out = go (eqb (lent_number x.number out) 0) refl
  where
    after : Bool → Lent
    after t = elim t [ true ↦ record { number = 0; bytes = next; answer = with_answer out x.values } | false ↦ record { number = lent_number x.number out; bytes = before; answer = out } ]

    go : (t : Bool) → eqb (lent_number x.number out) 0 ≡ t → (after t).number ≡ 0 → (after t).bytes ≡ next
    go true e z = refl
    go false e z = absurd (eqb-false (lent_number x.number out) 0 e z)

-- ## No refused call changes a byte

-- a call into a lent slice leaves both slices, or returns 0
pub lent-keeps : (x : Plain) (before next out : List ℕ)
    → Keeps (lent_call x before next out).number before (lent_call x before next out).bytes
    × Keeps (lent_call x before next out).number out (lent_call x before next out).answer
unfolding lent_call
lent-keeps x before next out = go (eqb (lent_number x.number out) 0) refl
  where
    after : Bool → Lent
    after t = elim t [ true ↦ record { number = 0; bytes = next; answer = with_answer out x.values } | false ↦ record { number = lent_number x.number out; bytes = before; answer = out } ]

    go : (t : Bool) → eqb (lent_number x.number out) 0 ≡ t
        → Keeps (after t).number before (after t).bytes × Keeps (after t).number out (after t).answer
    go true e = (λ ne. absurd (ne refl), λ ne. absurd (ne refl))
    go false e = (λ ne. refl, λ ne. refl)

open-keeps : (b : List ℕ) (o : Opening) → Keeps (open_on b o).number b (open_on b o).bytes
open-keeps b o ne =
    (open-refused b o (λ z. ne (open-taken b o z).0)).1

-- a refused settle stands for no call
settle-keeps : (b : List ℕ) → Keeps (settle_on b).answer.number b (settle_on b).bytes
unfolding settle_on plain_settle calls_taken run_on
settle-keeps b = go (settling_on b)
  where
    go : (x : Settling) → Keeps (plain_settle x).number b (run_on b (calls_taken x))
    go (Settling.settled ws) ne = absurd (ne refl)
    go (Settling.refused n) ne = refl

-- a call that only reads its first slice
pub only-read : (x : Plain) (b out : List ℕ) → (lent_call x b b out).bytes ≡ b
unfolding lent_call
only-read x b out = go (eqb (lent_number x.number out) 0)
  where
    after : Bool → Lent
    after t = elim t [ true ↦ record { number = 0; bytes = b; answer = with_answer out x.values } | false ↦ record { number = lent_number x.number out; bytes = b; answer = out } ]

    go : (t : Bool) → (after t).bytes ≡ b
    go true = refl
    go false = refl

pub refused-keeps : RefusedKeeps
unfolding step_lent settle_lent page_lent run_read_lent run_action_lent run_write_lent
refused-keeps =
    record {
      opening = open-keeps;
      step = step_keeps;
      step_hall = λ b w out. (lent-keeps (plain (step_on b w).answer) b (step_on b w).bytes out).0;
      step_answer = λ b w out. (lent-keeps (plain (step_on b w).answer) b (step_on b w).bytes out).1;
      settle = settle-keeps;
      settle_hall = λ b out. (lent-keeps (settle_on b).answer b (settle_on b).bytes out).0;
      settle_answer = λ b out. (lent-keeps (settle_on b).answer b (settle_on b).bytes out).1;
      page_hall = λ b r k out. only-read (plain_page (page_on b r k)) b out;
      page_answer = λ b r k out. (lent-keeps (plain_page (page_on b r k)) b b out).1;
      run_read_file = λ f out. only-read (read_words (read_answer f (read_file f))) f out;
      run_read_answer = λ f out. (lent-keeps (read_words (read_answer f (read_file f))) f f out).1;
      run_action_file = λ f at out. only-read (next_words (next_at f at)) f out;
      run_action_answer = λ f at out. (lent-keeps (next_words (next_at f at)) f f out).1;
      run_write_file = λ f x out. (lent-keeps (written_words (write_file x f).answer) f (write_file x f).bytes out).0;
      run_write_answer = λ f x out. (lent-keeps (written_words (write_file x f).answer) f (write_file x f).bytes out).1;
    }
