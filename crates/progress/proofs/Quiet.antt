-- When every call of the first group is passed over, 10 and 11 alone are taken: they leave it so, and each takes 1 from the
-- reports.
-- Assumes nothing.
use Prim.Native.Nat.{ℕ, ◌+◌}
use native.Mathlib.Omega.{arith}
use mathlib.Core.Path.{◌≡◌, refl, sym, ap, ◌∙◌, subst}
use mathlib.Core.Bool.{true}
use mathlib.Core.List.{List}
use Rattle.base.specs.Lists.{has}
use Rattle.base.specs.Chains.{◌⨾◌}
use Rattle.base.proofs.ListsLaws.{each-has}
use Rattle.model.specs.Hall.{Hall}
use Rattle.model.specs.Ordering.{completes, heard_summary, confirmed, reported}
use Rattle.model.specs.Kinds.{Kind, label, send_entry, send_summary, enter, place, receive, notice, confirm, deliver, input_refusal}
use Rattle.model.specs.Refusals.{Rules, is_primary, summaries_of, not_formed, not_member, not_above_current, no_view, not_normal, cannot_label, not_send, none_waiting, buffer_empty, none_pending, none_to_receive, none_to_notice, not_received_by_all, not_known, buffer_full, pending_full, queue_full, order_full, built_too_long, no_room_to_receive, sequence_full, summary_place_full, new_label_exists, to_receive, buffer_head, state_refusal}
use Rattle.model.specs.Fields.{set_confirm, set_report, set_recorders}
use Rattle.model.specs.Actions.{Outcome, do_confirm, do_deliver, perform, refusal}
use Rattle.model.specs.Call.{words_of, step}
use Rattle.model.specs.Settle.{settle_kinds, settle_call, is_in_view}
use Rattle.model.proofs.Accepting.Performed.{number_of}
use Rattle.model.proofs.Settling.TurnLaws.{number_at, Passed}
use Rattle.progress.proofs.AllEntered.{number_is}
use Rattle.progress.proofs.Measure.{reports}
use Rattle.progress.proofs.SettleSteps.{Stands, first_kinds, last_kinds, step_is, state-none, stands_after, confirm-takes, deliver-takes}

-- every call of the first group at a member is passed over
abbrev pub Quiet : Rules → ℕ → List ℕ → Hall → Type 0
Quiet rules g ms h = (k r : ℕ) → has first_kinds k ≡ true → has ms r ≡ true → Passed rules h g (settle_call g k r)

-- ## 10 and 11

-- confirm and report marks are read by no refusal of the first group
module _ (rules : Rules) (h : Hall) (x y : ℕ → ℕ) (r : ℕ) where
  abbrev marked : Hall
  marked = set_recorders (set_confirm x (set_report y h.recorders)) h

  same-enter : (a : ℕ) → state_refusal rules marked enter r a ≡ state_refusal rules h enter r a
  unfolding state_refusal not_formed not_member not_above_current
  same-enter a = refl

  same-summary : state_refusal rules marked send_summary r 0 ≡ state_refusal rules h send_summary r 0
  unfolding state_refusal no_view not_send summary_place_full pending_full
  same-summary = refl

  same-entry : state_refusal rules marked send_entry r 0 ≡ state_refusal rules h send_entry r 0
  unfolding state_refusal no_view not_normal buffer_empty not_known buffer_head pending_full
  same-entry = refl

  same-label : state_refusal rules marked label r 0 ≡ state_refusal rules h label r 0
  unfolding state_refusal cannot_label no_view not_normal none_waiting sequence_full buffer_full new_label_exists
  same-label = refl

  same_place : (a : ℕ) → state_refusal rules marked place r a ≡ state_refusal rules h place r a
  unfolding state_refusal not_formed not_member none_pending queue_full
  same_place a = refl

  same-receive : state_refusal rules marked receive r 0 ≡ state_refusal rules h receive r 0
  unfolding state_refusal no_view none_to_receive no_room_to_receive to_receive is_primary order_full built_too_long summaries_of completes heard_summary
  same-receive = refl

  same-notice : state_refusal rules marked notice r 0 ≡ state_refusal rules h notice r 0
  unfolding state_refusal no_view none_to_notice not_received_by_all
  same-notice = refl

  same_at : (κ : Kind) (a : ℕ) → state_refusal rules marked κ r a ≡ state_refusal rules h κ r a
      → number_at rules marked (words_of (number_of κ) r a 0) ≡ number_at rules h (words_of (number_of κ) r a 0)
  unfolding refusal
  same_at κ a e =
      number_is rules marked κ r a 0 ∙ ap (λ n. input_refusal h.size κ r a 0 ⨾ n) e ∙ sym (number_is rules h κ r a 0)

  same_number : (g k : ℕ) → has first_kinds k ≡ true → number_at rules marked (settle_call g k r) ≡ number_at rules h (settle_call g k r)
  unfolding first_kinds settle_call number_of
  same_number g =
      each-has (λ k. number_at rules marked (settle_call g k r) ≡ number_at rules h (settle_call g k r)) first_kinds (
        same_at enter g (same-enter g),
        (
          same_at send_summary 0 same-summary,
          (
            same_at send_entry 0 same-entry,
            (
              same_at label 0 same-label,
              (
                same_at place g (same_place g),
                (
                  same_at receive 0 same-receive,
                  (same_at notice 0 same-notice, tt),
                ),
              ),
            ),
          ),
        ),
      )

quiet-marked : (rules : Rules) (g : ℕ) (ms : List ℕ) (h : Hall) (x y : ℕ → ℕ) → Quiet rules g ms h
    → Quiet rules g ms (set_recorders (set_confirm x (set_report y h.recorders)) h)
unfolding is_in_view
quiet-marked rules g ms h x y q k r i m in_view =
    let p = q k r i m in_view in
    let e = same_number rules h x y r g k i in
    (λ z. p.0 (sym e ∙ z), λ z. p.1 (sym e ∙ z))

-- a call of kind 10 or 11 that is taken
module _ (rules : Rules) (g : ℕ) (ms : List ℕ) (h : Hall) (s : Stands g ms h) (r : ℕ) (member : has ms r ≡ true) where
  pub record Reported (h' : Hall) : Type 0 where
    pub stands : Stands g ms h'
    pub less : reports ms h.recorders ≡ reports ms h'.recorders + 1
    pub quiet : Quiet rules g ms h → Quiet rules g ms h'

  did : (κ : Kind) → has settle_kinds (number_of κ) ≡ true
      → (state_refusal rules h κ r 0 ≡ 0 → reports ms h.recorders ≡ reports ms (perform rules h κ r 0 0).hall.recorders + 1)
      → (Quiet rules g ms h → Quiet rules g ms (perform rules h κ r 0 0).hall)
      → number_at rules h (words_of (number_of κ) r 0 0) ≡ 0 → Reported (step rules h (words_of (number_of κ) r 0 0)).hall
  did κ listed takes stays z =
      let e = step_is rules h κ r 0 z in
      record {
        stands = stands_after rules h g ms κ r 0 listed (omega arith) s z;
        less = takes (state-none rules h κ r 0 z) ∙ ap (λ (o : Outcome). reports ms o.hall.recorders + 1) (sym e);
        quiet = λ q. subst (λ (o : Outcome). Quiet rules g ms o.hall) (sym e) (stays q);
      }

  pub last-reports : (k : ℕ) → has last_kinds k ≡ true → number_at rules h (settle_call g k r) ≡ 0 → Reported (step rules h (settle_call g k r)).hall
  unfolding last_kinds settle_call settle_kinds has number_of perform do_confirm do_deliver confirmed reported
  last-reports =
      each-has (λ k. number_at rules h (settle_call g k r) ≡ 0 → Reported (step rules h (settle_call g k r)).hall) last_kinds (
        did confirm refl (confirm-takes rules g ms h s r member) (quiet-marked rules g ms h _ h.recorders.report),
        (did deliver refl (deliver-takes rules g ms h s r member) (quiet-marked rules g ms h h.recorders.confirm _), tt),
      )
