-- What a call that a turn takes does: a call of the first group takes 1 from the work, one of kinds 10 and 11 takes 1 from the
-- reports (Quiet has more of these); the greatest view and its members stay.
-- Assumes nothing.
use Prim.Native.Nat.{ℕ, ◌+◌, ◌^◌, ◌≤◌, ◌<◌}
use native.Mathlib.Omega.{arith}
use mathlib.Core.Path.{◌≡◌, refl, sym, ap, ◌∙◌, subst}
use mathlib.Core.Logic.{inl}
use mathlib.Core.Bool.{true, false}
use mathlib.Core.List.{List, [], ◌∷◌}
use lib.Dec.{eqb}
use lib.ListN.{length}
use borrow.Author.Tests.{eqb-true, eq-eqb, leb-true, leb-false, ltb-true, ltb-false, not-true, not-false}
use Rattle.base.specs.Lists.{has, rising}
use Rattle.base.proofs.ListsLaws.{each-has, head-rest}
use Rattle.base.proofs.Bools.{or-none}
use Rattle.base.proofs.ChainsLaws.{not-refused, chain-none, link}
use Rattle.model.specs.Hall.{max_pending, max_queue, Message, Service, Hall}
use Rattle.model.specs.Service.{has_pending, can_receive, has_unsafe, above_current}
use Rattle.model.specs.Kinds.{Kind, label, send_entry, send_summary, enter, place, receive, notice, confirm, deliver}
use Rattle.model.specs.Refusals.{Rules, not_formed, not_member, not_above_current, no_view, none_pending, none_to_receive, none_to_notice, order_ends, pending_full, queue_full, summary_place_full, buffer_head, state_refusal}
use Rattle.model.specs.Actions.{Outcome, do_label, do_send_entry, do_send_summary, do_enter, do_place, do_receive, do_notice, do_confirm, do_deliver, perform, refusal, act}
use Rattle.model.specs.Call.{words_of, step}
use Rattle.model.specs.Settle.{greatest_view, settle_kinds, settle_call, is_in_view}
use Rattle.model.proofs.Accepting.Room.{is_full}
use Rattle.model.proofs.Accepting.Performed.{number_of, kind-of-number, can-label, can-deliver, not_full}
use Rattle.model.proofs.Ordering.Waiting.{first-waiting}
use Rattle.model.proofs.Settling.TurnLaws.{number_at}
use Rattle.model.proofs.Settling.ViewsKept.{SameViews, same-greatest, performed-views}
use Rattle.store.specs.Valid.{ValidHall}
use Rattle.store.proofs.KeepFacts.{Facts}
use Rattle.store.proofs.KeepRules.{facts-of}
use Rattle.store.proofs.KeepValid.{step-valid}
use Rattle.progress.proofs.GreatestView.{greatest-number, members-rise}
use Rattle.progress.proofs.AllEntered.{number_is}
use Rattle.progress.proofs.Measure.{work, reports, enter-work, send-work, receive-work, notice-work, place-work, label-work, confirm-reports, deliver-reports}

-- a hall in range whose greatest view is g, with members ms
pub record Stands (g : ℕ) (ms : List ℕ) (h : Hall) : Type 0 where
  pub valid : ValidHall h
  pub view : greatest_view h ≡ g
  pub set : h.service.members g ≡ ms

abbrev pub work_of : ℕ → List ℕ → Hall → ℕ
work_of g ms h = work g ms h.entries h.service

-- the kinds of the first group, and the others
unfoldable pub first_kinds : List ℕ
first_kinds = 6 ∷ 4 ∷ 3 ∷ 2 ∷ 7 ∷ 8 ∷ 9 ∷ []

unfoldable pub last_kinds : List ℕ
last_kinds = 10 ∷ 11 ∷ []

module _ (rules : Rules) (h : Hall) where
  -- an accepted call is performed
  pub step_is : (κ : Kind) (r a : ℕ) → number_at rules h (words_of (number_of κ) r a 0) ≡ 0
      → step rules h (words_of (number_of κ) r a 0) ≡ perform rules h κ r a 0
  unfolding step act
  step_is κ r a z =
      let t : eqb (refusal rules h κ r a 0) 0 ≡ true = eq-eqb _ 0 (sym (number_is rules h κ r a 0) ∙ z) in
      rw (kind-of-number κ, step, t, act)

  -- and not refused because of the state
  pub state-none : (κ : Kind) (r a : ℕ) → number_at rules h (words_of (number_of κ) r a 0) ≡ 0 → state_refusal rules h κ r a ≡ 0
  unfolding refusal
  state-none κ r a z = (chain-none _ _ (sym (number_is rules h κ r a 0) ∙ z)).1

  -- so the hall still stands
  pub stands_after : (g : ℕ) (ms : List ℕ) (κ : Kind) (r a : ℕ) → has settle_kinds (number_of κ) ≡ true → a < 2 ^ 32 → Stands g ms h
      → number_at rules h (words_of (number_of κ) r a 0) ≡ 0 → Stands g ms (step rules h (words_of (number_of κ) r a 0)).hall
  stands_after g ms κ r a listed low s z =
      let w = words_of (number_of κ) r a 0 in
      let same = subst (λ (o : Outcome). SameViews h o.hall) (sym (step_is κ r a z)) (performed-views rules h κ r a 0 listed) in
      record {
        valid = step-valid rules h w low s.valid;
        view = same-greatest h (step rules h w).hall same ∙ s.view;
        set = ap (λ (f : ℕ → List ℕ). f g) same.members ∙ s.set;
      }

-- ## What each kind takes

module _ (rules : Rules) (g : ℕ) (ms : List ℕ) (h : Hall) (s : Stands g ms h) (r : ℕ) (member : has ms r ≡ true) where
  facts : Facts h
  facts = facts-of h s.valid

  rises : rising 0 ms ≡ true
  rises = subst (λ (l : List ℕ). rising 0 l ≡ true) s.set (members-rise h s.valid g)

  abbrev v : Service
  v = h.service

  -- the work left after a call of kind κ
  abbrev Takes : Kind → ℕ → Type 0
  Takes κ a = work_of g ms h ≡ work_of g ms (perform rules h κ r a 0).hall + 1

  enter-takes : state_refusal rules h enter r g ≡ 0 → Takes enter g
  unfolding state_refusal perform do_enter not_above_current above_current
  enter-takes z =
      let one = link (not_formed h g) _ _ z in
      let two = link (not_member h r g) _ _ one.1 in
      let above = ltb-true (v.current r) g (not-false _ (not-refused (not_above_current h r g) _ two.1)) in
      enter-work g ms rises h.entries v r member (λ e. omega arith)

  -- a place in the pending list of the view
  room : v.current r ≡ g → pending_full h r ≡ false → length (v.pending r g) < max_pending
  unfolding pending_full
  room here e = subst (λ c. length (v.pending r c) < max_pending) here (leb-false _ _ e)

  summary-takes : v.current r ≡ g → state_refusal rules h send_summary r 0 ≡ 0 → Takes send_summary 0
  unfolding is_full perform do_send_summary
  summary-takes here z =
      send-work g ms rises h.entries v r member Message.summary here
      (room here (or-none (summary_place_full h r) (pending_full h r) (not_full rules h r 0 send_summary z)).1)

  entry-takes : v.current r ≡ g → state_refusal rules h send_entry r 0 ≡ 0 → Takes send_entry 0
  unfolding is_full perform do_send_entry
  entry-takes here z =
      send-work g ms rises h.entries v r member (Message.entry (buffer_head h r)) here (room here (not_full rules h r 0 send_entry z))

  label-takes : state_refusal rules h label r 0 ≡ 0 → Takes label 0
  unfolding perform do_label
  label-takes z =
      let can = can-label rules h r 0 (inl z) in
      let first = first-waiting h.entries r _ can.others can.first in
      label-work g ms h.entries v _ (v.current r) (h.recorders.next_seq r) first.low first.high first.bare
      (facts.recorders.next_seq.holds r).0

  place-takes : state_refusal rules h place r g ≡ 0 → Takes place g
  unfolding state_refusal perform do_place is_full queue_full none_pending has_pending
  place-takes z =
      let one = link (not_formed h g) _ _ z in
      let two = link (not_member h r g) _ _ one.1 in
      let three = link (none_pending h r g) _ _ two.1 in
      place-work g ms rises h.entries v r member _ _ (head-rest (v.pending r g) (Message.entry 0) (not-true _ (not-false _ three.0)))
      (facts.traffic.pending r g).0 (leb-false _ _ (not_full rules h r g place z))

  receive-takes : v.current r ≡ g → state_refusal rules h receive r 0 ≡ 0 → Takes receive 0
  unfolding state_refusal perform do_receive none_to_receive can_receive
  receive-takes here z =
      let one = link (no_view h r) _ _ z in
      let two = link (none_to_receive h r) _ _ one.1 in
      let within = leb-true (v.next r (v.current r)) (length (v.queue (v.current r))) (not-false _ two.0) in
      receive-work g ms rises h.entries v r member here
      (subst (λ c. v.next r c ≤ max_queue) here (omega (arith, (facts.traffic.queue (v.current r)).0)))

  notice-takes : v.current r ≡ g → state_refusal rules h notice r 0 ≡ 0 → Takes notice 0
  unfolding state_refusal perform do_notice none_to_notice has_unsafe
  notice-takes here z =
      let one = link (no_view h r) _ _ z in
      let two = link (none_to_notice h r) _ _ one.1 in
      let within = leb-true (v.next_safe r (v.current r)) (length (v.queue (v.current r))) (not-false _ two.0) in
      notice-work g ms rises h.entries v r member here
      (subst (λ c. v.next_safe r c ≤ max_queue) here (omega (arith, (facts.traffic.queue (v.current r)).0)))

  -- the reports left after 10 and 11
  abbrev pub Reports : Kind → Type 0
  Reports κ = reports ms h.recorders ≡ reports ms (perform rules h κ r 0 0).hall.recorders + 1

  pub confirm-takes : state_refusal rules h confirm r 0 ≡ 0 → Reports confirm
  unfolding state_refusal perform do_confirm order_ends
  confirm-takes z =
      let one = link (order_ends h r (h.recorders.confirm r)) _ _ z in
      let within = ltb-false (length (h.recorders.order r)) (h.recorders.confirm r) one.0 in
      confirm-reports ms rises h.recorders r member (omega (arith, (facts.recorders.order.holds r).0))

  pub deliver-takes : state_refusal rules h deliver r 0 ≡ 0 → Reports deliver
  unfolding perform do_deliver
  deliver-takes z =
      deliver-reports ms rises h.recorders r member
      (omega (arith, (can-deliver rules h r 0 (inl z)).confirmed, (facts.recorders.confirm.holds r).1))

  -- a call of the first group that is taken
  pub record Worked (h' : Hall) : Type 0 where
    pub stands : Stands g ms h'
    pub less : work_of g ms h ≡ work_of g ms h' + 1

  view-low : g < 2 ^ 32
  view-low = omega (arith, greatest-number h s.valid, s.view)

  worked : (κ : Kind) (a : ℕ) → has settle_kinds (number_of κ) ≡ true → a < 2 ^ 32 → (state_refusal rules h κ r a ≡ 0 → Takes κ a)
      → number_at rules h (words_of (number_of κ) r a 0) ≡ 0 → Worked (step rules h (words_of (number_of κ) r a 0)).hall
  worked κ a listed low takes z =
      record {
        stands = stands_after rules h g ms κ r a listed low s z;
        less = takes (state-none rules h κ r a z) ∙ ap (λ (o : Outcome). work_of g ms o.hall + 1) (sym (step_is rules h κ r a z));
      }

  pub first-works : (k : ℕ) → has first_kinds k ≡ true → is_in_view h g (settle_call g k r) ≡ true → number_at rules h (settle_call g k r) ≡ 0
      → Worked (step rules h (settle_call g k r)).hall
  unfolding first_kinds is_in_view settle_call settle_kinds has number_of
  first-works =
      each-has (λ k. is_in_view h g (settle_call g k r) ≡ true → number_at rules h (settle_call g k r) ≡ 0 → Worked (step rules h (settle_call g k r)).hall)
      first_kinds (
        λ i. worked enter g refl view-low enter-takes,
        (
          λ i. worked send_summary 0 refl (omega arith) (summary-takes (eqb-true _ _ i)),
          (
            λ i. worked send_entry 0 refl (omega arith) (entry-takes (eqb-true _ _ i)),
            (
              λ i. worked label 0 refl (omega arith) label-takes,
              (
                λ i. worked place g refl view-low place-takes,
                (
                  λ i. worked receive 0 refl (omega arith) (receive-takes (eqb-true _ _ i)),
                  (λ i. worked notice 0 refl (omega arith) (notice-takes (eqb-true _ _ i)), tt),
                ),
              ),
            ),
          ),
        ),
      )
