-- The two parts that an action writes, kind by kind: the next hall's bytes are those of the hall before it but for these.
-- Assumes nothing.
use Prim.Native.Nat.{ℕ, ◌+◌, ◌-◌, ◌*◌, ◌^◌, ◌≤◌, ◌<◌}
use native.Mathlib.Omega.{arith}
use mathlib.Core.Path.{◌≡◌, refl, ap, subst, ◌∙◌}
use mathlib.Core.Logic.{inl}
use mathlib.Core.Bool.{true, false, ◌||◌}
use mathlib.Core.List.{List}
use lib.ListN.{length}
use lib.Seq.{sets}
use borrow.Author.Tests.{eq-eqb, eqb-false, not-false}
use Rattle.base.specs.Lists.{has, nth}
use Rattle.base.proofs.Bools.{or-none}
use Rattle.base.proofs.ChainsLaws.{link}
use Rattle.model.specs.Hall.{Hall, max_entries, max_views, max_recorders}
use Rattle.model.specs.Kinds.{Kind, submit, label, send_entry, send_summary, form, enter, place, receive, notice, confirm, deliver, uses, input_refusal}
use Rattle.model.specs.Service.{gpsnd, newview, vs_order, gprcv, safe, is_created, is_member}
use Rattle.model.specs.Ordering.{waiting}
use Rattle.model.specs.Refusals.{no_view, not_normal, not_send, not_formed, not_member, state_refusal}
use Rattle.model.specs.Actions.{payload_of, do_label, do_send_entry, do_send_summary, do_enter, do_place, do_receive, do_notice, do_confirm, do_deliver, perform}
use Rattle.model.specs.Call.{hl3}
use Rattle.model.proofs.Accepting.Performed.{can-label}
use Rattle.model.proofs.Ordering.Waiting.{first-waiting}
use Rattle.codec.specs.Number.{digits}
use Rattle.codec.specs.Table.{index_of}
use Rattle.codec.proofs.BytesLaws.{sets-append, block-zeros, block-append}
use Rattle.codec.proofs.NumberLaws.{block-digits}
use Rattle.store.specs.Layout.{number_size, views_at, view_cells, view_sets, view_size, recorders_at, recorder_size, network_at, row_size, endpoint_size, queues_at, queue_size, stored_length}
use Rattle.store.specs.Cells.{recorder_at, endpoint_at}
use Rattle.store.specs.StoredForm.{hall_of, is_stored}
use Rattle.store.specs.Valid.{ValidHall}
use Rattle.store.proofs.CellFormsLaws.{entry-lawful, recorder-lawful, endpoint-lawful, queue-lawful}
use Rattle.store.proofs.Growth.{new_entry}
use Rattle.store.proofs.StoredFormLaws.{hall_of-valid}
use Rattle.calls.specs.Calls.{with_hall}
use Rattle.calls.specs.ByKind.{kind_on}
use Rattle.hall.specs.Acts.{Judged, number_on}
use Rattle.hall.specs.AtRecorder.{recorder_in}
use Rattle.hall.specs.Parts.{HasRecorder, Placed, entry_in}
use Rattle.hall.proofs.Acting.{acts, next-valid, member-placed, current-placed}
use Rattle.hall.proofs.Appending.{writes-append}
use Rattle.hall.proofs.Changes.{Changed}
use Rattle.hall.proofs.Changing.{send_entry-changed, send_summary-changed, enter-changed, order-changed, receive-changed, notice-changed, confirm-changed, deliver-changed}
use Rattle.hall.proofs.Writes.{new_recorder, new_endpoint, new-recorder-ok, new-endpoint-ok, new-queue-ok, writes-recorder, writes-both}
use Rattle.client.specs.Labelling.{labelled_as, with_entry}
use Rattle.client.proofs.LabellingLaws.{labelled_cell, entry-fits, labelled-ok, label-writes}
use Rattle.client.proofs.Submitting.{new-entry-ok, submit-few, submit-does}
use Rattle.views.proofs.FormingLaws.{form-few, form-done}
use Rattle.undo.specs.Parts.{places_of}
use Rattle.undo.proofs.Covering.{Covered, spans, in-turn, second-first}
use Rattle.undo.proofs.Judging.{no-recorder, no-set}

-- the bytes of a kind that nothing of 32 to 40 refuses
performs : (b : List ℕ) (κ : Kind) (r a d : ℕ) → state_refusal hl3 (hall_of b) κ r a ≡ 0
    → (kind_on b κ r a d).bytes ≡ with_hall b (perform hl3 (hall_of b) κ r a d).hall
unfolding kind_on
performs b κ r a d none = rw (eq-eqb (state_refusal hl3 (hall_of b) κ r a) 0 none, kind_on) refl

-- ## What 34 and 37 let pass

module _ (h : Hall) (r a : ℕ) where
  -- R has a current view
  abbrev pub InView : Type 0
  InView = h.service.current r ≡ 0 → ⊥

  in-view : no_view h r ≡ false → InView
  unfolding no_view
  in-view f = eqb-false (h.service.current r) 0 f

  pub send_entry-view : state_refusal hl3 h send_entry r a ≡ 0 → InView
  unfolding state_refusal
  send_entry-view none =
      in-view (or-none (no_view h r) (not_normal h r) (link (no_view h r || not_normal h r) 36 _ none).0).0

  pub send_summary-view : state_refusal hl3 h send_summary r a ≡ 0 → InView
  unfolding state_refusal
  send_summary-view none =
      in-view (or-none (no_view h r) (not_send h r) (link (no_view h r || not_send h r) 36 _ none).0).0

  pub receive-view : state_refusal hl3 h receive r a ≡ 0 → InView
  unfolding state_refusal
  receive-view none = in-view (link (no_view h r) 36 _ none).0

  pub notice-view : state_refusal hl3 h notice r a ≡ 0 → InView
  unfolding state_refusal
  notice-view none = in-view (link (no_view h r) 36 _ none).0

  -- A is formed
  pub place-formed : state_refusal hl3 h place r a ≡ 0 → has h.service.created a ≡ true
  unfolding state_refusal not_formed is_created
  place-formed none = not-false (has h.service.created a) (link (not_formed h a) 33 _ none).0

-- ## At a recorder

module _ {b : List ℕ} {κ : Kind} {r a d : ℕ} (j : Judged b κ r a d) (p : HasRecorder b r) (low : a < 2 ^ 32)
    (none : state_refusal hl3 (hall_of b) κ r a ≡ 0) where
  abbrev h : Hall
  h = hall_of b

  abbrev h' : Hall
  h' = (perform hl3 (hall_of b) κ r a d).hall

  valid : ValidHall h'
  valid = next-valid j p low none

  r-few : r ≤ max_recorders
  r-few = omega (arith, p.high, (hall_of-valid b p.holds).in_range.size.1)

  recorder-in : recorders_at + (r - 1) * recorder_size + recorder_size ≤ stored_length
  recorder-in = omega (arith, p.low, r-few)

  -- recorder r alone
  recorder-covered : (g : ℕ) → Changed r g h h' → endpoint_at h'.service h'.summaries r g ≡ endpoint_at h.service h.summaries r g
      → h'.service.queue g ≡ h.service.queue g
      → Covered b (with_hall b h') (spans (recorders_at + (r - 1) * recorder_size) recorder_size 0 0)
  recorder-covered g c endpoint queue =
      in-turn p.holds recorder-in (omega arith) (omega arith) (omega arith)
      (recorder-lawful.stored (new_recorder p h' valid g c) (new-recorder-ok p h' valid g c)) (block-zeros 0)
      (writes-recorder p h' valid g c endpoint queue)

  module _ {g i : ℕ} (v : Placed b r g i) where
    i-few : i < max_views
    i-few = omega (arith, v.there.within, (hall_of-valid b p.holds).in_range.views.at_most)

    endpoint-in : network_at + (r - 1) * row_size + i * endpoint_size + endpoint_size ≤ stored_length
    endpoint-in = omega (arith, p.low, r-few, i-few)

    -- recorder r, and its endpoint in the view
    both-covered : Changed r g h h' → h'.service.queue g ≡ h.service.queue g
        → Covered b (with_hall b h')
        (spans (recorders_at + (r - 1) * recorder_size) recorder_size (network_at + (r - 1) * row_size + i * endpoint_size) endpoint_size)
    both-covered c queue =
        in-turn p.holds recorder-in endpoint-in (omega arith) (omega arith)
        (recorder-lawful.stored (new_recorder p h' valid g c) (new-recorder-ok p h' valid g c))
        (endpoint-lawful.stored (new_endpoint p h' valid g c) (new-endpoint-ok p h' valid g c v))
        (writes-both p h' valid g c v queue)

    -- the view's queue, and the endpoint
    queue-covered : (c : Changed r g h h') → recorder_at h'.service.current h'.recorders r ≡ recorder_at h.service.current h.recorders r
        → Covered b (with_hall b h')
        (spans (queues_at + i * queue_size) queue_size (network_at + (r - 1) * row_size + i * endpoint_size) endpoint_size)
    queue-covered c same =
        in-turn p.holds (omega (arith, i-few)) endpoint-in (omega arith) (omega arith)
        (queue-lawful.stored (h'.service.queue g) (new-queue-ok p h' valid g c v))
        (endpoint-lawful.stored (new_endpoint p h' valid g c) (new-endpoint-ok p h' valid g c v))
        (writes-append p h' valid g c v same)

  -- in its current view
  current-covered : (h.service.current r ≡ 0 → ⊥) → Changed r (h.service.current r) h h'
      → h'.service.queue (h.service.current r) ≡ h.service.queue (h.service.current r)
      → Covered b (with_hall b h')
      (spans (recorders_at + (r - 1) * recorder_size) recorder_size
      (network_at + (r - 1) * row_size + index_of h.service.created (h.service.current r) * endpoint_size) endpoint_size)
  current-covered some c queue =
      both-covered
      (current-placed b p.holds r (h.service.current r) (index_of h.service.created (h.service.current r)) refl some refl)
      c queue

-- ## Each kind

module _ (b : List ℕ) (r a d : ℕ) (low : a < 2 ^ 32) where
  abbrev covered : Kind → Type 0
  covered κ = Judged b κ r a d → state_refusal hl3 (hall_of b) κ r a ≡ 0
      → Covered b (with_hall b (perform hl3 (hall_of b) κ r a d).hall) (places_of (hall_of b) κ r a)

  abbrev n : ℕ
  n = (hall_of b).size

  few : is_stored b ≡ true → n ≤ max_recorders
  few s = (hall_of-valid b s).in_range.size.1

  entries-few : is_stored b ≡ true → (hall_of b).entries.count ≤ max_entries
  entries-few s = (hall_of-valid b s).in_range.entries.at_most

  submit-covered : covered submit
  unfolding places_of uses number_on perform
  submit-covered j none =
      let p = acts refl j in
      let k : ℕ = (hall_of b).entries.count in
      let x = new_entry r (payload_of a) in
      let j₀ : Judged b submit r a 0 =
      record { holds = j.holds; words = subst (λ (v : ℕ). input_refusal n submit r a v ≡ 0) (no-set n submit r a d j.words refl) j.words } in
      let room = submit-few b k refl r a none in
      in-turn j.holds (omega arith) (omega arith) (omega arith) (omega arith)
      ((entry-lawful n (omega (arith, few j.holds))).stored x (new-entry-ok n r a p.low p.high low)) (block-digits 1 (k + 1))
      ((submit-does b r a j₀ low none k refl _ _ refl refl).bytes ∙ performs b submit r a 0 none)

  label-covered : covered label
  unfolding places_of uses with_entry perform do_label
  label-covered j none =
      let p = acts refl j in
      let e : ℕ = nth (waiting (hall_of b).entries r) 1 0 in
      let can = can-label hl3 (hall_of b) r a (inl none) in
      let first = first-waiting (hall_of b).entries r e can.others can.first in
      let valid = next-valid j p low none in
      let x = labelled_as (entry_in b e) (recorder_in b r).current (recorder_in b r).next_seq in
      second-first j.holds (recorder-in j p low none) (omega (arith, first.low, first.high, entries-few j.holds)) (omega arith) (omega arith)
      (recorder-lawful.stored (labelled_cell (recorder_in b r) e) (labelled-ok b j.holds r e valid p.low p.high first.low first.high))
      ((entry-lawful n (omega (arith, few j.holds))).stored x (entry-fits b j.holds r e valid p.low p.high first.low first.high))
      (label-writes b j.holds r e valid p.low p.high first.low first.high)

  send_entry-covered : covered send_entry
  unfolding places_of uses perform do_send_entry gpsnd
  send_entry-covered j none =
      current-covered j (acts refl j) low none (send_entry-view (hall_of b) r a none) (send_entry-changed r (hall_of b)) refl

  send_summary-covered : covered send_summary
  unfolding places_of uses perform do_send_summary gpsnd
  send_summary-covered j none =
      current-covered j (acts refl j) low none (send_summary-view (hall_of b) r a none) (send_summary-changed r (hall_of b)) refl

  form-covered : covered form
  unfolding places_of uses number_on state_refusal perform
  form-covered j none =
      let k : ℕ = length (hall_of b).service.created in
      let o : ℕ = view_cells + k * view_size in
      let j₀ : Judged b form 0 a d =
      record { holds = j.holds; words = subst (λ (v : ℕ). input_refusal n form v a d ≡ 0) (no-recorder n form r a d j.words refl) j.words } in
      let room = form-few b a d j₀ none in
      let next : o + length (digits number_size a) ≡ view_sets + k * view_size = omega (arith, (block-digits number_size a).len) in
      in-turn j.holds (omega arith) (omega arith) (omega arith) (omega arith)
      (block-append (block-digits number_size a) (block-digits 1 d)) (block-digits 1 (k + 1))
      (ap (λ (z : List ℕ). sets z views_at (digits 1 (k + 1)))
      (sets-append b o (digits number_size a) (digits 1 d) ∙ ap (λ (i : ℕ). sets (sets b o (digits number_size a)) i (digits 1 d)) next)
      ∙ (form-done b a d j₀ none k _ _ _ refl refl refl refl).bytes
      ∙ performs b form 0 a d none)

  enter-covered : covered enter
  unfolding places_of uses perform do_enter newview endpoint_at
  enter-covered j none = recorder-covered j (acts refl j) low none a (enter-changed r a (hall_of b)) refl refl

  place-covered : covered place
  unfolding places_of uses state_refusal not_member is_member perform do_place vs_order recorder_at
  place-covered j none =
      let second = (link (not_formed (hall_of b) a) 33 _ none).1 in
      let member = not-false (has ((hall_of b).service.members a) r) (link (not_member (hall_of b) r a) 34 _ second).0 in
      queue-covered j (acts refl j) low none (member-placed b j.holds r a (index_of (hall_of b).service.created a) member refl)
      (order-changed r a (hall_of b)) refl

  receive-covered : covered receive
  unfolding places_of uses perform do_receive gprcv
  receive-covered j none =
      current-covered j (acts refl j) low none (receive-view (hall_of b) r a none) (receive-changed hl3 r (hall_of b)) refl

  notice-covered : covered notice
  unfolding places_of uses perform do_notice safe
  notice-covered j none =
      current-covered j (acts refl j) low none (notice-view (hall_of b) r a none) (notice-changed hl3 r (hall_of b)) refl

  confirm-covered : covered confirm
  unfolding places_of uses perform do_confirm endpoint_at
  confirm-covered j none = recorder-covered j (acts refl j) low none 0 (confirm-changed r 0 (hall_of b)) refl refl

  deliver-covered : covered deliver
  unfolding places_of uses perform do_deliver endpoint_at
  deliver-covered j none = recorder-covered j (acts refl j) low none 0 (deliver-changed r 0 (hall_of b)) refl refl

  pub kind-covered : (κ : Kind) → covered κ
  kind-covered submit = submit-covered
  kind-covered label = label-covered
  kind-covered send_entry = send_entry-covered
  kind-covered send_summary = send_summary-covered
  kind-covered form = form-covered
  kind-covered enter = enter-covered
  kind-covered place = place-covered
  kind-covered receive = receive-covered
  kind-covered notice = notice-covered
  kind-covered confirm = confirm-covered
  kind-covered deliver = deliver-covered
