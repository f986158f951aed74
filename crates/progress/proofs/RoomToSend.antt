-- Room to label and to send: kinds 2, 3 and 4 never meet 40 in a reached hall. What a recorder has labelled in its current
-- view is named once each, so it has at most 64 places among queue, pending list and buffer.
-- Assumes nothing.
use Prim.Native.Nat.{ℕ, ◌+◌, ◌≤◌}
use native.Mathlib.Omega.{arith}
use mathlib.Core.Path.{◌≡◌, refl, sym, ap, ap₂, ◌∙◌}
use mathlib.Core.Logic.{⊎_elim}
use mathlib.Core.Bool.{Bool, true, false, ◌||◌, false≢true}
use mathlib.Core.List.{List, [], ◌∷◌, ◌++◌}
use lib.Dec.{eqb}
use lib.ListN.{length, length-append}
use borrow.Author.Tests.{eqb-true, lt-leb, le-ltb}
use Rattle.base.specs.Lists.{has, any}
use Rattle.base.proofs.Bools.{true-or-false, and_both, not-both}
use Rattle.base.proofs.ListsLaws.{has-head, has-cons, bit-small}
use Rattle.model.specs.Hall.{max_sequence, max_buffer, max_pending, Message, send, Hall}
use Rattle.model.specs.Ordering.{numbers, label_exists}
use Rattle.model.specs.Refusals.{Rules, is_normal, buffer_full, pending_full, sequence_full, summary_place_full, new_label_exists}
use Rattle.model.proofs.Accepting.Moves.{current, CanLabel}
use Rattle.model.proofs.Agreement.State.{entry_of, is_summary, entries_from, entries_of, has_summary}
use Rattle.model.proofs.Agreement.Arrival.{row_in}
use Rattle.model.proofs.Ordering.Labels.{InRow}
use Rattle.model.proofs.Ordering.Waiting.{FirstWaiting, first-waiting}
use Rattle.progress.proofs.Distinct.{distinct-length, row-distinct}
use Rattle.progress.proofs.Once.{pending_count}
use Rattle.progress.proofs.Reached.{Reached}

any_none : (f : ℕ → Bool) (xs : List ℕ) → ((x : ℕ) → f x ≡ true → ⊥) → any f xs ≡ false
unfolding any
any_none f [] none = refl
any_none f (x ∷ xs) none =
    ⊎_elim (λ t. absurd (none x t)) (λ e. ap₂ (λ s t. s || t) e (any_none f xs none)) (true-or-false (f x))

-- a pending list is its entries and its summaries
pending-length : (ms : List Message) → length ms ≡ length (entries_of ms) + pending_count ms
unfolding entries_of entry_of pending_count is_summary
pending-length [] = omega arith
pending-length (Message.entry e ∷ ms) = omega (arith, pending-length ms)
pending-length (Message.summary ∷ ms) = omega (arith, pending-length ms)

-- a pending list with neither is empty
nothing-pending : (ms : List Message) → ((e : ℕ) → has (entries_of ms) e ≡ true → ⊥) → (has_summary ms ≡ true → ⊥) → length ms ≡ 0
unfolding entries_of entry_of has_summary is_summary
nothing-pending [] no-entry no-summary = refl
nothing-pending (Message.entry e ∷ ms) no-entry no-summary = absurd (no-entry e (has-head e (entries_of ms)))
nothing-pending (Message.summary ∷ ms) no-entry no-summary = absurd (no-summary refl)

module _ (rules : Rules) (h : Hall) (x : Reached rules h) (r : ℕ) (in_view : 1 ≤ current h r) where
  -- r's entries labelled in its current view: queued, pending, in the buffer
  abbrev row : List ℕ
  row = entries_from r (h.service.queue (current h r)) ++ (entries_of (h.service.pending r (current h r)) ++ h.recorders.buffer r)

  row_is : InRow h.entries r (current h r) 1 row
  row_is = x.inv.labels.current_row r in_view

  row_inside : (e : ℕ) → has row e ≡ true → (1 ≤ e) × (e ≤ h.entries.count)
  row_inside e m = x.inv.labels.numbered e (row_in h.entries r (current h r) 1 row e row_is m).2

  row-parts : length row
      ≡ length (entries_from r (h.service.queue (current h r)))
      + (length (entries_of (h.service.pending r (current h r))) + length (h.recorders.buffer r))
  row-parts =
      let pending = entries_of (h.service.pending r (current h r)) in
      let buffer = h.recorders.buffer r in
      omega (arith, length-append (entries_from r (h.service.queue (current h r))) (pending ++ buffer), length-append pending buffer)

  row-short : length row ≤ h.entries.count
  row-short = distinct-length h.entries.count row (row-distinct h.entries r (current h r) 1 row row_is) row_inside

  -- an entry that waits is not among them
  waiting-more : (e : ℕ) → FirstWaiting h.entries r e → length (e ∷ row) ≤ h.entries.count
  waiting-more e w =
      let new : has row e ≡ false =
      ⊎_elim (λ m. absurd (omega (arith, w.bare, (row_in h.entries r (current h r) 1 row e row_is m).2))) (λ f. f) (true-or-false (has row e)) in
      distinct-length h.entries.count (e ∷ row) (new, row-distinct h.entries r (current h r) 1 row row_is)
      (λ d m. ⊎_elim (λ s. rw s (w.low, w.high)) (row_inside d) (has-cons e row d m))

  -- 2
  pub room-to-label : (e : ℕ) → CanLabel h r e → (sequence_full h r || (buffer_full h r || new_label_exists h r)) ≡ false
  unfolding sequence_full buffer_full new_label_exists label_exists
  room-to-label e c =
      let es = h.entries in
      let more = waiting-more e (first-waiting es r e c.others c.first) in
      let few = x.sizes.entries in
      let next = x.inv.labels.next_is r in_view in
      ap₂ (λ s t. s || t) (le-ltb max_sequence (h.recorders.next_seq r) (omega arith))
      (ap₂ (λ s t. s || t) (lt-leb max_buffer (length (h.recorders.buffer r)) (omega (arith, row-parts)))
      (any_none _ (numbers es)
      (λ d t.
      let both = and_both (eqb (es.label_view d) (current h r)) _ t in
      let both2 = and_both (eqb (es.label_seq d) (h.recorders.next_seq r)) _ both.1 in
      let view : es.label_view d ≡ current h r = eqb-true _ _ both.0 in
      let seq : es.label_seq d ≡ h.recorders.next_seq r = eqb-true _ _ both2.0 in
      let who : es.sender d ≡ r = eqb-true _ _ both2.1 in
      let less = x.inv.labels.below d (omega arith) (view ∙ ap (current h) (sym who)) in
      omega (arith, ap h.recorders.next_seq who))))

  -- 3: the head of the buffer is not pending yet
  pub room-to-send : 1 ≤ length (h.recorders.buffer r) → pending_full h r ≡ false
  unfolding pending_full
  room-to-send some =
      let pending = h.service.pending r (current h r) in
      lt-leb max_pending (length pending)
      (omega (
        arith,
        row-parts,
        row-short,
        x.sizes.entries,
        pending-length pending,
        x.once r (current h r),
        bit-small (h.summaries.sent r (current h r)),
      ))

  -- 4: nothing is pending of a recorder that has not sent its summary
  pub room-to-tell : h.recorders.phase r ≡ send → (summary_place_full h r || pending_full h r) ≡ false
  unfolding summary_place_full pending_full is_normal
  room-to-tell s =
      let pending = h.service.pending r (current h r) in
      let unsent = x.inv.exchange.send_unsent r s in
      let none = nothing-pending pending
      (λ e m.
      let est = x.inv.exchange.pending_est r (current h r) e m in
      false≢true (ap is_normal (sym s ∙ x.inv.exchange.est_normal r est)))
      (λ m. not-both (x.inv.exchange.pending_sent r (current h r) m) unsent) in
      ap₂ (λ s t. s || t) unsent (lt-leb max_pending (length pending) (omega arith))
