-- The hall that bytes in range hold: recorders, endpoints and queues by their bytes. Assumes nothing.
use Prim.Native.Nat.{ℕ, ◌+◌, ◌-◌, ◌*◌, ◌≤◌, ◌<◌}
use native.Mathlib.Omega.{arith}
use mathlib.Core.Path.{◌≡◌, refl, sym, ap, subst, ◌∙◌}
use mathlib.Core.Bool.{Bool, true, false, ◌&&◌, and-eq-true_iff, false≢true}
use mathlib.Core.List.{List}
use lib.Dec.{eqb, ltb, leb}
use lib.ListN.{length, get_or, drop}
use borrow.Author.Tests.{ltb-true, ltb-false, eqb-true, eqb-false, leb-true}
use Rattle.base.proofs.Bools.{by_cases}
use Rattle.model.specs.Hall.{Summary, max_entries, max_sequence, max_buffer, max_order, max_pending, max_queue}
use Rattle.model.specs.Opening.{blank_summary}
use Rattle.codec.specs.Bytes.{part}
use Rattle.codec.specs.Number.{byte, mark}
use Rattle.codec.specs.Cells.{decode_all, cells}
use Rattle.codec.specs.Bounded.{bounded}
use Rattle.codec.specs.Slice.{Held}
use Rattle.codec.specs.Table.{flags}
use Rattle.codec.proofs.SliceLaws.{slice-value, slice-valid}
use Rattle.store.specs.Layout.{recorders_at, recorder_size, endpoint_size, queues_at, queue_size, number_size, list_size, summary_size, sent_size, endpoint_sent_at, endpoint_summary_at, messages_size, summary_order_at}
use Rattle.store.specs.Cells.{recorder_at, endpoint_at}
use Rattle.store.specs.CellForms.{view_number, summary_form, sent_form, recorder_form, message_form, endpoint_form, queued_form, queue_form}
use Rattle.store.specs.HallForm.{hall_fields}
use Rattle.store.proofs.CellFormsLaws.{recorder-lawful, endpoint-lawful, queue-lawful}
use Rattle.store.proofs.HallFormLaws.{hall_fields-lawful}
use Rattle.store.proofs.Pieces.{recorder-piece, endpoint-piece, queue-piece}
use Rattle.ranges.specs.CellParts.{recorder_rest}
use Rattle.ranges.proofs.Loops.{bounded-part, bounded-value}
use Rattle.ranges.proofs.CellPartsLaws.{recorder-part, endpoint-part, sent-over, sent-some, summary-part}
use Rattle.ranges.specs.TableParts.{view_at}
use Rattle.validity.specs.Marks.{endpoint_off, sent_at}
use Rattle.validity.specs.RawHall.{raw, size_at, view_count}
use Rattle.validity.proofs.Values.{endpoint-value, unsent-value, sent-value}
use Rattle.validity.proofs.RawHallLaws.{long, size_in, views-in, raw-size, view-formed, view-index}

-- of a conjunction that holds, each part does
both_left : {x : Bool} (s t : Bool) → x ≡ s && t → x ≡ true → s ≡ true
both_left s t e h = ((and-eq-true_iff s t).0 (sym e ∙ h)).0

both_right : {x : Bool} (s t : Bool) → x ≡ s && t → x ≡ true → t ≡ true
both_right s t e h = ((and-eq-true_iff s t).0 (sym e ∙ h)).1

module _ (b : List ℕ) (K : Held hall_fields b) where
  -- recorder r of N, at offset o
  module _ (r : ℕ) (l : 1 ≤ r) (u : r ≤ size_at b) where
    on : (1 ≤ r) × (r ≤ (raw b).size)
    on = (l, subst (λ (n : ℕ). r ≤ n) (sym (raw-size b K)) u)

    pub raw-recorder : recorder_form.decode (part (recorders_at + (r - 1) * recorder_size) recorder_size b) ≡ recorder_at (raw b).service.current (raw b).recorders r
    unfolding on
    raw-recorder = slice-value hall_fields-lawful recorder-lawful b K on (recorder-piece r).view

    valid-recorder : recorder_form.valid (part (recorders_at + (r - 1) * recorder_size) recorder_size b) ≡ true
    unfolding on
    valid-recorder = slice-valid hall_fields-lawful recorder-lawful b K on (recorder-piece r).view

    -- its lists are valid
    pub recorder-lists : ((bounded (byte 1 max_entries) max_buffer).valid (part (recorders_at + (r - 1) * recorder_size + number_size + 1 + 1) (list_size max_buffer) b) ≡ true)
        × ((bounded (byte 1 max_entries) max_order).valid (part (recorders_at + (r - 1) * recorder_size + number_size + 1 + 1 + list_size max_buffer) (list_size max_order) b) ≡ true)
    recorder-lists =
        let o : ℕ = recorders_at + (r - 1) * recorder_size in
        let c5 : Bool = recorder_rest (o + number_size + 1 + 1 + list_size max_buffer + list_size max_order) b in
        let v4 : Bool = (bounded (byte 1 max_entries) max_order).valid (part (o + number_size + 1 + 1 + list_size max_buffer) (list_size max_order) b) in
        let v3 : Bool = (bounded (byte 1 max_entries) max_buffer).valid (part (o + number_size + 1 + 1) (list_size max_buffer) b) in
        let v2 : Bool = (mark (max_sequence + 1)).valid (part (o + number_size + 1) 1 b) in
        let v1 : Bool = (byte 0 2).valid (part (o + number_size) 1 b) in
        let v0 : Bool = view_number.valid (part o number_size b) in
        let t0 = both_right v0 (v1 && (v2 && (v3 && (v4 && c5)))) (recorder-part o b) valid-recorder in
        let t1 = both_right v1 (v2 && (v3 && (v4 && c5))) refl t0 in
        let t2 = both_right v2 (v3 && (v4 && c5)) refl t1 in
        (both_left v3 (v4 && c5) refl t2, both_left v4 c5 refl (both_right v3 (v4 && c5) refl t2))

  -- the view at index i, and recorder p's endpoint in it
  module _ (i : ℕ) (k : i < view_count b) where
    pub raw-queue : queue_form.decode (part (queues_at + i * queue_size) queue_size b) ≡ (raw b).service.queue (view_at b i)
    raw-queue = slice-value hall_fields-lawful queue-lawful b K (view-formed b K i k, view-index b K i k) (queue-piece (view_at b i) i).view

    valid-queue : queue_form.valid (part (queues_at + i * queue_size) queue_size b) ≡ true
    valid-queue = slice-valid hall_fields-lawful queue-lawful b K (view-formed b K i k, view-index b K i k) (queue-piece (view_at b i) i).view

    -- the queue has at most 72 messages, two bytes each
    pub queue-count : get_or b (queues_at + i * queue_size) 0 ≤ max_queue
    unfolding queue_form
    queue-count =
        let m = views-in b K in
        let room : queues_at + i * queue_size + queue_size ≤ length b = omega (arith, long b K) in
        leb-true _ max_queue (both_left (leb (get_or b (queues_at + i * queue_size) 0) max_queue) ((cells queued_form (get_or b (queues_at + i * queue_size) 0) max_queue).valid (part (queues_at + i * queue_size + 1) messages_size b))
        (bounded-part queued_form max_queue (queues_at + i * queue_size) b room) valid-queue)

    pub queue-list : (raw b).service.queue (view_at b i) ≡ decode_all queued_form (get_or b (queues_at + i * queue_size) 0) (drop (queues_at + i * queue_size + 1) b)
    unfolding queue_form
    queue-list =
        let m = views-in b K in
        let room : queues_at + i * queue_size + queue_size ≤ length b = omega (arith, long b K) in
        sym raw-queue ∙ bounded-value queued_form max_queue (queues_at + i * queue_size) b room queue-count

    module _ (p : ℕ) (l : 1 ≤ p) (u : p ≤ size_at b) where
      pub endpoint-room : endpoint_off p i + endpoint_size ≤ length b
      endpoint-room =
          let n = (size_in b K).1 in
          let m = views-in b K in
          omega (arith, long b K)

      raw-endpoint : endpoint_form.decode (part (endpoint_off p i) endpoint_size b) ≡ endpoint_at (raw b).service (raw b).summaries p (view_at b i)
      raw-endpoint =
          slice-value hall_fields-lawful endpoint-lawful b K
          (l, subst (λ (n : ℕ). p ≤ n) (sym (raw-size b K)) u, view-formed b K i k, view-index b K i k) (endpoint-piece p (view_at b i) i).view

      valid-endpoint : endpoint_form.valid (part (endpoint_off p i) endpoint_size b) ≡ true
      valid-endpoint =
          slice-valid hall_fields-lawful endpoint-lawful b K
          (l, subst (λ (n : ℕ). p ≤ n) (sym (raw-size b K)) u, view-formed b K i k, view-index b K i k) (endpoint-piece p (view_at b i) i).view

      -- its parts are valid
      endpoint-valids : ((bounded (byte 0 max_entries) max_pending).valid (part (endpoint_off p i) (list_size max_pending) b) ≡ true) × (sent_form.valid (part (endpoint_off p i + list_size max_pending + 1 + 1) sent_size b) ≡ true)
      endpoint-valids =
          let o : ℕ = endpoint_off p i in
          let v0 : Bool = (bounded (byte 0 max_entries) max_pending).valid (part o (list_size max_pending) b) in
          let v1 : Bool = (mark (max_queue + 1)).valid (part (o + list_size max_pending) 1 b) in
          let v2 : Bool = (mark (max_queue + 1)).valid (part (o + list_size max_pending + 1) 1 b) in
          let v3 : Bool = sent_form.valid (part (o + list_size max_pending + 1 + 1) sent_size b) in
          let e = endpoint-part o b endpoint-room in
          let t0 = both_right v0 (v1 && (v2 && v3)) e valid-endpoint in
          (both_left v0 (v1 && (v2 && v3)) e valid-endpoint, both_right v2 v3 refl (both_right v1 (v2 && v3) refl t0))

      pub pending-count : get_or b (endpoint_off p i) 0 ≤ max_pending
      pending-count =
          let room = endpoint-room in
          leb-true _ max_pending (both_left (leb (get_or b (endpoint_off p i) 0) max_pending) ((cells (byte 0 max_entries) (get_or b (endpoint_off p i) 0) max_pending).valid (part (endpoint_off p i + 1) max_pending b))
          (bounded-part (byte 0 max_entries) max_pending (endpoint_off p i) b (omega arith)) endpoint-valids.0)

      pub pending-list : (raw b).service.pending p (view_at b i) ≡ decode_all message_form (get_or b (endpoint_off p i) 0) (drop (endpoint_off p i + 1) b)
      unfolding endpoint_at
      pending-list =
          let room = endpoint-room in
          ap (λ y. y.pending) (sym raw-endpoint ∙ endpoint-value (endpoint_off p i) b)
          ∙ bounded-value message_form max_pending (endpoint_off p i) b (omega arith) pending-count

      -- the count of sent summaries, 0 or 1
      sum : endpoint_off p i + list_size max_pending + 1 + 1 ≡ endpoint_off p i + endpoint_sent_at
      sum = omega arith

      sent-count : get_or b (endpoint_off p i + endpoint_sent_at) 0 ≤ 1
      sent-count =
          let room = endpoint-room in
          let s : ℕ = get_or b (endpoint_off p i + list_size max_pending + 1 + 1) 0 in
          let ge : ltb 1 s ≡ false = by_cases (ltb 1 s)
          (λ t. absurd (false≢true (sym (sent-over (endpoint_off p i + list_size max_pending + 1 + 1) b (omega arith) (ltb-true 1 s t)) ∙ endpoint-valids.1))) (λ t. t) in
          subst (λ (j : ℕ). get_or b j 0 ≤ 1) sum (ltb-false 1 s ge)

      none-sent : get_or b (endpoint_off p i + endpoint_sent_at) 0 ≡ 0 → sent_form.decode (part (endpoint_off p i + list_size max_pending + 1 + 1) sent_size b) ≡ (false, blank_summary)
      none-sent e =
          let room = endpoint-room in
          unsent-value (endpoint_off p i + list_size max_pending + 1 + 1) b (omega arith) (ap (λ (j : ℕ). get_or b j 0) sum ∙ e)

      one-sent : get_or b (endpoint_off p i + endpoint_sent_at) 0 ≡ 1 → sent_form.decode (part (endpoint_off p i + list_size max_pending + 1 + 1) sent_size b) ≡ (true, summary_form.decode (part (endpoint_off p i + endpoint_summary_at) summary_size b))
      one-sent e =
          let room = endpoint-room in
          let next : endpoint_off p i + list_size max_pending + 1 + 1 + 1 ≡ endpoint_off p i + endpoint_summary_at = omega arith in
          sent-value (endpoint_off p i + list_size max_pending + 1 + 1) b (omega arith) (ap (λ (j : ℕ). get_or b j 0) sum ∙ e)
          ∙ ap (λ (j : ℕ). let x : Bool × Summary = (true, summary_form.decode (part j summary_size b)) in x) next

      cell-sent : (raw b).summaries.sent p (view_at b i) ≡ (sent_form.decode (part (endpoint_off p i + list_size max_pending + 1 + 1) sent_size b)).0
      unfolding endpoint_at
      cell-sent = ap (λ y. y.sent) (sym raw-endpoint ∙ endpoint-value (endpoint_off p i) b)

      cell-summary : (raw b).summaries.summary p (view_at b i) ≡ (sent_form.decode (part (endpoint_off p i + list_size max_pending + 1 + 1) sent_size b)).1
      unfolding endpoint_at
      cell-summary = ap (λ y. y.summary) (sym raw-endpoint ∙ endpoint-value (endpoint_off p i) b)

      pub raw-sent : (raw b).summaries.sent p (view_at b i) ≡ sent_at b p i
      raw-sent = cell-sent ∙ by_cases (eqb 1 s) some nothing
        where
          s : ℕ
          s = get_or b (endpoint_off p i + endpoint_sent_at) 0

          some : eqb 1 s ≡ true → (sent_form.decode (part (endpoint_off p i + list_size max_pending + 1 + 1) sent_size b)).0 ≡ sent_at b p i
          some t = ap (λ (x : Bool × Summary). x.0) (one-sent (sym (eqb-true 1 s t))) ∙ sym t

          nothing : eqb 1 s ≡ false → (sent_form.decode (part (endpoint_off p i + list_size max_pending + 1 + 1) sent_size b)).0 ≡ sent_at b p i
          nothing t =
              let z : s ≡ 0 = omega (arith, sent-count, eqb-false 1 s t) in
              ap (λ (x : Bool × Summary). x.0) (none-sent z) ∙ sym t

      pub summary-none : sent_at b p i ≡ false → (raw b).summaries.summary p (view_at b i) ≡ blank_summary
      summary-none t =
          let z : get_or b (endpoint_off p i + endpoint_sent_at) 0 ≡ 0 = omega (arith, sent-count, eqb-false 1 (get_or b (endpoint_off p i + endpoint_sent_at) 0) t) in
          cell-summary ∙ ap (λ (x : Bool × Summary). x.1) (none-sent z)

      pub summary-some : sent_at b p i ≡ true → (raw b).summaries.summary p (view_at b i) ≡ summary_form.decode (part (endpoint_off p i + endpoint_summary_at) summary_size b)
      summary-some t = cell-summary ∙ ap (λ (x : Bool × Summary). x.1) (one-sent (sym (eqb-true 1 (get_or b (endpoint_off p i + endpoint_sent_at) 0) t)))

      -- and its order is valid
      pub summary-list : sent_at b p i ≡ true → (bounded (byte 1 max_entries) max_order).valid (part (endpoint_off p i + endpoint_summary_at + summary_order_at) (list_size max_order) b) ≡ true
      summary-list t =
          let room = endpoint-room in
          let o : ℕ = endpoint_off p i + list_size max_pending + 1 + 1 in
          let next : o + 1 ≡ endpoint_off p i + endpoint_summary_at = omega arith in
          let s : get_or b o 0 ≡ 1 = ap (λ (j : ℕ). get_or b j 0) sum ∙ sym (eqb-true 1 (get_or b (endpoint_off p i + endpoint_sent_at) 0) t) in
          let v : summary_form.valid (part (endpoint_off p i + endpoint_summary_at) summary_size b) ≡ true =
          subst (λ (j : ℕ). summary_form.valid (part j summary_size b) ≡ true) next (sym (sent-some o b (omega arith) s) ∙ endpoint-valids.1) in
          let v0 : Bool = (flags max_entries).valid (part (endpoint_off p i + endpoint_summary_at) max_entries b) in
          let v1 : Bool = (bounded (byte 1 max_entries) max_order).valid (part (endpoint_off p i + endpoint_summary_at + summary_order_at) (list_size max_order) b) in
          let v2 : Bool = (mark (max_order + 1)).valid (part (endpoint_off p i + endpoint_summary_at + summary_order_at + list_size max_order) 1 b) && view_number.valid (part (endpoint_off p i + endpoint_summary_at + summary_order_at + list_size max_order + 1) number_size b) in
          both_left v1 v2 refl (both_right v0 (v1 && v2) (summary-part (endpoint_off p i + endpoint_summary_at) b) v)
