-- Laws of specs/CrossParts. Assumes nothing.
use Prim.Native.Nat.{ℕ, zero, suc, ◌+◌, ◌-◌, ◌*◌, ◌≤◌, ◌<◌}
use native.Mathlib.Omega.{arith}
use native.Mathlib.Nat.{not-suc-le-zero}
use mathlib.Core.Path.{◌≡◌, refl, sym, ap, ap₂, ◌∙◌}
use mathlib.Core.Bool.{Bool, true, false, not, ◌&&◌, ◌||◌, false≢true}
use mathlib.Core.List.{List}
use lib.Dec.{eqb, ltb}
use lib.ListN.{length, get_or, drop}
use lib.Seq.{drop-drop}
use borrow.Author.Tests.{eq-eqb, ne_eqb, ltb-true, ltb-false}
use Rattle.base.specs.Lists.{has, all}
use Rattle.base.specs.Numbers.{up_to}
use Rattle.base.proofs.Bools.{by_cases}
use Rattle.base.proofs.NumbersLaws.{up_to-range, has-up_to}
use Rattle.base.proofs.ListsLaws.{has_all}
use Rattle.quorum.specs.Sets.{members}
use Rattle.quorum.proofs.SetLaws.{members-range}
use Rattle.model.specs.Hall.{Entries, max_entries, Queued, max_buffer, max_order, max_recorders}
use Rattle.model.specs.Opening.{blank_summary}
use Rattle.model.specs.Ordering.{is_labelled, numbers}
use Rattle.codec.specs.Bytes.{part}
use Rattle.codec.specs.Number.{value, byte}
use Rattle.codec.specs.Cells.{decode_all}
use Rattle.codec.specs.Bounded.{bounded}
use Rattle.codec.specs.ByteList.{list_at}
use Rattle.codec.specs.Slice.{Held}
use Rattle.codec.specs.Table.{flags}
use Rattle.codec.proofs.BytesLaws.{part-cons}
use Rattle.codec.proofs.CellsLaws.{length-decode_all}
use Rattle.codec.proofs.ByteListLaws.{decode-list, valid-list-count}
use Rattle.store.specs.Layout.{entry_cells, entry_size, recorders_at, recorder_size, queues_at, queue_size, number_size, payload_size, entry_payload_at, entry_label_at, entry_sequence_at, list_size, recorder_buffer_at, recorder_order_at, recorder_known_at, recorder_safe_at, recorder_heard_at, recorder_safe_sources_at, summary_order_at, endpoint_summary_at}
use Rattle.store.specs.Valid.{some_votes, labels_apart, labelled_entry, list_names, set_names, message_names, messages_name, queue_names, summary_names, recorder_cross, endpoint_cross, cross_rules}
use Rattle.store.specs.Cells.{EntryCell, RecorderCell, entry_at, recorder_at}
use Rattle.store.specs.CellForms.{message_form, queued_form, recorder_form}
use Rattle.store.specs.HallForm.{hall_fields}
use Rattle.store.proofs.CellFormsLaws.{message-lawful}
use Rattle.ranges.specs.TableParts.{view_numbers, view_at, Found}
use Rattle.validity.specs.Marks.{message_marked, flag_at, endpoint_off, sent_at, set_ok, source_ok, heard_ok}
use Rattle.validity.specs.RawHall.{raw, size_at, view_count, entry_count, set_at}
use Rattle.validity.specs.CrossParts.{named, Labels, queued_ok, summary_ok, apart, view_cross}
use Rattle.validity.proofs.AllsLaws.{all_same}
use Rattle.validity.proofs.MarksLaws.{flags-at}
use Rattle.validity.proofs.Values.{view_number-value, summary-value, recorder-value, message_of, message-value, queued-value}
use Rattle.validity.proofs.RawHallLaws.{set-in, set_out, no-members, long, size_in, raw-size, raw-created, raw-count, raw-entry, view-members, found-members}
use Rattle.validity.proofs.RawCells.{raw-recorder, recorder-lists, queue-list, endpoint-room, pending-count, pending-list, raw-sent, summary-none, summary-some, summary-list}

-- ## Entries

module _ (b : List ℕ) (K : Held hall_fields b) where
  pub labels_apart_lem : labels_apart (raw b).entries ≡ all (λ d. all (apart (raw b).entries d) (up_to (entry_count b))) (up_to (entry_count b))
  unfolding labels_apart apart numbers
  labels_apart_lem = ap (λ (c : ℕ). all (λ d. all (apart (raw b).entries d) (up_to c)) (up_to c)) (raw-count b K)

  module _ (e : ℕ) (l : 1 ≤ e) (u : e ≤ entry_count b) where
    pub sender-at : (raw b).entries.sender e ≡ get_or b (entry_cells + (e - 1) * entry_size) 0
    unfolding entry_at
    sender-at = ap (λ (x : EntryCell). x.sender) (raw-entry b K e l u)

    pub view-at : (raw b).entries.label_view e ≡ value (part (entry_cells + (e - 1) * entry_size + entry_label_at) number_size b)
    unfolding entry_at
    view-at =
        let s : entry_cells + (e - 1) * entry_size + entry_payload_at + payload_size ≡ entry_cells + (e - 1) * entry_size + entry_label_at = omega arith in
        ap (λ (x : EntryCell). x.label_view) (raw-entry b K e l u) ∙ ap (λ (j : ℕ). value (part j number_size b)) s

    pub seq-at : (raw b).entries.label_seq e ≡ get_or b (entry_cells + (e - 1) * entry_size + entry_sequence_at) 0
    unfolding entry_at
    seq-at =
        let s : entry_cells + (e - 1) * entry_size + entry_payload_at + payload_size + number_size ≡ entry_cells + (e - 1) * entry_size + entry_sequence_at = omega arith in
        ap (λ (x : EntryCell). x.label_seq) (raw-entry b K e l u) ∙ ap (λ (j : ℕ). get_or b j 0) s

    pub labelled-at : labelled_entry (raw b).entries e ≡ not (eqb (get_or b (entry_cells + (e - 1) * entry_size + entry_sequence_at) 0) 0)
    unfolding labelled_entry is_labelled numbers
    labelled-at =
        ap₂ (λ (c k : ℕ). has (up_to c) e && not (eqb k 0)) (raw-count b K) seq-at
        ∙ ap (λ (t : Bool). t && not (eqb (get_or b (entry_cells + (e - 1) * entry_size + entry_sequence_at) 0) 0)) (has-up_to (entry_count b) e l u)

  -- an entry number that is not used has no label
  pub unlabelled : (e : ℕ) → (1 ≤ e → entry_count b < e) → labelled_entry (raw b).entries e ≡ false
  unfolding labelled_entry numbers
  unlabelled e h =
      ap (λ (c : ℕ). has (up_to c) e && is_labelled (raw b).entries e) (raw-count b K)
      ∙ by_cases (has (up_to (entry_count b)) e)
      (λ t. absurd (outside (up_to-range (entry_count b) e t)))
      (λ t. ap (λ (s : Bool). s && is_labelled (raw b).entries e) t)
    where
      outside : (1 ≤ e) × (e ≤ entry_count b) → ⊥
      outside r = omega (arith, h r.0)

-- ## Lists, sets and messages

module _ (es : Entries) (sent : Bool) (x : ℕ) where
  pub named-summary : x ≡ 0 → named es sent x ≡ sent
  unfolding named
  named-summary e = rw (eq-eqb x 0 e, named)

  pub named-entry : 1 ≤ x → named es sent x ≡ labelled_entry es x
  unfolding named
  named-entry h = rw (ne_eqb x 0 (λ e. omega arith), named)

module _ (b : List ℕ) (K : Held hall_fields b) (l : List ℕ) (M : Labels (raw b).entries l) where
  names-entry : (x : ℕ) → message_marked l false x ≡ labelled_entry (raw b).entries x
  names-entry zero = M false zero ∙ named-summary (raw b).entries false zero refl ∙ sym (unlabelled b K zero (λ h. absurd (not-suc-le-zero h)))
  names-entry (suc e) = M false (suc e) ∙ named-entry (raw b).entries false (suc e) (omega arith)

  list-names : (o : ℕ) → o + list_size max_order ≤ length b → (bounded (byte 1 max_entries) max_order).valid (part o (list_size max_order) b) ≡ true
      → list_names (raw b).entries ((bounded (byte 1 max_entries) max_order).decode (part o (list_size max_order) b)) ≡ all (message_marked l false) (list_at b o)
  unfolding list_names
  list-names o h v =
      ap (all (labelled_entry (raw b).entries)) (decode-list 1 max_entries max_order o b h (valid-list-count 1 max_entries max_order o b h v))
      ∙ all_same _ _ (list_at b o) (λ x k. sym (names-entry x))

  set-names : (o : ℕ) → o + max_entries ≤ length b → set_names (raw b).entries ((flags max_entries).decode (part o max_entries b)) ≡ all (set_ok l b o) (up_to max_entries)
  unfolding set_names set_ok
  set-names o h =
      all_same _ _ (up_to max_entries)
      (λ e k. let r = up_to-range max_entries e k in ap₂ (λ (s t : Bool). not s || t) (flags-at max_entries o b h e r.0 r.1) (sym (names-entry e)))

  message-names : (q g x : ℕ) → message_names (raw b) q g (message_of x) ≡ message_marked l ((raw b).summaries.sent q g) x
  unfolding message_names message_of
  message-names q g zero = sym (M ((raw b).summaries.sent q g) zero ∙ named-summary (raw b).entries ((raw b).summaries.sent q g) zero refl)
  message-names q g (suc e) = sym (M ((raw b).summaries.sent q g) (suc e) ∙ named-entry (raw b).entries ((raw b).summaries.sent q g) (suc e) (omega arith))

  messages-names : (q g c o : ℕ) → o + c ≤ length b
      → messages_name (raw b) q g (decode_all message_form c (drop o b)) ≡ all (message_marked l ((raw b).summaries.sent q g)) (part o c b)
  unfolding messages_name decode_all all
  messages-names q g zero o h = refl
  messages-names q g (suc c) o h =
      ap₂ ◌&&◌ (ap (message_names (raw b) q g) (message-value o b (omega arith)) ∙ message-names q g (get_or b o 0))
      (ap (λ (x : List ℕ). messages_name (raw b) q g (decode_all message_form c x)) (drop-drop 1 o b) ∙ messages-names q g c (o + 1) (omega arith))
      ∙ sym (ap (all (message_marked l ((raw b).summaries.sent q g))) (part-cons o c b (omega arith)))

  -- ## The view at index i

  module _ (i : ℕ) (k : i < view_count b) where
    set-members : (q : ℕ) → has ((raw b).service.members (view_at b i)) q ≡ has (members (size_at b) (set_at b i)) q
    set-members q =
        ap (λ (xs : List ℕ). has xs q) (view-members b K i k)
        ∙ ap (λ (z : ℕ). has (members (size_at b) z) q) (sym (set-in b i k))

    queued-names : (o : ℕ) → o + 2 ≤ length b
        → (has ((raw b).service.members (view_at b i)) (queued_form.decode (part o 2 b)).source
        && message_names (raw b) (queued_form.decode (part o 2 b)).source (view_at b i) (queued_form.decode (part o 2 b)).message)
        ≡ queued_ok l b i o
    unfolding queued_ok
    queued-names o h =
        ap (λ (m : Queued). has ((raw b).service.members (view_at b i)) m.source && message_names (raw b) m.source (view_at b i) m.message) (queued-value o b h)
        ∙ ap₂ ◌&&◌ (set-members s) (message-names s (view_at b i) x)
        ∙ by_cases (has (members (size_at b) (set_at b i)) s) member other
      where
        s : ℕ
        s = get_or b o 0

        x : ℕ
        x = get_or b (o + 1) 0

        member : has (members (size_at b) (set_at b i)) s ≡ true
            → (has (members (size_at b) (set_at b i)) s && message_marked l ((raw b).summaries.sent s (view_at b i)) x)
            ≡ (has (members (size_at b) (set_at b i)) s && message_marked l (sent_at b s i) x)
        member t =
            let r = members-range (size_at b) (set_at b i) s t in
            ap (λ (u : Bool). has (members (size_at b) (set_at b i)) s && message_marked l u x) (raw-sent b K i k s r.0 r.1)

        other : has (members (size_at b) (set_at b i)) s ≡ false
            → (has (members (size_at b) (set_at b i)) s && message_marked l ((raw b).summaries.sent s (view_at b i)) x)
            ≡ (has (members (size_at b) (set_at b i)) s && message_marked l (sent_at b s i) x)
        other t = ap (λ (u : Bool). u && message_marked l ((raw b).summaries.sent s (view_at b i)) x) t ∙ sym (ap (λ (u : Bool). u && message_marked l (sent_at b s i) x) t)

    -- the c messages from offset o: those from j on
    module _ (o c : ℕ) where
      abbrev pub queue_from : ℕ → Bool
      queue_from j = queue_names (raw b) (view_at b i) (decode_all queued_form (c - j) (drop (o + j * 2) b))

      queue-more : (j : ℕ) → j < c → o + c * 2 ≤ length b → queue_from j ≡ queued_ok l b i (o + j * 2) && queue_from (j + 1)
      unfolding queue_names decode_all
      queue-more j h r =
          let n : c - j ≡ suc (c - (j + 1)) = omega arith in
          let e : o + j * 2 + 2 ≡ o + (j + 1) * 2 = omega arith in
          ap (λ (z : ℕ). queue_names (raw b) (view_at b i) (decode_all queued_form z (drop (o + j * 2) b))) n
          ∙ ap₂ ◌&&◌ (queued-names (o + j * 2) (omega arith))
          (ap (λ (z : List ℕ). queue_names (raw b) (view_at b i) (decode_all queued_form (c - (j + 1)) z)) (drop-drop 2 (o + j * 2) b ∙ ap (λ (z : ℕ). drop z b) e))

      pub queue-fail : (j : ℕ) → j < c → o + c * 2 ≤ length b → queued_ok l b i (o + j * 2) ≡ false → queue_from j ≡ false
      queue-fail j h r t = queue-more j h r ∙ ap (λ (u : Bool). u && queue_from (j + 1)) t

      pub queue-next : (j : ℕ) → j < c → o + c * 2 ≤ length b → queued_ok l b i (o + j * 2) ≡ true → queue_from j ≡ queue_from (j + 1)
      queue-next j h r t = queue-more j h r ∙ ap (λ (u : Bool). u && queue_from (j + 1)) t

      pub queue-done : (j : ℕ) → c ≤ j → queue_from j ≡ true
      unfolding queue_names decode_all
      queue-done j h =
          let z : c - j ≡ 0 = omega arith in
          ap (λ (n : ℕ). queue_names (raw b) (view_at b i) (decode_all queued_form n (drop (o + j * 2) b))) z

    pub queue-all : queue_names (raw b) (view_at b i) ((raw b).service.queue (view_at b i)) ≡ queue_from (queues_at + i * queue_size + 1) (get_or b (queues_at + i * queue_size) 0) 0
    queue-all =
        let c : ℕ = get_or b (queues_at + i * queue_size) 0 in
        let n : c ≡ c - 0 = omega arith in
        let e : queues_at + i * queue_size + 1 ≡ queues_at + i * queue_size + 1 + 0 * 2 = omega arith in
        ap (queue_names (raw b) (view_at b i)) (queue-list b K i k)
        ∙ ap₂ (λ (m o : ℕ). queue_names (raw b) (view_at b i) (decode_all queued_form m (drop o b))) n e

    -- recorder p's endpoint
    module _ (p : ℕ) (lo : 1 ≤ p) (hi : p ≤ size_at b) where
      pending-names : messages_name (raw b) p (view_at b i) ((raw b).service.pending p (view_at b i)) ≡ all (message_marked l (sent_at b p i)) (list_at b (endpoint_off p i))
      pending-names =
          let c = pending-count b K i k p lo hi in
          let r = endpoint-room b K i k p lo hi in
          ap (messages_name (raw b) p (view_at b i)) (pending-list b K i k p lo hi)
          ∙ messages-names p (view_at b i) (get_or b (endpoint_off p i) 0) (endpoint_off p i + 1) (omega arith)
          ∙ ap (λ (t : Bool). all (message_marked l t) (list_at b (endpoint_off p i))) (raw-sent b K i k p lo hi)

      none-names : summary_names (raw b).entries blank_summary ≡ true
      unfolding summary_names set_names list_names blank_summary all
      none-names = ap (λ (t : Bool). t && true) (has_all _ (up_to max_entries) (λ e h. refl))

      summary-names : summary_names (raw b).entries ((raw b).summaries.summary p (view_at b i)) ≡ summary_ok l b (endpoint_off p i)
      unfolding summary_ok summary_names
      summary-names = by_cases (sent_at b p i) some nothing
        where
          off : ℕ
          off = endpoint_off p i

          some : sent_at b p i ≡ true → summary_names (raw b).entries ((raw b).summaries.summary p (view_at b i)) ≡ summary_ok l b (endpoint_off p i)
          some t =
              let r = endpoint-room b K i k p lo hi in
              ap (summary_names (raw b).entries) (summary-some b K i k p lo hi t ∙ summary-value (off + endpoint_summary_at) b)
              ∙ ap₂ ◌&&◌ (set-names (off + endpoint_summary_at) (omega arith)) (list-names (off + endpoint_summary_at + summary_order_at) (omega arith) (summary-list b K i k p lo hi t))
              ∙ sym (ap (λ (u : Bool). not u || (all (set_ok l b (off + endpoint_summary_at)) (up_to max_entries) && all (message_marked l false) (list_at b (off + endpoint_summary_at + summary_order_at)))) t)

          nothing : sent_at b p i ≡ false → summary_names (raw b).entries ((raw b).summaries.summary p (view_at b i)) ≡ summary_ok l b (endpoint_off p i)
          nothing t =
              ap (summary_names (raw b).entries) (summary-none b K i k p lo hi t)
              ∙ none-names
              ∙ sym (ap (λ (u : Bool). not u || (all (set_ok l b (off + endpoint_summary_at)) (up_to max_entries) && all (message_marked l false) (list_at b (off + endpoint_summary_at + summary_order_at)))) t)

      pub endpoint-member : has (members (size_at b) (set_at b i)) p ≡ true
          → endpoint_cross (raw b) (view_at b i) p ≡ all (message_marked l (sent_at b p i)) (list_at b (endpoint_off p i)) && summary_ok l b (endpoint_off p i)
      unfolding endpoint_cross
      endpoint-member t =
          ap (λ (u : Bool). elim u [
            | true ↦ messages_name (raw b) p (view_at b i) ((raw b).service.pending p (view_at b i)) && summary_names (raw b).entries ((raw b).summaries.summary p (view_at b i))
            | false ↦ eqb (length ((raw b).service.pending p (view_at b i))) 0 && not ((raw b).summaries.sent p (view_at b i))
          ]) (set-members p ∙ t)
          ∙ ap₂ ◌&&◌ pending-names summary-names

      pub endpoint-other : has (members (size_at b) (set_at b i)) p ≡ false
          → endpoint_cross (raw b) (view_at b i) p ≡ eqb (get_or b (endpoint_off p i) 0) 0 && not (sent_at b p i)
      unfolding endpoint_cross
      endpoint-other t =
          ap (λ (u : Bool). elim u [
            | true ↦ messages_name (raw b) p (view_at b i) ((raw b).service.pending p (view_at b i)) && summary_names (raw b).entries ((raw b).summaries.summary p (view_at b i))
            | false ↦ eqb (length ((raw b).service.pending p (view_at b i))) 0 && not ((raw b).summaries.sent p (view_at b i))
          ]) (set-members p ∙ t)
          ∙ ap₂ (λ (n : ℕ) (s : Bool). eqb n 0 && not s)
          (ap length (pending-list b K i k p lo hi) ∙ length-decode_all message_form message-lawful (get_or b (endpoint_off p i) 0) (drop (endpoint_off p i + 1) b))
          (raw-sent b K i k p lo hi)

  -- ## Recorder r

  module _ (r : ℕ) (lo : 1 ≤ r) (hi : r ≤ size_at b) where
    abbrev off : ℕ
    off = recorders_at + (r - 1) * recorder_size

    abbrev cell : RecorderCell
    cell = recorder_at (raw b).service.current (raw b).recorders r

    room : recorders_at + (r - 1) * recorder_size + recorder_size ≤ length b
    room =
        let n = (size_in b K).1 in
        omega (arith, long b K)

    whole : recorder_at (raw b).service.current (raw b).recorders r ≡ recorder_form.decode (part (recorders_at + (r - 1) * recorder_size) recorder_size b)
    whole = sym (raw-recorder b K r lo hi)

    pub current-at : (raw b).service.current r ≡ value (part (recorders_at + (r - 1) * recorder_size) number_size b)
    unfolding recorder_at
    current-at = ap (λ (x : RecorderCell). x.current) (whole ∙ recorder-value off b) ∙ view_number-value off b

    known-names : set_names (raw b).entries ((raw b).recorders.known r) ≡ all (set_ok l b (off + recorder_known_at)) (up_to max_entries)
    unfolding recorder_at
    known-names =
        let h = room in
        let e : off + number_size + 1 + 1 + list_size max_buffer + list_size max_order + 1 + 1 + number_size ≡ off + recorder_known_at = omega arith in
        ap (set_names (raw b).entries) (ap (λ (x : RecorderCell). x.known) (whole ∙ recorder-value off b) ∙ ap (λ (j : ℕ). (flags max_entries).decode (part j max_entries b)) e)
        ∙ set-names (off + recorder_known_at) (omega arith)

    safe-names : set_names (raw b).entries ((raw b).recorders.safe r) ≡ all (set_ok l b (off + recorder_safe_at)) (up_to max_entries)
    unfolding recorder_at
    safe-names =
        let h = room in
        let e : off + number_size + 1 + 1 + list_size max_buffer + list_size max_order + 1 + 1 + number_size + max_entries ≡ off + recorder_safe_at = omega arith in
        ap (set_names (raw b).entries) (ap (λ (x : RecorderCell). x.safe) (whole ∙ recorder-value off b) ∙ ap (λ (j : ℕ). (flags max_entries).decode (part j max_entries b)) e)
        ∙ set-names (off + recorder_safe_at) (omega arith)

    buffer-names : list_names (raw b).entries ((raw b).recorders.buffer r) ≡ all (message_marked l false) (list_at b (off + recorder_buffer_at))
    unfolding recorder_at
    buffer-names =
        let h = room in
        let e : off + number_size + 1 + 1 ≡ off + recorder_buffer_at = omega arith in
        ap (list_names (raw b).entries) (ap (λ (x : RecorderCell). x.buffer) (whole ∙ recorder-value off b))
        ∙ list-names (off + number_size + 1 + 1) (omega arith) (recorder-lists b K r lo hi).0
        ∙ ap (λ (j : ℕ). all (message_marked l false) (list_at b j)) e

    order-names : list_names (raw b).entries ((raw b).recorders.order r) ≡ all (message_marked l false) (list_at b (off + recorder_order_at))
    unfolding recorder_at
    order-names =
        let h = room in
        let e : off + number_size + 1 + 1 + list_size max_buffer ≡ off + recorder_order_at = omega arith in
        ap (list_names (raw b).entries) (ap (λ (x : RecorderCell). x.order) (whole ∙ recorder-value off b))
        ∙ list-names (off + number_size + 1 + 1 + list_size max_buffer) (omega arith) (recorder-lists b K r lo hi).1
        ∙ ap (λ (j : ℕ). all (message_marked l false) (list_at b j)) e

    heard-at : (q : ℕ) → 1 ≤ q → q ≤ max_recorders → (raw b).recorders.heard r q ≡ flag_at b (off + recorder_heard_at) q
    unfolding recorder_at
    heard-at q ql qu =
        let h = room in
        let e : off + number_size + 1 + 1 + list_size max_buffer + list_size max_order + 1 + 1 + number_size + max_entries + max_entries ≡ off + recorder_heard_at = omega arith in
        ap (λ (x : RecorderCell). x.heard q) (whole ∙ recorder-value off b)
        ∙ ap (λ (j : ℕ). (flags max_recorders).decode (part j max_recorders b) q) e
        ∙ flags-at max_recorders (off + recorder_heard_at) b (omega arith) q ql qu

    sources-at : (q : ℕ) → 1 ≤ q → q ≤ max_recorders → (raw b).recorders.safe_sources r q ≡ flag_at b (off + recorder_safe_sources_at) q
    unfolding recorder_at
    sources-at q ql qu =
        let h = room in
        let e : off + number_size + 1 + 1 + list_size max_buffer + list_size max_order + 1 + 1 + number_size + max_entries + max_entries + max_recorders ≡ off + recorder_safe_sources_at = omega arith in
        ap (λ (x : RecorderCell). x.safe_sources q) (whole ∙ recorder-value off b)
        ∙ ap (λ (j : ℕ). (flags max_recorders).decode (part j max_recorders b) q) e
        ∙ flags-at max_recorders (off + recorder_safe_sources_at) b (omega arith) q ql qu

    -- where its current view stands at index i, or at none
    module _ (i : ℕ) (f : Found (view_count b) b (value (part (recorders_at + (r - 1) * recorder_size) number_size b)) i) where
      abbrev set : ℕ
      set = set_at b i

      in-set : (q : ℕ) → has ((raw b).service.members ((raw b).service.current r)) q ≡ has (members (size_at b) (set_at b i)) q
      in-set q =
          ap (λ (g : ℕ). has ((raw b).service.members g) q) current-at
          ∙ found-members b K (value (part (recorders_at + (r - 1) * recorder_size) number_size b)) i f q

      heard-sent : (q : ℕ) → 1 ≤ q → q ≤ max_recorders
          → (has ((raw b).service.members ((raw b).service.current r)) q && (raw b).summaries.sent q ((raw b).service.current r))
          ≡ (has (members (size_at b) (set_at b i)) q && sent_at b q i)
      heard-sent q ql qu =
          ap (λ (t : Bool). t && (raw b).summaries.sent q ((raw b).service.current r)) (in-set q)
          ∙ by_cases (has (members (size_at b) (set_at b i)) q) member other
        where
          formed : has (members (size_at b) (set_at b i)) q ≡ true → i < view_count b
          formed t = by_cases (ltb i (view_count b)) (λ u. ltb-true i (view_count b) u)
              (λ u. absurd (false≢true (sym (ap (λ (z : ℕ). has (members (size_at b) z) q) (set_out b i (ltb-false i (view_count b) u)) ∙ no-members (size_at b) q) ∙ t)))

          member : has (members (size_at b) (set_at b i)) q ≡ true
              → (has (members (size_at b) (set_at b i)) q && (raw b).summaries.sent q ((raw b).service.current r)) ≡ (has (members (size_at b) (set_at b i)) q && sent_at b q i)
          member t =
              let m = members-range (size_at b) (set_at b i) q t in
              let k = formed t in
              ap (λ (u : Bool). has (members (size_at b) (set_at b i)) q && u)
              (ap ((raw b).summaries.sent q) (current-at ∙ sym (f.here k)) ∙ raw-sent b K i k q m.0 m.1)

          other : has (members (size_at b) (set_at b i)) q ≡ false
              → (has (members (size_at b) (set_at b i)) q && (raw b).summaries.sent q ((raw b).service.current r)) ≡ (has (members (size_at b) (set_at b i)) q && sent_at b q i)
          other t =
              ap (λ (u : Bool). u && (raw b).summaries.sent q ((raw b).service.current r)) t
              ∙ sym (ap (λ (u : Bool). u && sent_at b q i) t)

      pub recorder-cross : recorder_cross (raw b) r
          ≡ (eqb (value (part (recorders_at + (r - 1) * recorder_size) number_size b)) 0 || has (members (size_at b) (set_at b i)) r)
          && (all (set_ok l b (recorders_at + (r - 1) * recorder_size + recorder_known_at)) (up_to max_entries)
          && (all (message_marked l false) (list_at b (recorders_at + (r - 1) * recorder_size + recorder_buffer_at))
          && (all (message_marked l false) (list_at b (recorders_at + (r - 1) * recorder_size + recorder_order_at))
          && (all (set_ok l b (recorders_at + (r - 1) * recorder_size + recorder_safe_at)) (up_to max_entries)
          && (all (heard_ok b (recorders_at + (r - 1) * recorder_size + recorder_heard_at) (set_at b i) i) (up_to max_recorders)
          && all (source_ok b (recorders_at + (r - 1) * recorder_size + recorder_safe_sources_at) (set_at b i)) (up_to max_recorders))))))
      unfolding recorder_cross heard_ok source_ok
      recorder-cross =
          ap₂ ◌&&◌ (ap₂ (λ (g : ℕ) (t : Bool). eqb g 0 || t) current-at (in-set r))
          (ap₂ ◌&&◌ known-names
          (ap₂ ◌&&◌ buffer-names
          (ap₂ ◌&&◌ order-names
          (ap₂ ◌&&◌ safe-names
          (ap₂ ◌&&◌
          (all_same _ _ (up_to max_recorders) (λ q h. let w = up_to-range max_recorders q h in ap₂ (λ (s t : Bool). not s || t) (heard-at q w.0 w.1) (heard-sent q w.0 w.1)))
          (all_same _ _ (up_to max_recorders) (λ q h. let w = up_to-range max_recorders q h in ap₂ (λ (s t : Bool). not s || t) (sources-at q w.0 w.1) (in-set q))))))))

-- ## The whole

pub cross-parts : (b : List ℕ) → Held hall_fields b → cross_rules (raw b)
    ≡ some_votes (raw b)
    && (labels_apart (raw b).entries
    && (all (recorder_cross (raw b)) (up_to (size_at b)) && all (view_cross (raw b)) (view_numbers (view_count b) 2 b)))
unfolding cross_rules
cross-parts b K =
    ap₂ (λ (n : ℕ) (xs : List ℕ). some_votes (raw b)
    && (labels_apart (raw b).entries && (all (recorder_cross (raw b)) (up_to n) && all (view_cross (raw b)) xs)))
    (raw-size b K) (raw-created b K)
