-- The values of the cells, by their bytes. Assumes nothing.
use Prim.Native.Nat.{ℕ, zero, suc, ◌+◌, ◌≤◌, ◌<◌}
use native.Mathlib.Omega.{arith}
use mathlib.Core.Path.{◌≡◌, refl, ap, ◌∙◌}
use mathlib.Core.Bool.{Bool, true, false}
use mathlib.Core.List.{List, [], ◌∷◌}
use mathlib.Core.Option.{Option, none, some}
use lib.ListN.{length, get_or, drop}
use Rattle.quorum.specs.Sets.{members}
use Rattle.model.specs.Hall.{Message, Message.entry, Message.summary, Queued, Summary, Phase, max_entries, max_sequence, max_buffer, max_order, max_pending, max_queue, max_recorders}
use Rattle.model.specs.Opening.{blank_summary}
use Rattle.codec.specs.Bytes.{part}
use Rattle.codec.specs.Form.{Form, mapped, renamed}
use Rattle.codec.specs.Number.{value, number, byte, mark}
use Rattle.codec.specs.Pair.{given}
use Rattle.codec.specs.Cells.{decode_all}
use Rattle.codec.specs.Bounded.{bounded, optional}
use Rattle.codec.specs.Table.{flags}
use Rattle.codec.proofs.NumberLaws.{value-byte, number-decode}
use Rattle.store.specs.Layout.{recorder_size, endpoint_size, summary_size, view_size, number_size, list_size, summary_order_at, sent_size, view_set_at, recorder_phase_at}
use Rattle.store.specs.Cells.{RecorderCell, EndpointCell}
use Rattle.store.specs.CellForms.{view_number, entry_list, summary_form, sent_form, phase_form, recorder_form, message_form, endpoint_form, queued_form}
use Rattle.store.specs.Masks.{set_form}
use Rattle.store.specs.ViewForm.{view_form}
use Rattle.ranges.proofs.Parts.{given-value}
use Rattle.ranges.proofs.Loops.{bounded-value}

-- the message that a byte says
unfoldable pub message_of : ℕ → Message
message_of zero = summary
message_of (suc e) = entry (suc e)

-- the summary that a list of at most one holds
abbrev first_of : List Summary → Option Summary
first_of [] = none
first_of (x ∷ xs) = some x

abbrev sent_of : Option Summary → Bool × Summary
sent_of none = (false, blank_summary)
sent_of (some x) = (true, x)

-- a pair of which the second part is y
pair-value : {A B : Type 0} {m n : ℕ} (H : Form A m) (G : Form B n) (o : ℕ) (b : List ℕ) {y : B}
    → G.decode (part (o + m) n b) ≡ y → (given H (λ a. G)).decode (part o (m + n) b) ≡ (H.decode (part o m b), y)
pair-value {m} H G o b e = given-value H (λ a. G) o b ∙ (λ i. (H.decode (part o m b), e i))

plus-zero : (x : ℕ) → x + 0 ≡ x
plus-zero x = omega arith

pub byte-value : (lo hi o : ℕ) (b : List ℕ) → o < length b → (byte lo hi).decode (part o 1 b) ≡ get_or b o 0
byte-value lo hi o b h = number-decode 0 lo hi o b h ∙ plus-zero (get_or b o 0)

pub view_number-value : (o : ℕ) (b : List ℕ) → view_number.decode (part o number_size b) ≡ value (part o number_size b)
unfolding view_number number
view_number-value o b = plus-zero (value (part o number_size b))

-- a view's number and set
pub view-value : (n o : ℕ) (b : List ℕ) → o + view_size ≤ length b → (view_form n).decode (part o view_size b) ≡ (value (part o number_size b), members n (get_or b (o + view_set_at) 0))
unfolding view_form set_form mapped number
view-value n o b h =
    let s = plus-zero (value (part (o + view_set_at) 1 b)) ∙ value-byte (o + view_set_at) b (omega arith) in
    let g = plus-zero (value (part o number_size b)) in
    given-value _ _ o b ∙ (λ i. (g i, members n (s i)))

-- a summary
pub summary-value : (o : ℕ) (b : List ℕ) → summary_form.decode (part o summary_size b)
    ≡ record {
      known = (flags max_entries).decode (part o max_entries b);
      order = (bounded (byte 1 max_entries) max_order).decode (part (o + summary_order_at) (list_size max_order) b);
      confirm = (mark (max_order + 1)).decode (part (o + summary_order_at + list_size max_order) 1 b);
      high = view_number.decode (part (o + summary_order_at + list_size max_order + 1) number_size b);
    }
unfolding summary_form renamed mapped entry_list
summary-value o b =
    ap (λ (t : (ℕ → Bool) × (List ℕ × (ℕ × ℕ))). let x : Summary = record { known = t.0; order = t.1.0; confirm = t.1.1.0; high = t.1.1.1 } in x)
    (pair-value (flags max_entries) _ o b (pair-value (bounded (byte 1 max_entries) max_order) _ (o + summary_order_at) b (pair-value (mark (max_order + 1)) view_number (o + summary_order_at + list_size max_order) b refl)))

-- a recorder
pub recorder-value : (o : ℕ) (b : List ℕ) → recorder_form.decode (part o recorder_size b)
    ≡ record {
      current = view_number.decode (part o number_size b);
      phase = phase_form.decode (part (o + recorder_phase_at) 1 b);
      next_seq = (mark (max_sequence + 1)).decode (part (o + number_size + 1) 1 b);
      buffer = (bounded (byte 1 max_entries) max_buffer).decode (part (o + number_size + 1 + 1) (list_size max_buffer) b);
      order = (bounded (byte 1 max_entries) max_order).decode (part (o + number_size + 1 + 1 + list_size max_buffer) (list_size max_order) b);
      confirm = (mark (max_order + 1)).decode (part (o + number_size + 1 + 1 + list_size max_buffer + list_size max_order) 1 b);
      report = (mark (max_order + 1)).decode (part (o + number_size + 1 + 1 + list_size max_buffer + list_size max_order + 1) 1 b);
      high = view_number.decode (part (o + number_size + 1 + 1 + list_size max_buffer + list_size max_order + 1 + 1) number_size b);
      known = (flags max_entries).decode (part (o + number_size + 1 + 1 + list_size max_buffer + list_size max_order + 1 + 1 + number_size) max_entries b);
      safe = (flags max_entries).decode (part (o + number_size + 1 + 1 + list_size max_buffer + list_size max_order + 1 + 1 + number_size + max_entries) max_entries b);
      heard = (flags max_recorders).decode (part (o + number_size + 1 + 1 + list_size max_buffer + list_size max_order + 1 + 1 + number_size + max_entries + max_entries) max_recorders b);
      safe_sources = (flags max_recorders).decode (part (o + number_size + 1 + 1 + list_size max_buffer + list_size max_order + 1 + 1 + number_size + max_entries + max_entries + max_recorders) max_recorders b);
    }
unfolding recorder_form renamed mapped entry_list
recorder-value o b =
    ap (λ (t : ℕ × (Phase × (ℕ × (List ℕ × (List ℕ × (ℕ × (ℕ × (ℕ × ((ℕ → Bool) × ((ℕ → Bool) × ((ℕ → Bool) × (ℕ → Bool)))))))))))). let x : RecorderCell = record { current = t.0; phase = t.1.0; next_seq = t.1.1.0; buffer = t.1.1.1.0; order = t.1.1.1.1.0; confirm = t.1.1.1.1.1.0; report = t.1.1.1.1.1.1.0; high = t.1.1.1.1.1.1.1.0; known = t.1.1.1.1.1.1.1.1.0; safe = t.1.1.1.1.1.1.1.1.1.0; heard = t.1.1.1.1.1.1.1.1.1.1.0; safe_sources = t.1.1.1.1.1.1.1.1.1.1.1 } in x)
    (pair-value view_number _ o b
    (pair-value phase_form _ (o + recorder_phase_at) b
    (pair-value (mark (max_sequence + 1)) _ (o + number_size + 1) b
    (pair-value (bounded (byte 1 max_entries) max_buffer) _ (o + number_size + 1 + 1) b
    (pair-value (bounded (byte 1 max_entries) max_order) _ (o + number_size + 1 + 1 + list_size max_buffer) b
    (pair-value (mark (max_order + 1)) _ (o + number_size + 1 + 1 + list_size max_buffer + list_size max_order) b
    (pair-value (mark (max_order + 1)) _ (o + number_size + 1 + 1 + list_size max_buffer + list_size max_order + 1) b
    (pair-value view_number _ (o + number_size + 1 + 1 + list_size max_buffer + list_size max_order + 1 + 1) b
    (pair-value (flags max_entries) _ (o + number_size + 1 + 1 + list_size max_buffer + list_size max_order + 1 + 1 + number_size) b
    (pair-value (flags max_entries) _ (o + number_size + 1 + 1 + list_size max_buffer + list_size max_order + 1 + 1 + number_size + max_entries) b
    (pair-value (flags max_recorders) (flags max_recorders) (o + number_size + 1 + 1 + list_size max_buffer + list_size max_order + 1 + 1 + number_size + max_entries + max_entries) b refl)))))))))))

-- an endpoint
pub endpoint-value : (o : ℕ) (b : List ℕ) → endpoint_form.decode (part o endpoint_size b)
    ≡ record {
      pending = (bounded message_form max_pending).decode (part o (list_size max_pending) b);
      next = (mark (max_queue + 1)).decode (part (o + list_size max_pending) 1 b);
      next_safe = (mark (max_queue + 1)).decode (part (o + list_size max_pending + 1) 1 b);
      sent = (sent_form.decode (part (o + list_size max_pending + 1 + 1) sent_size b)).0;
      summary = (sent_form.decode (part (o + list_size max_pending + 1 + 1) sent_size b)).1;
    }
unfolding endpoint_form renamed mapped
endpoint-value o b =
    ap (λ (t : List Message × (ℕ × (ℕ × (Bool × Summary)))). let x : EndpointCell = record { pending = t.0; next = t.1.0; next_safe = t.1.1.0; sent = t.1.1.1.0; summary = t.1.1.1.1 } in x)
    (pair-value (bounded message_form max_pending) _ o b (pair-value (mark (max_queue + 1)) _ (o + list_size max_pending) b (pair-value (mark (max_queue + 1)) sent_form (o + list_size max_pending + 1) b refl)))

-- the place for a summary
module _ (o : ℕ) (b : List ℕ) (h : o + sent_size ≤ length b) where
  pub unsent-value : get_or b o 0 ≡ 0 → sent_form.decode (part o sent_size b) ≡ (false, blank_summary)
  unfolding sent_form optional mapped decode_all
  unsent-value e = ap (λ (x : List Summary). sent_of (first_of x)) (bounded-value summary_form 1 o b h (omega arith) ∙ ap (λ (c : ℕ). decode_all summary_form c (drop (o + 1) b)) e)

  pub sent-value : get_or b o 0 ≡ 1 → sent_form.decode (part o sent_size b) ≡ (true, summary_form.decode (part (o + 1) summary_size b))
  unfolding sent_form optional mapped decode_all
  sent-value e = ap (λ (x : List Summary). sent_of (first_of x)) (bounded-value summary_form 1 o b h (omega arith) ∙ ap (λ (c : ℕ). decode_all summary_form c (drop (o + 1) b)) e)

-- a message: an entry's number, 0 for the summary
pub message-value : (o : ℕ) (b : List ℕ) → o < length b → message_form.decode (part o 1 b) ≡ message_of (get_or b o 0)
unfolding message_form mapped message_of
message-value o b h = ap message_of (byte-value 0 max_entries o b h)

pub queued-value : (o : ℕ) (b : List ℕ) → o + 2 ≤ length b → queued_form.decode (part o 2 b) ≡ record { source = get_or b o 0; message = message_of (get_or b (o + 1) 0) }
unfolding queued_form renamed mapped
queued-value o b h =
    let s = byte-value 1 max_recorders o b (omega arith) in
    let m = message-value (o + 1) b (omega arith) in
    ap (λ (t : ℕ × Message). let x : Queued = record { source = t.0; message = t.1 } in x) (given-value (byte 1 max_recorders) (λ a. message_form) o b ∙ (λ i. (s i, m i)))
