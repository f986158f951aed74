-- Laws of specs/CellParts. Assumes nothing.
use Prim.Native.Nat.{ℕ, ◌+◌, ◌-◌, ◌*◌, ◌^◌, ◌≤◌, ◌<◌}
use native.Mathlib.Omega.{arith}
use mathlib.Core.Path.{◌≡◌, refl, sym, ap, ap₂, ◌∙◌}
use mathlib.Core.Bool.{Bool, true, false, not, ◌&&◌, and-true}
use mathlib.Core.List.{List}
use lib.Dec.{eqb, leb}
use lib.ListN.{length, get_or, drop}
use lib.Seq.{take-take}
use borrow.Author.Tests.{eq-eqb, ne_eqb, le-leb, lt-leb}
use Rattle.quorum.specs.Votes.{max_vote}
use Rattle.model.specs.Hall.{max_sequence, max_entries, max_buffer, max_order, max_number, max_pending, max_queue, max_recorders, Payload}
use Rattle.codec.specs.Bytes.{part, all_zero}
use Rattle.codec.specs.Form.{mapped, renamed, guarded}
use Rattle.codec.specs.Number.{value, number, byte, mark, between}
use Rattle.codec.specs.Pair.{given}
use Rattle.codec.specs.Cells.{valid_all, cells}
use Rattle.codec.specs.Bounded.{bounded, optional}
use Rattle.codec.specs.Table.{flags}
use Rattle.codec.proofs.BytesLaws.{drop-part}
use Rattle.codec.proofs.NumberLaws.{value-byte}
use Rattle.store.specs.Layout.{entry_size, recorder_size, endpoint_size, summary_size, view_size, number_size, word_size, view_set_at, payload_size, entry_payload_at, list_size, summary_order_at, sent_size, queued_message_at, queued_size}
use Rattle.store.specs.Cells.{EntryCell}
use Rattle.store.specs.CellForms.{view_number, entry_list, label_whole, payload_form, entry_form, summary_form, sent_form, phase_form, recorder_form, message_form, endpoint_form, queued_form, vote_form}
use Rattle.store.specs.Masks.{set_form}
use Rattle.store.specs.ViewForm.{view_form}
use Rattle.ranges.specs.CellParts.{whole_label, recorder_rest}
use Rattle.ranges.proofs.Parts.{pair-part, given-value, number-most, word-part}
use Rattle.ranges.proofs.Loops.{cells_same, bounded-part}

pub no_label : (g k : ℕ) → g ≡ 0 → whole_label g k ≡ eqb k 0
unfolding whole_label
no_label g k e = ap (λ (t : Bool). elim t [ true ↦ eqb k 0 | false ↦ not (eqb k 0) ]) (eq-eqb g 0 e)

pub some-label : (g k : ℕ) → (g ≡ 0 → ⊥) → whole_label g k ≡ not (eqb k 0)
unfolding whole_label
some-label g k e = ap (λ (t : Bool). elim t [ true ↦ eqb k 0 | false ↦ not (eqb k 0) ]) (ne_eqb g 0 e)

-- an entry's sender, label view and sequence number are in range; its value may be any word
module _ (n o : ℕ) (b : List ℕ) where
  -- the cell at offset o
  pub entry_value : o + entry_size ≤ length b → (entry_form n).decode (part o entry_size b)
      ≡ record { sender = get_or b o 0; payload = record { value = value (part (o + entry_payload_at) word_size b) }; label_view = value (part (o + entry_payload_at + payload_size) number_size b); label_seq = get_or b (o + entry_payload_at + payload_size + number_size) 0 }
  unfolding entry_form payload_form guarded renamed mapped view_number number
  entry_value h =
      let plus : (x : ℕ) → x + 0 ≡ x = λ x. omega arith in
      let low = given-value (byte 1 n) (λ a. given payload_form (λ a. given view_number (λ a. byte 0 max_sequence))) o b in
      let mid = given-value payload_form (λ a. given view_number (λ a. byte 0 max_sequence)) (o + entry_payload_at) b in
      let high = given-value view_number (λ a. byte 0 max_sequence) (o + entry_payload_at + payload_size) b in
      let s : value (part o 1 b) + 0 ≡ get_or b o 0 = plus _ ∙ value-byte o b (omega arith) in
      let v = ap (λ (y : ℕ). let x : Payload = record { value = y } in x) (plus (value (part (o + entry_payload_at) word_size b))) in
      let g : value (part (o + entry_payload_at + payload_size) number_size b) + 0 ≡ value (part (o + entry_payload_at + payload_size) number_size b) = plus _ in
      let k : value (part (o + entry_payload_at + payload_size + number_size) 1 b) + 0 ≡ get_or b (o + entry_payload_at + payload_size + number_size) 0 = plus _ ∙ value-byte (o + entry_payload_at + payload_size + number_size) b (omega arith) in
      ap (λ (t : ℕ × (Payload × (ℕ × ℕ))). let x : EntryCell = record { sender = t.0; payload = t.1.0; label_view = t.1.1.0; label_seq = t.1.1.1 } in x)
      (low ∙ (λ i. (s i, (mid ∙ (λ j. (v j, (high ∙ (λ l. (g l, k l))) j))) i)))

  pub entry-part : o + entry_size ≤ length b → ((i : ℕ) → get_or b i 0 < 256) → (entry_form n).valid (part o entry_size b)
      ≡ ((byte 1 n).valid (part o 1 b) && (view_number.valid (part (o + entry_payload_at + payload_size) number_size b) && (byte 0 max_sequence).valid (part (o + entry_payload_at + payload_size + number_size) 1 b)))
      && whole_label (value (part (o + entry_payload_at + payload_size) number_size b)) (get_or b (o + entry_payload_at + payload_size + number_size) 0)
  unfolding entry_form payload_form guarded renamed mapped whole_label label_whole
  entry-part h k =
      ap₂ ◌&&◌
      (pair-part (byte 1 n) _ o b
      (pair-part payload_form _ (o + entry_payload_at) b (pair-part view_number _ (o + entry_payload_at + payload_size) b refl)
      ∙ ap (λ (t : Bool). t && (view_number.valid (part (o + entry_payload_at + payload_size) number_size b) && (byte 0 max_sequence).valid (part (o + entry_payload_at + payload_size + number_size) 1 b))) (word-part (o + entry_payload_at) b (omega arith) k)))
      (ap label_whole (entry_value h))

module _ (o : ℕ) (b : List ℕ) where
  pub summary-part : summary_form.valid (part o summary_size b)
      ≡ (flags max_entries).valid (part o max_entries b)
      && ((bounded (byte 1 max_entries) max_order).valid (part (o + summary_order_at) (list_size max_order) b) && ((mark (max_order + 1)).valid (part (o + summary_order_at + list_size max_order) 1 b) && view_number.valid (part (o + summary_order_at + list_size max_order + 1) number_size b)))
  unfolding summary_form renamed mapped entry_list
  summary-part = pair-part (flags max_entries) _ o b (pair-part (bounded (byte 1 max_entries) max_order) _ (o + summary_order_at) b (pair-part (mark (max_order + 1)) view_number (o + summary_order_at + list_size max_order) b refl))

pub recorder-part : (o : ℕ) (b : List ℕ) → recorder_form.valid (part o recorder_size b)
    ≡ view_number.valid (part o number_size b)
    && ((byte 0 2).valid (part (o + number_size) 1 b)
    && ((mark (max_sequence + 1)).valid (part (o + number_size + 1) 1 b)
    && ((bounded (byte 1 max_entries) max_buffer).valid (part (o + number_size + 1 + 1) (list_size max_buffer) b)
    && ((bounded (byte 1 max_entries) max_order).valid (part (o + number_size + 1 + 1 + list_size max_buffer) (list_size max_order) b) && recorder_rest (o + number_size + 1 + 1 + list_size max_buffer + list_size max_order) b))))
unfolding recorder_form renamed mapped phase_form entry_list recorder_rest
recorder-part o b =
    pair-part view_number _ o b
    (pair-part phase_form _ (o + number_size) b
    (pair-part (mark (max_sequence + 1)) _ (o + number_size + 1) b
    (pair-part (bounded (byte 1 max_entries) max_buffer) _ (o + number_size + 1 + 1) b
    (pair-part (bounded (byte 1 max_entries) max_order) _ (o + number_size + 1 + 1 + list_size max_buffer) b
    (pair-part (mark (max_order + 1)) _ (o + number_size + 1 + 1 + list_size max_buffer + list_size max_order) b
    (pair-part (mark (max_order + 1)) _ (o + number_size + 1 + 1 + list_size max_buffer + list_size max_order + 1) b
    (pair-part view_number _ (o + number_size + 1 + 1 + list_size max_buffer + list_size max_order + 1 + 1) b
    (pair-part (flags max_entries) _ (o + number_size + 1 + 1 + list_size max_buffer + list_size max_order + 1 + 1 + number_size) b
    (pair-part (flags max_entries) _ (o + number_size + 1 + 1 + list_size max_buffer + list_size max_order + 1 + 1 + number_size + max_entries) b
    (pair-part (flags max_recorders) (flags max_recorders) (o + number_size + 1 + 1 + list_size max_buffer + list_size max_order + 1 + 1 + number_size + max_entries + max_entries) b refl))))))))))

-- what follows its order
pub rest-part : (o : ℕ) (b : List ℕ) → recorder_rest o b
    ≡ (mark (max_order + 1)).valid (part o 1 b)
    && ((mark (max_order + 1)).valid (part (o + 1) 1 b)
    && (view_number.valid (part (o + 1 + 1) number_size b)
    && ((flags max_entries).valid (part (o + 1 + 1 + number_size) max_entries b)
    && ((flags max_entries).valid (part (o + 1 + 1 + number_size + max_entries) max_entries b)
    && ((flags max_recorders).valid (part (o + 1 + 1 + number_size + max_entries + max_entries) max_recorders b)
    && (flags max_recorders).valid (part (o + 1 + 1 + number_size + max_entries + max_entries + max_recorders) max_recorders b))))))
unfolding recorder_rest
rest-part o b = refl

-- a list of messages is tested as one of bytes
messages-part : (cap o : ℕ) (b : List ℕ) → o + (1 + cap * 1) ≤ length b
    → (bounded message_form cap).valid (part o (1 + cap * 1) b) ≡ (bounded (byte 0 max_entries) cap).valid (part o (1 + cap * 1) b)
unfolding message_form mapped
messages-part cap o b h =
    bounded-part message_form cap o b h
    ∙ ap (λ (t : Bool). leb (get_or b o 0) cap && t) (cells_same message_form (byte 0 max_entries) (λ x. refl) (get_or b o 0) cap (part (o + 1) (cap * 1) b))
    ∙ sym (bounded-part (byte 0 max_entries) cap o b h)

pub endpoint-part : (o : ℕ) (b : List ℕ) → o + endpoint_size ≤ length b → endpoint_form.valid (part o endpoint_size b)
    ≡ (bounded (byte 0 max_entries) max_pending).valid (part o (list_size max_pending) b)
    && ((mark (max_queue + 1)).valid (part (o + list_size max_pending) 1 b) && ((mark (max_queue + 1)).valid (part (o + list_size max_pending + 1) 1 b) && sent_form.valid (part (o + list_size max_pending + 1 + 1) sent_size b)))
unfolding endpoint_form renamed mapped
endpoint-part o b h =
    pair-part (bounded message_form max_pending) _ o b (pair-part (mark (max_queue + 1)) _ (o + list_size max_pending) b (pair-part (mark (max_queue + 1)) sent_form (o + list_size max_pending + 1) b refl))
    ∙ ap (λ (t : Bool). t && ((mark (max_queue + 1)).valid (part (o + list_size max_pending) 1 b) && ((mark (max_queue + 1)).valid (part (o + list_size max_pending + 1) 1 b) && sent_form.valid (part (o + list_size max_pending + 1 + 1) sent_size b))))
    (messages-part max_pending o b (omega arith))

pub queued-part : (o : ℕ) (b : List ℕ) → queued_form.valid (part o queued_size b) ≡ (byte 1 max_recorders).valid (part o 1 b) && (byte 0 max_entries).valid (part (o + queued_message_at) 1 b)
unfolding queued_form renamed mapped message_form
queued-part o b = pair-part (byte 1 max_recorders) message_form o b refl

-- the place for a summary: none and zeros, or one
module _ (o : ℕ) (b : List ℕ) (h : o + sent_size ≤ length b) where
  sent-cells : sent_form.valid (part o sent_size b) ≡ leb (get_or b o 0) 1 && (cells summary_form (get_or b o 0) 1).valid (part (o + 1) summary_size b)
  unfolding sent_form optional mapped
  sent-cells = bounded-part summary_form 1 o b h

  pub sent-none : get_or b o 0 ≡ 0 → sent_form.valid (part o sent_size b) ≡ all_zero (part (o + 1) (o + sent_size - (o + 1)) b)
  unfolding cells valid_all
  sent-none e =
      let d : o + sent_size - (o + 1) ≡ summary_size = omega arith in
      sent-cells
      ∙ ap (λ (c : ℕ). leb c 1 && (cells summary_form c 1).valid (part (o + 1) summary_size b)) e
      ∙ ap (λ (j : ℕ). all_zero (part (o + 1) j b)) (sym d)

  one_cell : (cells summary_form 1 1).valid (part (o + 1) summary_size b) ≡ summary_form.valid (part (o + 1) summary_size b)
  unfolding cells valid_all all_zero
  one_cell =
      ap₂ (λ (x y : List ℕ). (summary_form.valid x && true) && all_zero y) (take-take summary_size summary_size (drop (o + 1) b) (omega arith))
      (drop-part (o + 1) summary_size summary_size b (omega arith))
      ∙ and-true (summary_form.valid (part (o + 1) summary_size b) && true)
      ∙ and-true (summary_form.valid (part (o + 1) summary_size b))

  pub sent-some : get_or b o 0 ≡ 1 → sent_form.valid (part o sent_size b) ≡ summary_form.valid (part (o + 1) summary_size b)
  sent-some e =
      sent-cells
      ∙ ap (λ (c : ℕ). leb c 1 && (cells summary_form c 1).valid (part (o + 1) summary_size b)) e
      ∙ one_cell

  pub sent-over : 1 < get_or b o 0 → sent_form.valid (part o sent_size b) ≡ false
  sent-over l = sent-cells ∙ ap (λ (t : Bool). t && (cells summary_form (get_or b o 0) 1).valid (part (o + 1) summary_size b)) (lt-leb (get_or b o 0) 1 l)

-- a view's number, 1 on, and its set
pub view-part : (n o : ℕ) (b : List ℕ) → o + view_size ≤ length b → ((i : ℕ) → get_or b i 0 < 256) → (view_form n).valid (part o view_size b)
    ≡ leb 1 (value (part o number_size b)) && (byte 1 (2 ^ n - 1)).valid (part (o + view_set_at) 1 b)
unfolding view_form set_form mapped number
view-part n o b h k =
    let v = value (part o number_size b) in
    let e : v + 0 ≡ v = omega arith in
    pair-part (number number_size 0 1 max_number) (set_form n) o b refl
    ∙ ap (λ (t : Bool). t && (byte 1 (2 ^ n - 1)).valid (part (o + view_set_at) 1 b))
    (ap (between 1 max_number) e ∙ ap (λ (t : Bool). leb 1 v && t) (le-leb v max_number (number-most o b (omega arith) k)) ∙ and-true (leb 1 v))

-- a recorder's votes
pub vote-part : (o : ℕ) (b : List ℕ) → vote_form.valid (part o word_size b) ≡ leb (value (part o word_size b)) max_vote
unfolding vote_form number
vote-part o b =
    let v = value (part o word_size b) in
    let e : v + 0 ≡ v = omega arith in
    ap (between 0 max_vote) e ∙ ap (λ (t : Bool). t && leb v max_vote) (le-leb 0 v (omega arith))
