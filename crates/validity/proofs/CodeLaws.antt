-- What the code's branches and loops go by, for the cross rules. Assumes nothing.
use Prim.Native.Nat.{ℕ, zero, suc, ◌+◌, ◌-◌, ◌*◌, ◌≤◌, ◌<◌}
use native.Mathlib.Omega.{arith}
use mathlib.Core.Path.{◌≡◌, refl, sym, ap, ◌∙◌}
use mathlib.Core.Bool.{Bool, true, false, not, ◌&&◌}
use mathlib.Core.List.{List}
use lib.Dec.{eqb, leb, ltb}
use lib.ListN.{length, get_or, take, set, replicate, length-set, length-replicate, get_or-replicate}
use lib.Seq.{get_or-set_same, get_or-set_other}
use borrow.Author.Tests.{eq-eqb, ne_eqb, eqb-true, eqb-false, ltb-true, ltb-false, le-leb, lt-leb, leb-true, leb-false}
use Rattle.base.specs.Lists.{bit, has}
use Rattle.base.proofs.Bools.{by_cases}
use Rattle.quorum.specs.Sets.{members}
use Rattle.model.specs.Hall.{max_entries}
use Rattle.codec.specs.Bytes.{Block}
use Rattle.codec.specs.Form.{guarded}
use Rattle.codec.specs.Slice.{Held, holds, value_of}
use Rattle.codec.proofs.BytesLaws.{block-part}
use Rattle.codec.proofs.SliceLaws.{are_bytes-of}
use Rattle.store.specs.Layout.{stored_length, entry_sequence_at, entry_size, entry_cells}
use Rattle.store.specs.Valid.{labelled_entry, cross_rules}
use Rattle.store.specs.HallForm.{hall_fields, hall_form}
use Rattle.store.specs.StoredForm.{is_stored}
use Rattle.validity.specs.Marks.{byte_values, messages_from, message_marked, sent_at}
use Rattle.validity.specs.RawHall.{raw, size_at, entry_count, set_at}
use Rattle.validity.specs.CrossParts.{Labels, queued_ok}
use Rattle.validity.proofs.MarksLaws.{message-at, message-past, bit-zero}
use Rattle.validity.proofs.CrossPartsLaws.{labelled-at, unlabelled, named-summary, named-entry}

-- ## The table of messages

-- what the table says of the message x when i entries are passed
unfoldable pub passed_mark : List ℕ → ℕ → Bool → ℕ → Bool
passed_mark b i sent x =
    elim (eqb x 0) [ true ↦ sent | false ↦ leb x i && not (eqb (get_or b (entry_cells + (x - 1) * entry_size + entry_sequence_at) 0) 0) ]

module _ (b : List ℕ) (i : ℕ) (sent : Bool) (x : ℕ) where
  mark-summary : x ≡ 0 → passed_mark b i sent x ≡ sent
  unfolding passed_mark
  mark-summary h = rw (eq-eqb x 0 h, passed_mark)

  mark-passed : 1 ≤ x → x ≤ i → passed_mark b i sent x ≡ not (eqb (get_or b (entry_cells + (x - 1) * entry_size + entry_sequence_at) 0) 0)
  unfolding passed_mark
  mark-passed h k = rw (ne_eqb x 0 (λ e. absurd (omega arith)), passed_mark, le-leb x i k)

  mark-ahead : i < x → passed_mark b i sent x ≡ false
  unfolding passed_mark
  mark-ahead h = rw (ne_eqb x 0 (λ e. absurd (omega arith)), passed_mark, lt-leb x i h)

mark-more : (b : List ℕ) (i : ℕ) (sent : Bool) (x : ℕ) → (x ≡ i + 1 → ⊥) → passed_mark b i sent x ≡ passed_mark b (i + 1) sent x
mark-more b i sent zero ne = mark-summary b i sent zero refl ∙ sym (mark-summary b (i + 1) sent zero refl)
mark-more b i sent (suc e) ne = by_cases (leb (suc e) i) used unused
  where
    used : leb (suc e) i ≡ true → passed_mark b i sent (suc e) ≡ passed_mark b (i + 1) sent (suc e)
    used u =
        let k = leb-true (suc e) i u in
        mark-passed b i sent (suc e) (omega arith) k ∙ sym (mark-passed b (i + 1) sent (suc e) (omega arith) (omega arith))

    after : i < suc e → i + 1 < suc e
    after k = omega arith

    unused : leb (suc e) i ≡ false → passed_mark b i sent (suc e) ≡ passed_mark b (i + 1) sent (suc e)
    unused u =
        let k = leb-false (suc e) i u in
        mark-ahead b i sent (suc e) k ∙ sym (mark-ahead b (i + 1) sent (suc e) (after k))

-- a new table of n bytes: each message unnamed but the summary that was sent
module _ (b : List ℕ) (n : ℕ) (fits : 2 * byte_values ≤ n) where
  abbrev blank : List ℕ
  blank = set (replicate n 1) byte_values 0

  unnamed : (j : ℕ) → j < n → (j ≡ byte_values → ⊥) → eqb (get_or blank j 0) 0 ≡ false
  unnamed j h ne = ap (λ (z : ℕ). eqb z 0) (get_or-set_other (replicate n 1) byte_values j 0 0 ne ∙ get_or-replicate n j 1 0 h)

  sent-summary : eqb (get_or blank byte_values 0) 0 ≡ true
  sent-summary =
      let l : byte_values < length {A = ℕ} (replicate n 1) = simp length-replicate (omega arith) in
      ap (λ (z : ℕ). eqb z 0) (get_or-set_same (replicate n 1) byte_values 0 0 l)

  pub table-start : (sent : Bool) (x : ℕ) → message_marked (set (replicate n 1) byte_values 0) sent x ≡ passed_mark b 0 sent x
  table-start sent x =
      by_cases (ltb x byte_values)
      (λ u. let h = ltb-true x byte_values u in message-at blank sent x h ∙ inside sent h)
      (λ u. let h = ltb-false x byte_values u in message-past blank sent x h ∙ sym (mark-ahead b 0 sent x (omega arith)))
    where
      above : (x ≡ 0 → ⊥) → 0 < x
      above ne = omega arith

      inside : (s : Bool) → x < byte_values → eqb (get_or blank (messages_from s + x) 0) 0 ≡ passed_mark b 0 s x
      inside false h =
          unnamed (messages_from false + x) (omega arith) (λ e. omega arith)
          ∙ sym (by_cases (eqb x 0) (λ t. mark-summary b 0 false x (eqb-true x 0 t)) (λ t. mark-ahead b 0 false x (above (eqb-false x 0 t))))
      inside true h = by_cases (eqb x 0) none some
        where
          none : eqb x 0 ≡ true → eqb (get_or blank (messages_from true + x) 0) 0 ≡ passed_mark b 0 true x
          none t =
              let z = eqb-true x 0 t in
              let e : messages_from true + x ≡ byte_values = omega arith in
              ap (λ (j : ℕ). eqb (get_or blank j 0) 0) e ∙ sent-summary ∙ sym (mark-summary b 0 true x z)

          some : eqb x 0 ≡ false → eqb (get_or blank (messages_from true + x) 0) 0 ≡ passed_mark b 0 true x
          some t =
              let z = above (eqb-false x 0 t) in
              unnamed (messages_from true + x) (omega arith) (λ e. omega arith) ∙ sym (mark-ahead b 0 true x z)

-- one entry more, with v for its label
module _ (b t : List ℕ) (i : ℕ) (h : i < max_entries) (n : 2 * byte_values ≤ length t) (v : ℕ) where
  abbrev more : List ℕ
  more = set (set t (i + 1) v) (byte_values + (i + 1)) v

  written : (s : Bool) → get_or more (messages_from s + (i + 1)) 0 ≡ v
  written false =
      let e : messages_from false + (i + 1) ≡ i + 1 = omega arith in
      ap (λ (j : ℕ). get_or more j 0) e
      ∙ get_or-set_other (set t (i + 1) v) (byte_values + (i + 1)) (i + 1) v 0 (λ q. omega arith)
      ∙ get_or-set_same t (i + 1) v 0 (omega arith)
  written true =
      let l : byte_values + (i + 1) < length (set t (i + 1) v) = simp length-set (omega arith) in
      get_or-set_same (set t (i + 1) v) (byte_values + (i + 1)) v 0 l

  kept : (s : Bool) (x : ℕ) → x < byte_values → (x ≡ i + 1 → ⊥) → get_or more (messages_from s + x) 0 ≡ get_or t (messages_from s + x) 0
  kept s x k ne =
      get_or-set_other (set t (i + 1) v) (byte_values + (i + 1)) (messages_from s + x) v 0 (far s)
      ∙ get_or-set_other t (i + 1) (messages_from s + x) v 0 (near s)
    where
      far : (s : Bool) → messages_from s + x ≡ byte_values + (i + 1) → ⊥
      far false q = omega arith
      far true q = ne (omega arith)

      near : (s : Bool) → messages_from s + x ≡ i + 1 → ⊥
      near false q = ne (omega arith)
      near true q = omega arith

  module _ (f : (sent : Bool) (x : ℕ) → message_marked t sent x ≡ passed_mark b i sent x) (e : v ≡ bit (eqb (get_or b (entry_cells + i * entry_size + entry_sequence_at) 0) 0)) where
    pub table-next : (sent : Bool) (x : ℕ) → message_marked (set (set t (i + 1) v) (byte_values + (i + 1)) v) sent x ≡ passed_mark b (i + 1) sent x
    table-next sent x =
        by_cases (ltb x byte_values)
        (λ u. by_cases (eqb x (i + 1)) (here (ltb-true x byte_values u)) (there (ltb-true x byte_values u)))
        (λ u. let k = ltb-false x byte_values u in message-past more sent x k ∙ sym (mark-ahead b (i + 1) sent x (omega arith)))
      where
        here : x < byte_values → eqb x (i + 1) ≡ true → message_marked more sent x ≡ passed_mark b (i + 1) sent x
        here k u =
            let q = eqb-true x (i + 1) u in
            let p : i ≡ x - 1 = omega arith in
            message-at more sent x k
            ∙ ap (λ (z : ℕ). eqb z 0) (ap (λ (y : ℕ). get_or more (messages_from sent + y) 0) q ∙ written sent ∙ e)
            ∙ bit-zero (eqb (get_or b (entry_cells + i * entry_size + entry_sequence_at) 0) 0)
            ∙ ap (λ (j : ℕ). not (eqb (get_or b (entry_cells + j * entry_size + entry_sequence_at) 0) 0)) p
            ∙ sym (mark-passed b (i + 1) sent x (omega arith) (omega arith))

        there : x < byte_values → eqb x (i + 1) ≡ false → message_marked more sent x ≡ passed_mark b (i + 1) sent x
        there k u =
            let ne = eqb-false x (i + 1) u in
            message-at more sent x k
            ∙ ap (λ (z : ℕ). eqb z 0) (kept sent x k ne)
            ∙ sym (message-at t sent x k)
            ∙ f sent x
            ∙ mark-more b i sent x ne

pub table_done : (b t : List ℕ) → Held hall_fields b → ((sent : Bool) (x : ℕ) → message_marked t sent x ≡ passed_mark b (entry_count b) sent x) → Labels (raw b).entries t
table_done b t K f sent zero = f sent zero ∙ mark-summary b (entry_count b) sent zero refl ∙ sym (named-summary (raw b).entries sent zero refl)
table_done b t K f sent (suc e) =
    f sent (suc e) ∙ by_cases (leb (suc e) (entry_count b)) used unused ∙ sym (named-entry (raw b).entries sent (suc e) (omega arith))
  where
    used : leb (suc e) (entry_count b) ≡ true → passed_mark b (entry_count b) sent (suc e) ≡ labelled_entry (raw b).entries (suc e)
    used u =
        let k = leb-true (suc e) (entry_count b) u in
        mark-passed b (entry_count b) sent (suc e) (omega arith) k ∙ sym (labelled-at b K (suc e) (omega arith) k)

    unused : leb (suc e) (entry_count b) ≡ false → passed_mark b (entry_count b) sent (suc e) ≡ labelled_entry (raw b).entries (suc e)
    unused u =
        let k = leb-false (suc e) (entry_count b) u in
        mark-ahead b (entry_count b) sent (suc e) k ∙ sym (unlabelled b K (suc e) (λ g. k))

-- ## Queued messages

module _ (l b : List ℕ) (i o : ℕ) where
  pub queued-member : has (members (size_at b) (set_at b i)) (get_or b o 0) ≡ true
      → queued_ok l b i o ≡ message_marked l (sent_at b (get_or b o 0) i) (get_or b (o + 1) 0)
  unfolding queued_ok
  queued-member t = ap (λ (u : Bool). u && message_marked l (sent_at b (get_or b o 0) i) (get_or b (o + 1) 0)) t

  pub queued-other : has (members (size_at b) (set_at b i)) (get_or b o 0) ≡ false → queued_ok l b i o ≡ false
  unfolding queued_ok
  queued-other t = ap (λ (u : Bool). u && message_marked l (sent_at b (get_or b o 0) i) (get_or b (o + 1) 0)) t

-- ## The whole

module _ (b : List ℕ) where
  pub stored_short : length b < stored_length → is_stored b ≡ false
  unfolding is_stored holds
  stored_short h = rw (lt-leb stored_length (length b) h)

  module _ (l : stored_length ≤ length b) (k : (i : ℕ) → get_or b i 0 < 256) where
    first_block : Block stored_length (take stored_length b)
    first_block = block-part 0 stored_length {b = b} l (record { len = refl; byte = k })

    pub fields-held : hall_fields.valid (take stored_length b) ≡ true → Held hall_fields b
    unfolding first_block
    fields-held v = record { long = l; block = first_block; valid = v }

    by-rules : is_stored b ≡ hall_fields.valid (take stored_length b) && cross_rules (raw b)
    unfolding is_stored holds hall_form guarded value_of
    by-rules = rw (le-leb stored_length (length b) l, are_bytes-of (take stored_length b) first_block.byte)

    pub stored-range : hall_fields.valid (take stored_length b) ≡ false → is_stored b ≡ false
    stored-range v = by-rules ∙ ap (λ (t : Bool). t && cross_rules (raw b)) v

    pub stored-cross : hall_fields.valid (take stored_length b) ≡ true → is_stored b ≡ cross_rules (raw b)
    stored-cross v = by-rules ∙ ap (λ (t : Bool). t && cross_rules (raw b)) v
