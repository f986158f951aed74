-- Laws of specs/RawHall. Assumes nothing.
use Prim.Native.Nat.{ℕ, ◌+◌, ◌-◌, ◌*◌, ◌/◌, ◌%◌, ◌^◌, ◌≤◌, ◌<◌}
use native.Mathlib.Omega.{arith}
use native.Mathlib.Nat.{div-eq_of_lt}
use mathlib.Core.Path.{◌≡◌, refl, sym, ap, subst, ◌∙◌, fun_ext}
use mathlib.Core.Logic.{⊎_elim}
use mathlib.Core.Bool.{true, false, not, ◌&&◌, and-false}
use mathlib.Core.List.{List}
use lib.Dec.{eqb, ltb}
use lib.Pow.{pow_pos}
use lib.ListN.{length, get_or, length-take, length-drop}
use borrow.Author.Tests.{eqb-true, eqb-false, ltb-true, ltb-false, lt-ltb, le-ltb}
use Rattle.base.specs.Numbers.{numbers, up_to}
use Rattle.base.specs.Lists.{has}
use Rattle.base.proofs.Bools.{by_cases, not-both}
use Rattle.base.proofs.ListsLaws.{has-filter, key_has}
use Rattle.quorum.specs.Sets.{members, in_mask}
use Rattle.quorum.specs.Votes.{total}
use Rattle.quorum.proofs.VoteLaws.{total-at, total-none}
use Rattle.model.specs.Hall.{max_entries, max_recorders, max_views}
use Rattle.codec.specs.Bytes.{part, zeros, all_zero}
use Rattle.codec.specs.Form.{mapped, renamed}
use Rattle.codec.specs.Number.{value, number, byte}
use Rattle.codec.specs.Pair.{pair}
use Rattle.codec.specs.Slice.{Held, value_of}
use Rattle.codec.specs.Table.{index_of, table}
use Rattle.codec.proofs.BytesLaws.{all_zero-eq, all_zero-replicate}
use Rattle.codec.proofs.Blank.{blank-decode}
use Rattle.codec.proofs.SliceLaws.{value-ok, slice-value, slice-bytes}
use Rattle.codec.proofs.TableLaws.{key-index, all-keys}
use Rattle.store.specs.Layout.{stored_length, entry_cells, entry_size, number_size, word_size, view_set_at, view_size, payload_size, entry_payload_at, views_at, view_cells, entries_at, views_size, votes_at, votes_size}
use Rattle.store.specs.Valid.{InRange, some_votes}
use Rattle.store.specs.Cells.{blank_entry, entry_at}
use Rattle.store.specs.CellForms.{entry_form, vote_form}
use Rattle.store.specs.ViewForm.{views_form}
use Rattle.store.specs.HallForm.{entries_form, recorders_form, network_form, queues_form, votes_form, body_form, after_size, fields, hall_fields}
use Rattle.store.proofs.CellFormsLaws.{entry-lawful}
use Rattle.store.proofs.ViewFormLaws.{view-lawful, rising-distinct}
use Rattle.store.proofs.HallFormLaws.{votes-lawful, hall_fields-lawful}
use Rattle.store.proofs.HallOk.{fields-ok}
use Rattle.store.proofs.Pieces.{entry-piece, votes-view}
use Rattle.store.proofs.KeepFacts.{inside?}
use Rattle.store.proofs.VoteRows.{votes-zeros}
use Rattle.store.proofs.ViewPieces.{view-view}
use Rattle.ranges.specs.TableParts.{view_numbers, view_at, Found}
use Rattle.ranges.proofs.Parts.{given-value, byte-in}
use Rattle.ranges.proofs.CellPartsLaws.{entry_value}
use Rattle.ranges.proofs.TablePartsLaws.{length-view_numbers, nth-view, found_none, views-count, views-created, whole_parts}
use Rattle.validity.specs.RawHall.{raw, size_at, view_count, entry_count, set_at, Ranged}
use Rattle.validity.proofs.Values.{byte-value, view-value}

pub set-in : (b : List ℕ) (i : ℕ) → i < view_count b → set_at b i ≡ get_or b (view_cells + i * view_size + view_set_at) 0
unfolding set_at
set-in b i h = rw (lt-ltb i (view_count b) h, set_at)

pub set_out : (b : List ℕ) (i : ℕ) → view_count b ≤ i → set_at b i ≡ 0
unfolding set_at
set_out b i h = rw (le-ltb i (view_count b) h, set_at)

pub no-members : (n q : ℕ) → has (members n 0) q ≡ false
unfolding members in_mask
no-members n q =
    let z : 0 / 2 ^ (q - 1) ≡ 0 = div-eq_of_lt (pow_pos (q - 1)) in
    has-filter (in_mask 0) (up_to n) q ∙ ap (λ (d : ℕ). has (up_to n) q && eqb (d % 2) 1) z ∙ and-false (has (up_to n) q)

module _ (b : List ℕ) (K : Held hall_fields b) where
  pub long : stored_length ≤ length b
  long = K.long

  pub in-range : InRange (raw b)
  in-range = (fields-ok (raw b)).1 (value-ok hall_fields hall_fields-lawful b K)

  pub size_in : (1 ≤ size_at b) × (size_at b ≤ max_recorders)
  size_in = byte-in 1 max_recorders 0 b (omega (arith, long)) (whole_parts b long K.valid).0

  pub views-in : view_count b ≤ max_views
  views-in = views-count (size_at b) b (omega (arith, long)) (whole_parts b long K.valid).1

  -- N, the count of entries and the numbers of the views
  d : ℕ
  d = (byte 1 max_recorders).decode (part 0 1 b)

  size-value : d ≡ size_at b
  unfolding d
  size-value = byte-value 1 max_recorders 0 b (omega (arith, long))

  pub raw-size : (raw b).size ≡ size_at b
  unfolding value_of hall_fields renamed mapped fields d
  raw-size = ap (λ t. t.0) (given-value (byte 1 max_recorders) after_size 0 b) ∙ size-value

  pub raw-created : (raw b).service.created ≡ view_numbers (view_count b) 2 b
  unfolding value_of hall_fields renamed mapped fields d after_size
  raw-created =
      ap (λ t. t.1.0.0) (given-value (byte 1 max_recorders) after_size 0 b)
      ∙ ap (λ t. t.0.0) (given-value (views_form d) (body_form d) 1 b)
      ∙ views-created d b (omega (arith, long)) views-in

  pub raw-count : (raw b).entries.count ≡ entry_count b
  unfolding value_of hall_fields renamed mapped fields d after_size body_form entries_form
  raw-count =
      let v = (views_form d).decode (part views_at views_size b) in
      ap (λ t. t.1.1.0.0) (given-value (byte 1 max_recorders) after_size 0 b)
      ∙ ap (λ t. t.1.0.0) (given-value (views_form d) (body_form d) 1 b)
      ∙ ap (λ t. t.0.0) (given-value (entries_form d) (λ a. pair (recorders_form d) (pair (network_form d v.0) (pair (queues_form v.0) (votes_form d)))) entries_at b)
      ∙ ap (λ t. t.0) (given-value (byte 0 max_entries) (λ m. table (entry_form d) (numbers 1 m) max_entries blank_entry) entries_at b)
      ∙ byte-value 0 max_entries entries_at b (omega (arith, long))

  pub count-in : entry_count b ≤ max_entries
  count-in = subst (λ (c : ℕ). c ≤ max_entries) raw-count in-range.entries.at_most

  -- entry e
  pub raw-entry : (e : ℕ) → 1 ≤ e → e ≤ entry_count b → entry_at (raw b).entries e
      ≡ record {
        sender = get_or b (entry_cells + (e - 1) * entry_size) 0;
        payload = record { value = value (part (entry_cells + (e - 1) * entry_size + entry_payload_at) word_size b) };
        label_view = value (part (entry_cells + (e - 1) * entry_size + entry_payload_at + payload_size) number_size b);
        label_seq = get_or b (entry_cells + (e - 1) * entry_size + entry_payload_at + payload_size + number_size) 0;
      }
  raw-entry e l u =
      let n = size_at b in
      let c = count-in in
      sym (slice-value hall_fields-lawful (entry-lawful n (omega (arith, size_in.1))) b K (raw-size, l, subst (λ (m : ℕ). e ≤ m) (sym raw-count) u) (entry-piece n e).view)
      ∙ entry_value n (entry_cells + (e - 1) * entry_size) b (omega (arith, long))

  -- the view at index i
  module _ (i : ℕ) (l : i < view_count b) where
    created-length : length (raw b).service.created ≡ view_count b
    created-length = ap length raw-created ∙ length-view_numbers (view_count b) 2 b

    created-nth : get_or (raw b).service.created i 0 ≡ view_at b i
    created-nth = ap (λ (xs : List ℕ). get_or xs i 0) raw-created ∙ nth-view (view_count b) 2 i b l

    inside : i < length (raw b).service.created
    inside = subst (λ (m : ℕ). i < m) (sym created-length) l

    pub view-formed : has (raw b).service.created (view_at b i) ≡ true
    view-formed = ap (has (raw b).service.created) (sym created-nth) ∙ key_has (raw b).service.created i inside

    pub view-index : index_of (raw b).service.created (view_at b i) ≡ i
    view-index =
        ap (index_of (raw b).service.created) (sym created-nth)
        ∙ key-index (raw b).service.created i (rising-distinct (raw b).service.created in-range.views.rises) inside

    pub view-members : (raw b).service.members (view_at b i) ≡ members (size_at b) (get_or b (view_cells + i * view_size + view_set_at) 0)
    view-members =
        let n = size_at b in
        let c = views-in in
        let w = slice-value hall_fields-lawful (view-lawful n size_in.1) b K (raw-size, inside) (view-view n size_in.1 i) in
        let o : view_cells + i * view_size + view_size ≤ length b = omega (arith, long) in
        ap (raw b).service.members (sym created-nth)
        ∙ ap (λ (p : ℕ × List ℕ). p.1) (sym w ∙ view-value n (view_cells + i * view_size) b o)

  -- the members of the view g, where g stands at index i or at none
  pub found-members : (g i : ℕ) → Found (view_count b) b g i → (q : ℕ) → has ((raw b).service.members g) q ≡ has (members (size_at b) (set_at b i)) q
  unfolding set_at has
  found-members g i f q = by_cases (ltb i (view_count b)) formed unformed
    where
      formed : ltb i (view_count b) ≡ true → has ((raw b).service.members g) q ≡ has (members (size_at b) (set_at b i)) q
      formed t =
          let l = ltb-true i (view_count b) t in
          ap (λ (k : ℕ). has ((raw b).service.members k) q) (sym (f.here l))
          ∙ ap (λ (xs : List ℕ). has xs q) (view-members i l)
          ∙ ap (λ (z : ℕ). has (members (size_at b) z) q) (sym (set-in b i l))

      unformed : ltb i (view_count b) ≡ false → has ((raw b).service.members g) q ≡ has (members (size_at b) (set_at b i)) q
      unformed t =
          let l = ltb-false i (view_count b) t in
          ap (λ (xs : List ℕ). has xs q) (in-range.views.blank g (ap (λ (xs : List ℕ). has xs g) raw-created ∙ found_none (view_count b) b g i f l))
          ∙ sym (no-members (size_at b) q)
          ∙ ap (λ (z : ℕ). has (members (size_at b) z) q) (sym (set_out b i l))

-- the votes: their bytes are zeros just if no recorder has votes
module _ (b : List ℕ) (K : Held hall_fields b) where
  abbrev n : ℕ
  n = (raw b).size

  size-most : n ≤ max_recorders
  size-most = (in-range b K).size.1

  none-ok : (votes_form n).ok (λ r. 0)
  unfolding votes_form table mapped vote_form number
  none-ok =
      record {
        inside = all-keys vote_form.ok (λ r. 0) (numbers 1 n) (λ j k. (omega arith, omega arith));
        outside = λ j k. refl;
      }

  zeros-none : all_zero (part votes_at votes_size b) ≡ true → (raw b).votes ≡ (λ r. 0)
  zeros-none t =
      let L = votes-lawful n size-most in
      let fits : length (part votes_at votes_size b) ≡ votes_size = simp (length-take, length-drop) (omega (arith, K.long)) in
      sym (slice-value hall_fields-lawful L b K refl (votes-view n))
      ∙ ap (votes_form n).decode (all_zero-eq (part votes_at votes_size b) t ∙ ap zeros fits)
      ∙ blank-decode L (λ r. 0) none-ok (votes-zeros n size-most)

  none-zeros : total (raw b).votes n ≡ 0 → all_zero (part votes_at votes_size b) ≡ true
  none-zeros z =
      ap all_zero
      (slice-bytes hall_fields-lawful (votes-lawful n size-most) b K refl (votes-view n)
      ∙ ap (votes_form n).encode (fun_ext none)
      ∙ votes-zeros n size-most)
      ∙ all_zero-replicate votes_size
    where
      none : (r : ℕ) → (raw b).votes r ≡ 0
      none r =
          ⊎_elim (λ i. omega (arith, total-at (raw b).votes n r i.0 i.1)) ((in-range b K).votes.blank r) (inside? n r)

  pub some-votes : not (all_zero (part votes_at votes_size b)) ≡ some_votes (raw b)
  unfolding some_votes
  some-votes =
      by_cases (all_zero (part votes_at votes_size b))
      (λ t. ap not t ∙ sym (ap (ltb 0) (ap (λ (f : ℕ → ℕ). total f n) (zeros-none t) ∙ total-none (λ r. 0) n (λ r. refl))))
      (λ f. ap not f ∙ sym (lt-ltb 0 (total (raw b).votes n) (positive f)))
    where
      positive : all_zero (part votes_at votes_size b) ≡ false → 0 < total (raw b).votes n
      positive f =
          by_cases (eqb (total (raw b).votes n) 0)
          (λ t. absurd (not-both (none-zeros (eqb-true (total (raw b).votes n) 0 t)) f))
          (λ g. omega (arith, eqb-false (total (raw b).votes n) 0 g))

pub ranged : (b : List ℕ) → Held hall_fields b → Ranged b
ranged b K = record { held = K; fits = long b K; size = (size_in b K).1; views = views-in b K; entries = count-in b K }
