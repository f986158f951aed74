-- Laws of specs/Opened. Assumes nothing.
use Prim.Native.Nat.{ℕ, suc, ◌+◌, ◌-◌, ◌*◌, ◌^◌, ◌≤◌, ◌<◌}
use native.Mathlib.Omega.{arith}
use native.Mathlib.Numerals.{add-one}
use mathlib.Core.Path.{◌≡◌, refl, sym, ap, ap₂, ◌∙◌}
use mathlib.Core.Bool.{Bool, true, false, ◌&&◌, ◌||◌, or-false}
use mathlib.Core.List.{List, [], ◌∷◌, ◌++◌, map, append_assoc, append-nil}
use borrow.Author.Tests.{ne_eqb, ltb-false}
use lib.ListN.{length, get_or, take, drop, length-append, length-map, length-replicate, replicate-append-replicate}
use lib.Seq.{sets, sets-eq, length-sets, take-suc, length-take-le}
use Rattle.base.specs.Update.{upd}
use Rattle.base.specs.Numbers.{numbers, up_to}
use Rattle.base.specs.Lists.{filter, has, rising}
use Rattle.base.proofs.NumbersLaws.{length-numbers, up_to-numbers}
use Rattle.base.proofs.ListsLaws.{has_there, has-append, has-filter, has-none}
use Rattle.base.proofs.UpdateLaws.{upd_same, upd-ext}
use Rattle.base.proofs.ChainsLaws.{chain-none, not-refused}
use Rattle.quorum.specs.Sets.{in_mask, members}
use Rattle.quorum.specs.Votes.{row_of}
use Rattle.quorum.proofs.VoteLaws.{Right, row_listed}
use Rattle.quorum.proofs.SetLaws.{has-members, members-range, members-nonempty, rising-members}
use Rattle.model.specs.Hall.{max_entries, max_sequence, max_buffer, max_order, max_views, max_number, max_recorders, Queued, normal, Hall}
use Rattle.model.specs.Fields.{set_service, set_high}
use Rattle.model.specs.Service.{createview}
use Rattle.model.specs.Opening.{Opening, open_refusal, founder_mask, founder_set, no_entries, no_summaries, first_view, open_service, open_recorders, open_hall, opened}
use Rattle.codec.specs.Bytes.{zeros}
use Rattle.codec.specs.Form.{Form, mapped, renamed, guarded}
use Rattle.codec.specs.Number.{digits, number, byte, flag}
use Rattle.codec.specs.Pair.{given}
use Rattle.codec.specs.Cells.{encode_all, cells}
use Rattle.codec.specs.Table.{table, flags}
use Rattle.codec.proofs.BytesLaws.{sets-append}
use Rattle.codec.proofs.NumberLaws.{digits-byte}
use Rattle.codec.proofs.Blank.{Blank, blank-number, blank-flag, blank-given, blank-cells, blank-bounded}
use Rattle.codec.proofs.TableLaws.{all-keys}
use Rattle.codec.proofs.SliceLaws.{sets-append-left}
use Rattle.store.specs.Layout.{stored_length, recorders_at, recorder_size, number_size, word_size, views_at, view_cells, view_sets, votes_at, entries_size, recorders_size, network_size, queues_size}
use Rattle.store.specs.Valid.{InRange}
use Rattle.store.specs.Cells.{entry_at, RecorderCell, blank_recorder, recorder_at, blank_endpoint, blank_entry, endpoint_at, EndpointCell}
use Rattle.store.specs.CellForms.{view_number, entry_list, phase_form, entry_form, recorder_form, endpoint_form, queue_form, vote_form}
use Rattle.store.specs.Masks.{set_form}
use Rattle.store.specs.ViewForm.{view_form, view_list, views_form}
use Rattle.store.specs.HallForm.{entries_form, recorders_form, row_form, network_form, queues_form, votes_form, body_form, after_size, fields, from_hall, views_of, hall_fields, hall_form}
use Rattle.store.specs.StoredForm.{stored}
use Rattle.store.proofs.CellFormsLaws.{recorder-lawful}
use Rattle.store.proofs.HallFormLaws.{hall_fields-lawful}
use Rattle.store.proofs.Ranges.{recorder-ok}
use Rattle.store.proofs.HallOk.{fields-ok}
use Rattle.store.proofs.Pieces.{recorder-piece}
use Rattle.store.proofs.VotePieces.{wide}
use Rattle.store.proofs.Puts.{recorder_of, endpoint_of, with_cells, put_recorder}
use Rattle.store.proofs.Growth.{form-bytes}
use Rattle.store.proofs.KeepFacts.{Between}
use Rattle.store.proofs.KeepEntries.{not-empty}
use Rattle.store.proofs.KeepRules.{valid-of}
use Rattle.store.proofs.KeepValid.{start-facts, first-views, open-facts, opening-in, founder-mask-in, opening-taken}
use Rattle.store.proofs.ViewFormLaws.{view-bytes}
use Rattle.calls.specs.Calls.{open_number}
use Rattle.hall.proofs.Writes.{write-piece}
use Rattle.opening.specs.Opened.{hall_with, begun, start_of, vote_bytes, Taken}

-- ## Halls on the way

-- a hall of n recorders with their votes, and nothing else
unfoldable pub blank_hall : ℕ → List ℕ → Hall
blank_hall n row = hall_with n (row_of row) [] (λ g. []) []

pub begun_opened : (o : Opening) → begun o.size o.row (founder_mask o.founders) o.size ≡ opened o
unfolding begun hall_with opened founder_set open_hall open_service
begun_opened o = refl

pub begun-none : (n : ℕ) (row : List ℕ) (m : ℕ)
    → set_service (createview 1 (members n m) (blank_hall n row).service) (blank_hall n row) ≡ begun n row m 0
unfolding begun hall_with blank_hall createview open_service members up_to filter
begun-none n row m = refl

-- one recorder more
members-other : (k m q : ℕ) → (q ≡ suc k → ⊥) → has (members (suc k) m) q ≡ has (members k m) q
unfolding members up_to has
members-other k m q ne =
    has-filter (in_mask m) (up_to (suc k)) q
    ∙ ap (λ (t : Bool). t && in_mask m q) (has-append (up_to k) (suc k ∷ []) q ∙ ap (λ (t : Bool). has (up_to k) q || t) (has_there (suc k) [] q (ne_eqb q (suc k) ne)) ∙ or-false (has (up_to k) q))
    ∙ sym (has-filter (in_mask m) (up_to k) q)

-- a recorder that starts, by whether it is a founder
starting : Bool → RecorderCell
starting t = let g : ℕ = elim t [ true ↦ 1 | false ↦ 0 ] in recorder_at (λ r. g) (set_high (λ r. g) (open_recorders [])) 0

pub begun_more : (n : ℕ) (row : List ℕ) (m k : ℕ) → k < n → begun n row m (suc k) ≡ put_recorder (suc k) (start_of n m (suc k)) (begun n row m k)
unfolding begun hall_with put_recorder recorder_at endpoint_at open_hall open_service open_recorders first_view starting
begun_more n row m k h =
    let r = suc k in
    let b = begun n row m k in
    let cells : recorder_of (begun n row m r) ≡ upd (recorder_of b) r (start_of n m r) =
    upd-ext (recorder_of b) (recorder_of (begun n row m r)) r (start_of n m r)
    (ap starting (has-members r m r (omega arith) (omega arith) ∙ sym (has-members n m r (omega arith) h)))
    (λ q ne. ap starting (members-other k m q ne)) in
    λ i. with_cells b (views_of b) (cells i) (endpoint_of b) b.service.queue

-- ## The bytes of a blank hall

-- zero bytes before others
zeros-then : {A B : Type 0} {m n : ℕ} (k : ℕ) (more : List ℕ) (H : Form A m) (G : A → Form B n) (a : A) (b : B)
    → Blank H a → (G a).encode b ≡ zeros k ++ more → (given H G).encode (a, b) ≡ zeros (m + k) ++ more
unfolding given
zeros-then {m} k more H G a b e f =
    ap₂ ◌++◌ e f ∙ sym (append_assoc (zeros m) (zeros k) more) ∙ ap (λ (z : List ℕ). z ++ more) (replicate-append-replicate m k 0)

-- a table whose values are blank
blank-table : {A : Type 0} {k : ℕ} (F : Form A k) (ks : List ℕ) (n : ℕ) (d : A) (f : ℕ → A)
    → length ks ≤ n → ((j : ℕ) → has ks j ≡ true → Blank F (f j)) → Blank (table F ks n d) f
unfolding table mapped
blank-table F ks n d f h e =
    let l = length-map ks f in
    ap (λ (m : ℕ). (cells F m n).encode (map f ks)) (sym l)
    ∙ blank-cells F n (map f ks) (omega (arith, l)) (all-keys (Blank F) f ks e)

blank-numbered : {A : Type 0} {k : ℕ} (F : Form A k) (n most : ℕ) (d : A) (f : ℕ → A)
    → n ≤ most → ((j : ℕ) → Blank F (f j)) → Blank (table F (numbers 1 n) most d) f
blank-numbered F n most d f h e = blank-table F (numbers 1 n) most d f (omega (arith, length-numbers 1 n)) (λ j k. e j)

no-flags : (n : ℕ) → Blank (flags n) (λ j. false)
unfolding flags
no-flags n = blank-numbered flag n n false (λ j. false) (omega arith) (λ j. blank-flag)

recorder-zeros : Blank recorder_form blank_recorder
unfolding recorder_form renamed mapped phase_form view_number entry_list blank_recorder
recorder-zeros =
    blank-given view_number _ 0 _ (blank-number 4 0 0 max_number)
    (blank-given phase_form _ normal _ (blank-number 1 0 0 2)
    (blank-given _ _ 1 _ (blank-number 1 1 1 (max_sequence + 1))
    (blank-given (entry_list max_buffer) _ [] _ (blank-bounded (byte 1 max_entries) max_buffer)
    (blank-given (entry_list max_order) _ [] _ (blank-bounded (byte 1 max_entries) max_order)
    (blank-given _ _ 1 _ (blank-number 1 1 1 (max_order + 1))
    (blank-given _ _ 1 _ (blank-number 1 1 1 (max_order + 1))
    (blank-given view_number _ 0 _ (blank-number 4 0 0 max_number)
    (blank-given (flags max_entries) _ _ _ (no-flags max_entries)
    (blank-given (flags max_entries) _ _ _ (no-flags max_entries)
    (blank-given (flags max_recorders) _ _ _ (no-flags max_recorders) (no-flags max_recorders)))))))))))

module _ (n : ℕ) (size : Between 1 max_recorders n) where
  -- the views and the tables of a blank hall are zero bytes alone
  blank-views : Blank (views_form n) ([], λ g. [])
  unfolding views_form view_list mapped guarded
  blank-views = blank-bounded (view_form n) max_views

  blank-entries : Blank (entries_form n) (0, entry_at no_entries)
  unfolding entries_form numbers
  blank-entries =
      blank-given (byte 0 max_entries) (λ m. table (entry_form n) (numbers 1 m) max_entries blank_entry) 0 (entry_at no_entries) (blank-number 1 0 0 max_entries)
      (blank-table (entry_form n) [] max_entries blank_entry (entry_at no_entries) (omega arith) (λ e k. absurd (has-none e k)))

  blank-recorders : Blank (recorders_form n) (recorder_at (first_view []) (open_recorders []))
  unfolding recorders_form recorder_at open_recorders first_view has blank_recorder
  blank-recorders = blank-numbered recorder_form n max_recorders blank_recorder _ size.1 (λ r. recorder-zeros)

  blank-network : (f : ℕ → ℕ → EndpointCell) → Blank (network_form n []) f
  unfolding network_form row_form
  blank-network f =
      blank-numbered (row_form []) n max_recorders (λ g. blank_endpoint) f size.1
      (λ p. blank-table endpoint_form [] max_views blank_endpoint (f p) (omega arith) (λ g k. absurd (has-none g k)))

  blank-queues : (f : ℕ → List Queued) → Blank (queues_form []) f
  unfolding queues_form
  blank-queues f = blank-table queue_form [] max_views [] f (omega arith) (λ g k. absurd (has-none g k))

  module _ (row : List ℕ) where
    blank-rest : (after_size n).encode (from_hall (blank_hall n row)).1 ≡ zeros (votes_at - 1) ++ (votes_form n).encode (row_of row)
    unfolding after_size body_form blank_hall hall_with open_hall open_service no_entries
    blank-rest =
        let more = (votes_form n).encode (row_of row) in
        zeros-then (entries_size + (recorders_size + (network_size + queues_size))) more (views_form n) (body_form n) ([], λ g. []) _ blank-views
        (zeros-then (recorders_size + (network_size + queues_size)) more (entries_form n) _ (0, entry_at no_entries) _ blank-entries
        (zeros-then (network_size + queues_size) more (recorders_form n) _ (recorder_at (first_view []) (open_recorders [])) _ blank-recorders
        (zeros-then queues_size more (network_form n []) _ (endpoint_at (blank_hall n row).service no_summaries) _ (blank-network _)
        (zeros-then 0 more (queues_form []) _ _ (row_of row) (blank-queues _) refl))))

    pub blank-bytes : stored (blank_hall n row) ≡ n ∷ (zeros (votes_at - 1) ++ (votes_form n).encode (row_of row))
    unfolding stored hall_form guarded hall_fields renamed mapped fields given number blank_hall hall_with open_hall
    blank-bytes =
        let e : n - 0 ≡ n = omega arith in
        ap₂ (λ (x y : List ℕ). x ++ y) (ap (digits 1) e ∙ digits-byte n (omega (arith, size.1))) blank-rest

-- ## The votes

vote-digits : (row : List ℕ) → encode_all vote_form row ≡ vote_bytes row
unfolding encode_all vote_bytes vote_form number
vote-digits [] = refl
vote-digits (v ∷ vs) =
    let e : v - 0 ≡ v = omega arith in
    ap₂ (λ (w : ℕ) (z : List ℕ). digits word_size w ++ z) e (vote-digits vs)

-- eight votes that 41 takes are the form's bytes
row-bytes : (n : ℕ) (row : List ℕ) → n ≤ max_recorders → Right n (row_of row) → length row ≡ max_recorders
    → vote_bytes row ≡ (votes_form n).encode (row_of row)
unfolding votes_form table mapped cells numbers
row-bytes n row h r eight =
    let e : n + (max_recorders - n) ≡ max_recorders = omega arith in
    let all : map (row_of row) (numbers 1 max_recorders) ≡ row =
    ap (map (row_of row)) (sym (up_to-numbers max_recorders)) ∙ ap (λ (k : ℕ). map (row_of row) (up_to k)) (sym eight) ∙ row_listed row in
    sym
    (wide (row_of row) n (max_recorders - n) (omega arith) r.none_above
    ∙ ap (λ (k : ℕ). (votes_form k).encode (row_of row)) e
    ∙ append-nil (encode_all vote_form (map (row_of row) (numbers 1 max_recorders)))
    ∙ ap (encode_all vote_form) all
    ∙ vote-digits row)

vote-length : (row : List ℕ) → length (vote_bytes row) ≡ length row * word_size
unfolding vote_bytes digits
vote-length [] = refl
vote-length (v ∷ vs) = omega (arith, vote-length vs)

vote-append : (xs ys : List ℕ) → vote_bytes (xs ++ ys) ≡ vote_bytes xs ++ vote_bytes ys
unfolding vote_bytes
vote-append [] ys = refl
vote-append (v ∷ vs) ys = ap (λ (z : List ℕ). digits word_size v ++ z) (vote-append vs ys) ∙ sym (append_assoc (digits word_size v) (vote_bytes vs) (vote_bytes ys))

-- one vote more is written
pub vote-step : (l : List ℕ) (o : ℕ) (row : List ℕ) (i : ℕ) (b : List ℕ) → i < length row → b ≡ sets l o (vote_bytes (take i row))
    → sets b (o + i * word_size) (digits word_size (get_or row i 0)) ≡ sets l o (vote_bytes (take (i + 1) row))
unfolding vote_bytes
vote-step l o row i b h e =
    let v : ℕ = get_or row i 0 in
    let xs : List ℕ = take i row in
    let len : length (vote_bytes xs) ≡ i * word_size = vote-length xs ∙ ap (λ (n : ℕ). n * word_size) (length-take-le i row (omega arith)) in
    let more : take (i + 1) row ≡ xs ++ (v ∷ []) = ap (λ (n : ℕ). take n row) (add-one i) ∙ take-suc row i 0 h in
    let one : vote_bytes (xs ++ (v ∷ [])) ≡ vote_bytes xs ++ digits word_size v =
    vote-append xs (v ∷ []) ∙ ap (λ (z : List ℕ). vote_bytes xs ++ z) (append-nil (digits word_size v)) in
    ap (λ (z : List ℕ). sets z (o + i * word_size) (digits word_size v)) e
    ∙ sym
    (ap (sets l o) (ap vote_bytes more ∙ one)
    ∙ sets-append l o (vote_bytes xs) (digits word_size v)
    ∙ ap (λ (k : ℕ). sets (sets l o (vote_bytes xs)) (o + k) (digits word_size v)) len)

-- ## The writes

-- zeros up to len, more bytes, and then the first byte
first_byte : (b : List ℕ) (len m x : ℕ) (more : List ℕ) → len ≡ suc m → len + length more ≤ length b
    → sets (sets (sets b 0 (zeros len)) len more) 0 (x ∷ []) ≡ (x ∷ (zeros m ++ more)) ++ drop (len + length more) b
first_byte b len m x more e h =
    let zs : 0 + length (zeros len) ≡ len = omega (arith, length-replicate {A = ℕ} len 0) in
    let all : 0 + length (zeros len ++ more) ≡ len + length more = simp length-append (omega (arith, length-replicate {A = ℕ} len 0)) in
    ap (λ (z : List ℕ). sets z 0 (x ∷ []))
    (ap (λ (o : ℕ). sets (sets b 0 (zeros len)) o more) (sym zs)
    ∙ sym (sets-append b 0 (zeros len) more)
    ∙ sets-eq (zeros len ++ more) b 0 (omega (arith, all))
    ∙ ap (λ (k : ℕ). (zeros len ++ more) ++ drop k b) all)
    ∙ ap (λ (k : ℕ). sets ((zeros k ++ more) ++ drop (len + length more) b) 0 (x ∷ [])) e

module _ (n : ℕ) (row : List ℕ) (m : ℕ) (size : Between 1 max_recorders n) (right : Right n (row_of row)) (some_one : 1 ≤ m) (fits : m < 2 ^ n) where
  not_none : members n m ≡ [] → ⊥
  not_none = let k = members-nonempty n m fits some_one in not-empty (members n m) k.0 k.1

  blank-range : InRange (blank_hall n row)
  unfolding blank_hall rising hall_with
  blank-range =
      (valid-of _
      (start-facts n (row_of row) [] (λ g. []) [] size right
      (record {
        at_most = omega arith;
        rises = refl;
        number_in = λ g t. absurd (has-none g t);
        set_rises = λ g. refl;
        set_in = λ g p t. absurd (has-none p t);
        not_empty = λ g t. absurd (has-none g t);
        blank = λ g t. refl;
      })
      (λ r t. absurd (has-none r t)))).in_range

  begun_ok : (k : ℕ) → k ≤ n → hall_fields.ok (begun n row m k)
  unfolding begun hall_with
  begun_ok k h =
      (fields-ok (begun n row m k)).0
      (valid-of _
      (start-facts n (row_of row) (1 ∷ []) (upd (λ g. []) 1 (members n m)) (members k m) size right
      (first-views n (row_of row) (members n m) size right (rising-members n m) (members-range n m) not_none)
      (λ r t.
      let i = members-range k m r t in
      ap (λ xs. has xs r) (upd_same (λ g. []) 1 (members n m))
      ∙ has-members n m r i.0 (omega arith) ∙ sym (has-members k m r i.0 i.1) ∙ t))).in_range

  -- recorder r as it starts
  start-ok : (r : ℕ) → 1 ≤ r → r ≤ n → recorder_form.ok (start_of n m r)
  unfolding open_hall open_service
  start-ok r low high =
      (recorder-ok _ _ r).0 ((valid-of _ (open-facts n (row_of row) (members n m) size right (rising-members n m) (members-range n m) not_none)).in_range.recorder r low high)

  blank-length : length (stored (blank_hall n row)) ≡ stored_length
  unfolding stored hall_form guarded
  blank-length = (hall_fields-lawful.stored (blank_hall n row) ((fields-ok (blank_hall n row)).0 blank-range)).len

  formed : stored (begun n row m 0) ≡ sets (sets (stored (blank_hall n row)) view_cells ((view_form n).encode (1, members n m))) views_at (digits 1 1)
  unfolding stored hall_form guarded view_form given number set_form mapped blank_hall hall_with open_hall digits has
  formed =
      ap hall_fields.encode (sym (begun-none n row m))
      ∙ form-bytes (blank_hall n row) blank-range 1 refl (omega arith) (members n m)
      ((omega arith, omega arith), ((rising-members n m, members-range n m), not_none))

  -- forming view 1: its cell, and the count
  form-first : (rest : List ℕ)
      → sets (sets (sets (stored (blank_hall n row) ++ rest) view_cells (digits number_size 1)) view_sets (digits 1 m)) views_at (digits 1 1) ≡ stored (begun n row m 0) ++ rest
  unfolding digits
  form-first rest =
      let x = (view_form n).encode (1, members n m) in
      let s = stored (blank_hall n row) in
      let view : view_cells + length x ≤ length s = omega (arith, ap length (view-bytes n 1 m fits), blank-length) in
      let count : views_at + length (digits 1 1) ≤ length (sets s view_cells x) = omega (arith, length-sets s view_cells x, blank-length) in
      ap (λ (z : List ℕ). sets z views_at (digits 1 1))
      (sym (sets-append (s ++ rest) view_cells (digits number_size 1) (digits 1 m)) ∙ ap (sets (s ++ rest) view_cells) (sym (view-bytes n 1 m fits)) ∙ sets-append-left s rest view_cells x view)
      ∙ sets-append-left (sets s view_cells x) rest views_at (digits 1 1) count
      ∙ ap (λ (z : List ℕ). z ++ rest) (sym formed)

  -- the hall with view 1 and no recorder started: zeros, the votes, N, the view's number and mask, the count
  pub begin-bytes : (b : List ℕ) (len : ℕ) → len ≡ votes_at → length row ≡ max_recorders → stored_length ≤ length b
      → sets (sets (sets (sets (sets (sets b 0 (zeros len)) len (vote_bytes row)) 0 (digits 1 n)) view_cells (digits number_size 1)) view_sets (digits 1 m)) views_at (digits 1 1)
      ≡ stored (begun n row m 0) ++ drop stored_length b
  begin-bytes b len e eight h =
      let bytes : length (vote_bytes row) ≡ max_recorders * word_size = vote-length row ∙ ap (λ (k : ℕ). k * word_size) eight in
      let end : len + length (vote_bytes row) ≡ stored_length = omega arith in
      ap (λ (z : List ℕ). sets (sets (sets z view_cells (digits number_size 1)) view_sets (digits 1 m)) views_at (digits 1 1))
      (ap (sets (sets (sets b 0 (zeros len)) len (vote_bytes row)) 0) (digits-byte n (omega (arith, size.1)))
      ∙ first_byte b len (votes_at - 1) n (vote_bytes row) e (omega arith)
      ∙ ap₂ (λ (z : List ℕ) (k : ℕ). (n ∷ (zeros (votes_at - 1) ++ z)) ++ drop k b) (row-bytes n row size.1 right eight) end
      ∙ ap (λ (z : List ℕ). z ++ drop stored_length b) (sym (blank-bytes n size row)))
      ∙ form-first (drop stored_length b)

  -- recorder k + 1 starts: its cell is written
  pub start-bytes : (k : ℕ) → k < n → (rest : List ℕ)
      → sets (stored (begun n row m k) ++ rest) (recorders_at + k * recorder_size) (recorder_form.encode (start_of n m (k + 1)))
      ≡ stored (begun n row m (k + 1)) ++ rest
  unfolding begun hall_with open_hall
  start-bytes k h rest =
      let more : k + 1 ≡ suc k = add-one k in
      let last : k ≡ suc k - 1 = omega arith in
      ap₂ (λ (i r : ℕ). sets (stored (begun n row m k) ++ rest) (recorders_at + i * recorder_size) (recorder_form.encode (start_of n m r))) last more
      ∙ write-piece (begun n row m k) (begun_ok k (omega arith)) rest recorder-lawful (recorder-piece (suc k)) (omega arith, h)
      (start_of n m (suc k)) (start-ok (suc k) (omega arith) h)
      ∙ ap (λ (g : Hall). stored g ++ rest) (sym (begun_more n row m k h) ∙ ap (begun n row m) (sym more))

module _ (b : List ℕ) (o : Opening) where
  -- an opening that is not refused
  pub taken : open_number b o ≡ 0 → Taken o.size o.row (founder_mask o.founders) b
  unfolding open_number
  taken z =
      let both = chain-none (open_refusal o) _ z in
      record { size = (opening-in o both.0).0; votes = opening-taken o both.0; founders = founder-mask-in o both.0; long = ltb-false (length b) stored_length (not-refused _ _ both.1) }
