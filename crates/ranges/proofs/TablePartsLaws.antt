-- Laws of specs/TableParts. Assumes nothing.
use Prim.Native.Nat.{ℕ, zero, suc, ◌+◌, ◌-◌, ◌*◌, ◌≤◌, ◌<◌}
use native.Mathlib.Omega.{arith}
use native.Mathlib.Nat.{not-suc-le-zero, le_of_suc-le-suc}
use mathlib.Core.Path.{◌≡◌, refl, sym, ap, ap₂, subst, ◌∙◌}
use mathlib.Core.Bool.{Bool, true, false, ◌&&◌, and-eq-true_iff}
use mathlib.Core.List.{List, ◌∷◌}
use lib.Dec.{leb, ltb, leb-zero}
use lib.ListN.{length, get_or, take, drop}
use lib.Seq.{drop-drop}
use borrow.Author.Tests.{leb-true, le-leb, lt-leb, lt-ltb, le-ltb}
use Rattle.std.specs.Prelude.{Option, None, Some, MatchOption}
use Rattle.std.specs.Option.{unwrap_or}
use Rattle.std.specs.List.{AllWithin, HoldsAt, range_with_len}
use Rattle.std.proofs.lemmas.List.FromFn.{length-range_with_len, get_or-range_with_len}
use Rattle.base.specs.Numbers.{numbers}
use Rattle.base.specs.Lists.{has, rising}
use Rattle.base.proofs.Bools.{by_cases}
use Rattle.base.proofs.NumbersLaws.{length-numbers}
use Rattle.model.specs.Hall.{max_entries, max_views, max_recorders}
use Rattle.codec.specs.Bytes.{part}
use Rattle.codec.specs.Form.{mapped, renamed, guarded}
use Rattle.codec.specs.Number.{value, number, byte}
use Rattle.codec.specs.Cells.{decode_all, cells}
use Rattle.codec.specs.Bounded.{bounded}
use Rattle.codec.specs.Table.{index_of, table}
use Rattle.codec.proofs.NumberLaws.{number-decode}
use Rattle.codec.proofs.TableLaws.{index-lt, index_key}
use Rattle.store.specs.Layout.{entry_cells, network_at, recorders_at, queues_at, votes_at, stored_length, number_size, view_size, entry_size, views_at, view_cells, entries_at, views_size, entries_size, recorders_size, network_size, queues_size, votes_size, body_size, rest_size}
use Rattle.store.specs.Cells.{blank_entry}
use Rattle.store.specs.CellForms.{entry_form, recorder_form, endpoint_form, queue_form, vote_form}
use Rattle.store.specs.ViewForm.{Views, view_form, numbers_of, numbers_rise, view_list, views_form}
use Rattle.store.specs.HallForm.{entries_form, recorders_form, row_form, network_form, queues_form, votes_form, body_form, after_size, fields, hall_fields}
use Rattle.ranges.specs.TableParts.{view_numbers, view_at, Found, tables_in}
use Rattle.ranges.proofs.Parts.{given-part, pair-part, given-value, byte-part}
use Rattle.ranges.proofs.Loops.{cells_same, bounded-part, bounded-over, bounded-within, bounded-value}

-- ## The formed views

pub length-view_numbers : (m o : ℕ) (b : List ℕ) → length (view_numbers m o b) ≡ m
unfolding view_numbers
length-view_numbers zero o b = refl
length-view_numbers (suc m) o b = ap suc (length-view_numbers m (o + view_size) b)

pub nth-view : (m o i : ℕ) (b : List ℕ) → i < m → get_or (view_numbers m o b) i 0 ≡ value (part (o + i * view_size) number_size b)
unfolding view_numbers
nth-view zero o i b h = absurd (not-suc-le-zero h)
nth-view (suc m) o zero b h =
    let e : o + 0 * view_size ≡ o = omega arith in
    ap (λ (j : ℕ). value (part j number_size b)) (sym e)
nth-view (suc m) o (suc i) b h =
    let e : o + view_size + i * view_size ≡ o + suc i * view_size = omega arith in
    nth-view m (o + view_size) i b (le_of_suc-le-suc h) ∙ ap (λ (j : ℕ). value (part j number_size b)) e

-- a view that is found at none of m indices is not among their numbers
module _ (m : ℕ) (b : List ℕ) (g : ℕ) where
  abbrev ks : List ℕ
  ks = view_numbers m view_cells b

  inside : has ks g ≡ true → index_of ks g < m
  inside t = omega (arith, index-lt ks g t, length-view_numbers m view_cells b)

  pub found_none : (i : ℕ) → Found m b g i → m ≤ i → has ks g ≡ false
  found_none i f h =
      by_cases (has ks g) (λ t. absurd (f.before (index_of ks g) (early t) (sym (nth-view m view_cells (index_of ks g) b (inside t)) ∙ index_key ks g t))) (λ t. t)
    where
      early : has ks g ≡ true → index_of ks g < i
      early t = omega (arith, inside t)

-- the indices below m, as a list: what holds of element j holds of j
index-range : (P : ℕ → Type 0) (m j : ℕ) → j < m → P (get_or (range_with_len 0 m) j 0) → P j
index-range P m j l p =
    let e : 0 + j ≡ j = omega arith in
    subst P (get_or-range_with_len 0 m j 0 l ∙ e) p

-- a search over them finds the first view g
pub found-first : (m : ℕ) (b : List ℕ) (g : ℕ) (r : Option ℕ)
    → MatchOption r (AllWithin (λ i. view_at b i ≡ g → ⊥) (range_with_len 0 m) 0 (length (range_with_len 0 m)))
    (λ i. (i < length (range_with_len 0 m)) × HoldsAt (λ i. view_at b i ≡ g) (range_with_len 0 m) i × AllWithin (λ i. view_at b i ≡ g → ⊥) (range_with_len 0 m) 0 i)
    → Found m b g (unwrap_or r m)
found-first m b g None h =
    let n = length-range_with_len 0 m in
    record {
      within = omega arith;
      here = λ l. absurd (omega arith);
      before = λ j l. index-range (λ i. view_at b i ≡ g → ⊥) m j l (h j 0 (omega arith) (omega (arith, n)));
    }
found-first m b g (Some i) h =
    let n = length-range_with_len 0 m in
    record {
      within = omega (arith, n, h.0);
      here = λ l. index-range (λ i. view_at b i ≡ g) m i l (h.1 0);
      before = λ j l. index-range (λ i. view_at b i ≡ g → ⊥) m j (omega (arith, n, h.0)) (h.2 j 0 (omega arith) l);
    }

-- the number of the view at offset o
view-number : (n o : ℕ) (b : List ℕ) → ((view_form n).decode (part o view_size b)).0 ≡ value (part o number_size b)
unfolding view_form number
view-number n o b =
    let e : value (part o number_size b) + 0 ≡ value (part o number_size b) = omega arith in
    ap (λ (p : ℕ × List ℕ). p.0) (given-value _ _ o b) ∙ e

pub numbers-of-views : (n m o : ℕ) (b : List ℕ) → numbers_of (decode_all (view_form n) m (drop o b)) ≡ view_numbers m o b
unfolding view_numbers decode_all
numbers-of-views n zero o b = refl
numbers-of-views n (suc m) o b =
    ap₂ ◌∷◌ (view-number n o b)
    (ap (λ (x : List ℕ). numbers_of (decode_all (view_form n) m x)) (drop-drop view_size o b) ∙ numbers-of-views n m (o + view_size) b)

-- a loop over the views: those from i on rise above the number before
module _ (m : ℕ) (b : List ℕ) where
  abbrev pub Rises : ℕ → ℕ → Type 0
  Rises i l = rising 0 (view_numbers m view_cells b) ≡ rising l (view_numbers (m - i) (view_cells + i * view_size) b)

  pub rises-start : Rises 0 0
  rises-start =
      let e : m - 0 ≡ m = omega arith in
      ap (λ (j : ℕ). rising 0 (view_numbers j view_cells b)) (sym e)

  next-view : (i l : ℕ) → i < m
      → rising l (view_numbers (m - i) (view_cells + i * view_size) b)
      ≡ ltb l (value (part (view_cells + i * view_size) number_size b)) && rising (value (part (view_cells + i * view_size) number_size b)) (view_numbers (m - (i + 1)) (view_cells + (i + 1) * view_size) b)
  unfolding view_numbers rising
  next-view i l h =
      let n : m - i ≡ suc (m - (i + 1)) = omega arith in
      let o : view_cells + i * view_size + view_size ≡ view_cells + (i + 1) * view_size = omega arith in
      let v : ℕ = value (part (view_cells + i * view_size) number_size b) in
      ap (λ (j : ℕ). rising l (view_numbers j (view_cells + i * view_size) b)) n
      ∙ ap (λ (j : ℕ). ltb l v && rising v (view_numbers (m - (i + 1)) j b)) o

  pub rises_next : (i l : ℕ) → i < m → l < value (part (view_cells + i * view_size) number_size b) → Rises i l → Rises (i + 1) (value (part (view_cells + i * view_size) number_size b))
  rises_next i l h k r =
      let v : ℕ = value (part (view_cells + i * view_size) number_size b) in
      r ∙ next-view i l h ∙ ap (λ (t : Bool). t && rising v (view_numbers (m - (i + 1)) (view_cells + (i + 1) * view_size) b)) (lt-ltb l v k)

  pub rises-fail : (i l : ℕ) → i < m → value (part (view_cells + i * view_size) number_size b) ≤ l → Rises i l → rising 0 (view_numbers m view_cells b) ≡ false
  rises-fail i l h k r =
      let v : ℕ = value (part (view_cells + i * view_size) number_size b) in
      r ∙ next-view i l h ∙ ap (λ (t : Bool). t && rising v (view_numbers (m - (i + 1)) (view_cells + (i + 1) * view_size) b)) (le-ltb l v k)

  pub rises-done : (i l : ℕ) → m ≤ i → Rises i l → rising 0 (view_numbers m view_cells b) ≡ true
  unfolding view_numbers rising
  rises-done i l h r =
      let z : m - i ≡ 0 = omega arith in
      r ∙ ap (λ (j : ℕ). rising l (view_numbers j (view_cells + i * view_size) b)) z

-- the table of views: a count, the cells, and the numbers rise
module _ (n : ℕ) (b : List ℕ) (h : entries_at ≤ length b) where
  views-parts : (views_form n).valid (part views_at views_size b)
      ≡ (bounded (view_form n) max_views).valid (part views_at views_size b) && rising 0 (numbers_of ((bounded (view_form n) max_views).decode (part views_at views_size b)))
  unfolding views_form mapped view_list guarded numbers_rise
  views-parts = refl

  pub views-fail : (bounded (view_form n) max_views).valid (part views_at views_size b) ≡ false → (views_form n).valid (part views_at views_size b) ≡ false
  views-fail e = views-parts ∙ rw e

  pub views-over : max_views < get_or b views_at 0 → (views_form n).valid (part views_at views_size b) ≡ false
  views-over l = views-fail (bounded-over (view_form n) max_views views_at b h l)

  pub views-count : (views_form n).valid (part views_at views_size b) ≡ true → get_or b views_at 0 ≤ max_views
  views-count v =
      let t = (cells (view_form n) (get_or b views_at 0) max_views).valid (part view_cells (max_views * view_size) b) in
      let p = (and-eq-true_iff ((bounded (view_form n) max_views).valid (part views_at views_size b)) (rising 0 (numbers_of ((bounded (view_form n) max_views).decode (part views_at views_size b))))).0 (sym views-parts ∙ v) in
      leb-true (get_or b views_at 0) max_views ((and-eq-true_iff (leb (get_or b views_at 0) max_views) t).0 (sym (bounded-part (view_form n) max_views views_at b h) ∙ p.0)).0

  -- the numbers of the views
  created : get_or b views_at 0 ≤ max_views → numbers_of ((bounded (view_form n) max_views).decode (part views_at views_size b)) ≡ view_numbers (get_or b views_at 0) view_cells b
  created l = ap numbers_of (bounded-value (view_form n) max_views views_at b h l) ∙ numbers-of-views n (get_or b views_at 0) view_cells b

  pub views-created : get_or b views_at 0 ≤ max_views → ((views_form n).decode (part views_at views_size b)).0 ≡ view_numbers (get_or b views_at 0) view_cells b
  unfolding views_form mapped view_list guarded
  views-created l = created l

  pub views-part : get_or b views_at 0 ≤ max_views → (views_form n).valid (part views_at views_size b)
      ≡ (cells (view_form n) (get_or b views_at 0) max_views).valid (part view_cells (max_views * view_size) b) && rising 0 (view_numbers (get_or b views_at 0) view_cells b)
  views-part l =
      views-parts ∙ ap₂ ◌&&◌ (bounded-within (view_form n) max_views views_at b h l) (ap (rising 0) (created l))

  pub views-rise : (bounded (view_form n) max_views).valid (part views_at views_size b) ≡ true → get_or b views_at 0 ≤ max_views
      → (views_form n).valid (part views_at views_size b) ≡ rising 0 (view_numbers (get_or b views_at 0) view_cells b)
  views-rise v l = views-parts ∙ rw v (ap (rising 0) (created l))

-- ## The other tables

entries-part : (n : ℕ) (b : List ℕ) → entries_at < length b
    → (entries_form n).valid (part entries_at entries_size b) ≡ leb (get_or b entries_at 0) max_entries && (cells (entry_form n) (get_or b entries_at 0) max_entries).valid (part entry_cells (max_entries * entry_size) b)
unfolding entries_form table mapped
entries-part n b h =
    let c : ℕ = get_or b entries_at 0 in
    let e : c + 0 ≡ c = omega arith in
    given-part (byte 0 max_entries) (λ m. table (entry_form n) (numbers 1 m) max_entries blank_entry) entries_at b
    ∙ ap₂ (λ (t : Bool) (m : ℕ). t && (cells (entry_form n) m max_entries).valid (part entry_cells (max_entries * entry_size) b))
    (byte-part 0 max_entries entries_at b h ∙ ap (λ (t : Bool). t && leb c max_entries) (leb-zero c))
    (length-numbers 1 ((byte 0 max_entries).decode (part entries_at 1 b)) ∙ number-decode 0 0 max_entries entries_at b h ∙ e)

pub entries_over : (n : ℕ) (b : List ℕ) → entries_at < length b → max_entries < get_or b entries_at 0 → (entries_form n).valid (part entries_at entries_size b) ≡ false
entries_over n b h l = entries-part n b h ∙ rw (lt-leb (get_or b entries_at 0) max_entries l)

pub entries-within : (n : ℕ) (b : List ℕ) → entries_at < length b → get_or b entries_at 0 ≤ max_entries
    → (entries_form n).valid (part entries_at entries_size b) ≡ (cells (entry_form n) (get_or b entries_at 0) max_entries).valid (part entry_cells (max_entries * entry_size) b)
entries-within n b h l = entries-part n b h ∙ rw (le-leb (get_or b entries_at 0) max_entries l)

pub entries-bounded : (n : ℕ) (b : List ℕ) → recorders_at ≤ length b
    → (entries_form n).valid (part entries_at entries_size b) ≡ (bounded (entry_form n) max_entries).valid (part entries_at entries_size b)
entries-bounded n b h = entries-part n b (omega arith) ∙ sym (bounded-part (entry_form n) max_entries entries_at b h)

body-part : (n m : ℕ) (v : Views) (b : List ℕ) → length v.0 ≡ m → (body_form n v).valid (part entries_at body_size b) ≡ tables_in n m b
unfolding body_form recorders_form network_form queues_form row_form votes_form table mapped tables_in
body-part n m v b e =
    pair-part (entries_form n) _ entries_at b
    (pair-part (recorders_form n) _ recorders_at b
    (pair-part (network_form n v.0) _ network_at b (pair-part (queues_form v.0) (votes_form n) queues_at b refl)))
    ∙ ap₂ (λ (k l : ℕ). (entries_form n).valid (part entries_at entries_size b)
    && ((cells recorder_form k max_recorders).valid (part recorders_at recorders_size b)
    && ((cells (row_form v.0) k max_recorders).valid (part network_at network_size b)
    && ((cells queue_form l max_views).valid (part queues_at queues_size b) && (cells vote_form k max_recorders).valid (part votes_at votes_size b))))) (length-numbers 1 n) e
    ∙ ap (λ (t : Bool). (entries_form n).valid (part entries_at entries_size b)
    && ((cells recorder_form n max_recorders).valid (part recorders_at recorders_size b)
    && (t && ((cells queue_form m max_views).valid (part queues_at queues_size b) && (cells vote_form n max_recorders).valid (part votes_at votes_size b)))))
    (cells_same (row_form v.0) (cells endpoint_form m max_views) (λ x. ap (λ (l : ℕ). (cells endpoint_form l max_views).valid x) e) n max_recorders (part network_at network_size b))

-- ## The whole

module _ (b : List ℕ) (h : stored_length ≤ length b) where
  whole : hall_fields.valid (take stored_length b)
      ≡ (byte 1 max_recorders).valid (part 0 1 b)
      && ((views_form (get_or b 0 0)).valid (part views_at views_size b) && (body_form (get_or b 0 0) ((views_form (get_or b 0 0)).decode (part views_at views_size b))).valid (part entries_at body_size b))
  unfolding hall_fields renamed mapped fields after_size
  whole =
      let e : get_or b 0 0 + 0 ≡ get_or b 0 0 = omega arith in
      given-part (byte 1 max_recorders) after_size 0 b
      ∙ ap (λ (n : ℕ). (byte 1 max_recorders).valid (part 0 1 b) && (after_size n).valid (part views_at rest_size b)) (number-decode 0 1 max_recorders 0 b (omega arith) ∙ e)
      ∙ ap (λ (t : Bool). (byte 1 max_recorders).valid (part 0 1 b) && t) (given-part (views_form (get_or b 0 0)) (body_form (get_or b 0 0)) views_at b)

  -- of a whole in range, its counts are
  pub whole_parts : hall_fields.valid (take stored_length b) ≡ true
      → ((byte 1 max_recorders).valid (part 0 1 b) ≡ true) × ((views_form (get_or b 0 0)).valid (part views_at views_size b) ≡ true)
  whole_parts v =
      let t = (body_form (get_or b 0 0) ((views_form (get_or b 0 0)).decode (part views_at views_size b))).valid (part entries_at body_size b) in
      let p = (and-eq-true_iff ((byte 1 max_recorders).valid (part 0 1 b)) ((views_form (get_or b 0 0)).valid (part views_at views_size b) && t)).0 (sym whole ∙ v) in
      (p.0, ((and-eq-true_iff ((views_form (get_or b 0 0)).valid (part views_at views_size b)) t).0 p.1).0)

  pub no_size : (byte 1 max_recorders).valid (part 0 1 b) ≡ false → hall_fields.valid (take stored_length b) ≡ false
  no_size e = whole ∙ rw e

  pub no-views : (byte 1 max_recorders).valid (part 0 1 b) ≡ true → (views_form (get_or b 0 0)).valid (part views_at views_size b) ≡ false → hall_fields.valid (take stored_length b) ≡ false
  no-views e f = whole ∙ rw (e, f)

  pub whole-tables : (byte 1 max_recorders).valid (part 0 1 b) ≡ true → (views_form (get_or b 0 0)).valid (part views_at views_size b) ≡ true
      → hall_fields.valid (take stored_length b) ≡ tables_in (get_or b 0 0) (get_or b views_at 0) b
  whole-tables e f =
      let n : ℕ = get_or b 0 0 in
      let v : Views = (views_form n).decode (part views_at views_size b) in
      let l = views-count n b (omega arith) f in
      whole ∙ rw (e, f)
      (body-part n (get_or b views_at 0) v b (ap length (views-created n b (omega arith) l) ∙ length-view_numbers (get_or b views_at 0) view_cells b))
