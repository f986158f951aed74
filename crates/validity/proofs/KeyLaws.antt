-- Labels as numbers: two entries share a label just if their keys are the same. Assumes nothing.
use Prim.Native.Nat.{ℕ, ◌+◌, ◌-◌, ◌*◌, ◌≤◌, ◌<◌}
use native.Mathlib.Omega.{arith}
use mathlib.Core.Path.{◌≡◌, refl, sym, ap, ap₂, subst, ◌∙◌}
use mathlib.Core.Bool.{Bool, true, false, not, ◌&&◌, ◌||◌, or-true, and_assoc}
use mathlib.Core.List.{List}
use lib.Dec.{eqb, ltb}
use lib.ListN.{length, get_or, set}
use lib.Seq.{get_or-set_same, get_or-set_other, get_or-take}
use borrow.Author.Tests.{eq-eqb, ne_eqb, eqb-true, eqb-false, ltb-true, ltb-false, not-true}
use Rattle.base.specs.Lists.{all}
use Rattle.base.specs.Numbers.{up_to}
use Rattle.base.proofs.Bools.{by_cases, and_both, and-true}
use Rattle.base.proofs.NumbersLaws.{up_to-range, has-up_to}
use Rattle.base.proofs.ListsLaws.{all-has, has_all}
use Rattle.model.specs.Ordering.{is_labelled}
use Rattle.model.specs.Hall.{Entries}
use Rattle.codec.specs.Bytes.{part}
use Rattle.codec.specs.Number.{value}
use Rattle.codec.specs.Slice.{Held}
use Rattle.store.specs.Layout.{stored_length, number_size, entry_label_at, entry_sequence_at, entry_size, entry_cells}
use Rattle.store.specs.HallForm.{hall_fields}
use Rattle.validity.specs.Marks.{byte_values}
use Rattle.validity.specs.RawHall.{raw, entry_count}
use Rattle.validity.specs.CrossParts.{apart, key_of, label_key, Keys, key_alone}
use Rattle.validity.proofs.RawHallLaws.{count-in}
use Rattle.validity.proofs.CrossPartsLaws.{sender-at, view-at, seq-at}

-- two tests that hold together
both_ways : (s t : Bool) → (s ≡ true → t ≡ true) → (t ≡ true → s ≡ true) → s ≡ t
both_ways true t f g = sym (f refl)
both_ways false true f g = g refl
both_ways false false f g = refl

-- ## Keys

module _ (v s q i : ℕ) where
  pub key-none : s ≡ 0 → key_of v s q i ≡ i
  unfolding key_of
  key-none e = rw (eq-eqb s 0 e, key_of)

  pub key-some : (s ≡ 0 → ⊥) → key_of v s q i ≡ (v * byte_values + s) * byte_values + q
  unfolding key_of
  key-some e = rw (ne_eqb s 0 e, key_of)

-- the keys of two labels, or of one and of an entry without a label
module _ (v s q i w t r j : ℕ) (sb : s < byte_values) (qb : q < byte_values) (tb : t < byte_values) (rb : r < byte_values) (jb : j < byte_values) (l : s ≡ 0 → ⊥) where
  key-same : (v ≡ w) × (s ≡ t) × (q ≡ r) → key_of v s q i ≡ key_of w t r j
  key-same e =
      let x = e.0 in
      let y = e.1 in
      let z = e.2 in
      key-some v s q i l ∙ omega arith ∙ sym (key-some w t r j (λ n. l (y ∙ n)))

  key-parts : key_of v s q i ≡ key_of w t r j → (v ≡ w) × (s ≡ t) × (q ≡ r)
  key-parts e = by_cases (eqb t 0) none some
    where
      none : eqb t 0 ≡ true → (v ≡ w) × (s ≡ t) × (q ≡ r)
      none u =
          let n = sym (key-some v s q i l) ∙ e ∙ key-none w t r j (eqb-true t 0 u) in
          absurd (omega (arith, l))

      some : eqb t 0 ≡ false → (v ≡ w) × (s ≡ t) × (q ≡ r)
      some u =
          let n = sym (key-some v s q i l) ∙ e ∙ key-some w t r j (eqb-false t 0 u) in
          (omega arith, omega arith, omega arith)

  pub key-eqb : (eqb v w && eqb s t && eqb q r) ≡ eqb (key_of v s q i) (key_of w t r j)
  key-eqb = both_ways (eqb v w && eqb s t && eqb q r) (eqb (key_of v s q i) (key_of w t r j)) forth back
    where
      forth : (eqb v w && eqb s t && eqb q r) ≡ true → eqb (key_of v s q i) (key_of w t r j) ≡ true
      forth u =
          let x = and_both (eqb v w && eqb s t) (eqb q r) u in
          let y = and_both (eqb v w) (eqb s t) x.0 in
          eq-eqb (key_of v s q i) (key_of w t r j) (key-same (eqb-true v w y.0, eqb-true s t y.1, eqb-true q r x.1))

      back : eqb (key_of v s q i) (key_of w t r j) ≡ true → (eqb v w && eqb s t && eqb q r) ≡ true
      back u =
          let x = key-parts (eqb-true (key_of v s q i) (key_of w t r j) u) in
          and-true (eqb v w && eqb s t) (eqb q r) (and-true (eqb v w) (eqb s t) (eq-eqb v w x.0) (eq-eqb s t x.1)) (eq-eqb q r x.2)

-- one key more
pub keys-next : (b ks : List ℕ) (i : ℕ) → i < length ks → Keys b i ks → (k : ℕ) → k ≡ label_key b i → Keys b (i + 1) (set ks i k)
keys-next b ks i h f k e j l = by_cases (eqb j i) here there
  where
    here : eqb j i ≡ true → get_or (set ks i k) j 0 ≡ label_key b j
    here u =
        let q = eqb-true j i u in
        ap (λ (n : ℕ). get_or (set ks i k) n 0) q ∙ get_or-set_same ks i k 0 h ∙ e ∙ ap (label_key b) (sym q)

    below : (j ≡ i → ⊥) → j < i
    below ne = omega arith

    there : eqb j i ≡ false → get_or (set ks i k) j 0 ≡ label_key b j
    there u =
        let ne = eqb-false j i u in
        get_or-set_other ks i j k 0 ne ∙ f j (below ne)

-- ## Entries

-- two entries: the same, or the first without a label, or by the three parts of the label
module _ (b : List ℕ) (K : Held hall_fields b) (d e : ℕ) (dl : 1 ≤ d) (du : d ≤ entry_count b) (el : 1 ≤ e) (eu : e ≤ entry_count b) where
  pub apart-same : d ≡ e → apart (raw b).entries d e ≡ true
  unfolding apart
  apart-same h = rw (eq-eqb d e h)

  by_bytes : apart (raw b).entries d e
      ≡ (eqb d e || (not (not (eqb (get_or b (entry_cells + (d - 1) * entry_size + entry_sequence_at) 0) 0))
      || not (eqb (value (part (entry_cells + (d - 1) * entry_size + entry_label_at) number_size b)) (value (part (entry_cells + (e - 1) * entry_size + entry_label_at) number_size b))
      && (eqb (get_or b (entry_cells + (d - 1) * entry_size + entry_sequence_at) 0) (get_or b (entry_cells + (e - 1) * entry_size + entry_sequence_at) 0) && eqb (get_or b (entry_cells + (d - 1) * entry_size) 0) (get_or b (entry_cells + (e - 1) * entry_size) 0)))))
  unfolding apart is_labelled
  by_bytes =
      ap₂ (λ (s t : Bool). eqb d e || (not (not s) || not t)) (ap (λ (k : ℕ). eqb k 0) (seq-at b K d dl du))
      (ap₂ ◌&&◌ (ap₂ eqb (view-at b K d dl du) (view-at b K e el eu))
      (ap₂ ◌&&◌ (ap₂ eqb (seq-at b K d dl du) (seq-at b K e el eu)) (ap₂ eqb (sender-at b K d dl du) (sender-at b K e el eu))))

  pub apart_none : get_or b (entry_cells + (d - 1) * entry_size + entry_sequence_at) 0 ≡ 0 → apart (raw b).entries d e ≡ true
  apart_none h = by_bytes ∙ rw (eq-eqb (get_or b (entry_cells + (d - 1) * entry_size + entry_sequence_at) 0) 0 h) (or-true (eqb d e))

  -- as the code has it: v and w are the view numbers that it reads
  pub apart-labels : (v w : ℕ) → v ≡ value (part (entry_cells + (d - 1) * entry_size + entry_label_at) number_size b) → w ≡ value (part (entry_cells + (e - 1) * entry_size + entry_label_at) number_size b)
      → (d ≡ e → ⊥) → (get_or b (entry_cells + (d - 1) * entry_size + entry_sequence_at) 0 ≡ 0 → ⊥)
      → not (eqb v w && eqb (get_or b (entry_cells + (d - 1) * entry_size + entry_sequence_at) 0) (get_or b (entry_cells + (e - 1) * entry_size + entry_sequence_at) 0) && eqb (get_or b (entry_cells + (d - 1) * entry_size) 0) (get_or b (entry_cells + (e - 1) * entry_size) 0))
      ≡ apart (raw b).entries d e
  apart-labels v w p q h k =
      let s = eqb (get_or b (entry_cells + (d - 1) * entry_size + entry_sequence_at) 0) (get_or b (entry_cells + (e - 1) * entry_size + entry_sequence_at) 0) in
      let t = eqb (get_or b (entry_cells + (d - 1) * entry_size) 0) (get_or b (entry_cells + (e - 1) * entry_size) 0) in
      ap not (and_assoc (eqb v w) s t ∙ ap₂ (λ (x y : ℕ). eqb x y && (s && t)) p q)
      ∙ sym (by_bytes ∙ rw (ne_eqb d e h, ne_eqb (get_or b (entry_cells + (d - 1) * entry_size + entry_sequence_at) 0) 0 k))

  -- the label's bytes
  in-byte : (j : ℕ) → j < stored_length → get_or b j 0 < byte_values
  in-byte j h = subst (λ (z : ℕ). z < byte_values) (get_or-take stored_length b j 0 h) (K.block.byte j)

  -- two entries by their keys
  pub apart-keys : apart (raw b).entries d e ≡ (eqb d e || not (eqb (label_key b (d - 1)) (label_key b (e - 1))))
  apart-keys = by_cases (eqb d e) one two
    where
      one : eqb d e ≡ true → apart (raw b).entries d e ≡ (eqb d e || not (eqb (label_key b (d - 1)) (label_key b (e - 1))))
      one u = apart-same (eqb-true d e u) ∙ sym (ap (λ (t : Bool). t || not (eqb (label_key b (d - 1)) (label_key b (e - 1)))) u)

      v : ℕ
      v = value (part (entry_cells + (d - 1) * entry_size + entry_label_at) number_size b)

      w : ℕ
      w = value (part (entry_cells + (e - 1) * entry_size + entry_label_at) number_size b)

      s : ℕ
      s = get_or b (entry_cells + (d - 1) * entry_size + entry_sequence_at) 0

      t : ℕ
      t = get_or b (entry_cells + (e - 1) * entry_size + entry_sequence_at) 0

      q : ℕ
      q = get_or b (entry_cells + (d - 1) * entry_size) 0

      r : ℕ
      r = get_or b (entry_cells + (e - 1) * entry_size) 0

      apart-none-keys : (d ≡ e → ⊥) → s ≡ 0 → label_key b (d - 1) ≡ label_key b (e - 1) → ⊥
      apart-none-keys ne z p = by_cases (eqb t 0) none some
        where
          none : eqb t 0 ≡ true → ⊥
          none u =
              let n = sym (key-none v s q (d - 1) z) ∙ p ∙ key-none w t r (e - 1) (eqb-true t 0 u) in
              ne (omega arith)

          some : eqb t 0 ≡ false → ⊥
          some u =
              let n = sym (key-none v s q (d - 1) z) ∙ p ∙ key-some w t r (e - 1) (eqb-false t 0 u) in
              let c = count-in b K in
              omega (arith, eqb-false t 0 u)

      labelled : (d ≡ e → ⊥) → (s ≡ 0 → ⊥) → apart (raw b).entries d e ≡ not (eqb (label_key b (d - 1)) (label_key b (e - 1)))
      labelled ne l =
          let c = count-in b K in
          sym (apart-labels v w refl refl ne l)
          ∙ ap not
          (key-eqb v s q (d - 1) w t r (e - 1) (in-byte _ (omega arith)) (in-byte _ (omega arith)) (in-byte _ (omega arith)) (in-byte _ (omega arith)) (omega arith) l)

      two : eqb d e ≡ false → apart (raw b).entries d e ≡ (eqb d e || not (eqb (label_key b (d - 1)) (label_key b (e - 1))))
      two u =
          let ne = eqb-false d e u in
          by_cases (eqb s 0)
          (λ z. apart_none (eqb-true s 0 z) ∙ sym (ap not (ne_eqb (label_key b (d - 1)) (label_key b (e - 1)) (apart-none-keys ne (eqb-true s 0 z)))))
          (λ z. labelled ne (eqb-false s 0 z))
          ∙ sym (ap (λ (x : Bool). x || not (eqb (label_key b (d - 1)) (label_key b (e - 1)))) u)

-- each entry apart from all others, by the keys before its own
module _ (b : List ℕ) (K : Held hall_fields b) (m : ℕ) (c : m ≡ entry_count b) (ks : List ℕ) (f : Keys b m ks) where
  abbrev es : Entries
  es = (raw b).entries

  abbrev before : ℕ → ℕ → Bool
  before d e = not (eqb (get_or ks (e - 1) 0) (get_or ks (d - 1) 0))

  -- x stands before y
  module _ (x y : ℕ) (lo : 1 ≤ x) (lt : x < y) (hi : y ≤ m) where
    by-keys : apart es x y ≡ not (eqb (label_key b (x - 1)) (label_key b (y - 1)))
    by-keys =
        apart-keys b K x y lo (omega arith) (omega arith) (omega arith)
        ∙ ap (λ (t : Bool). t || not (eqb (label_key b (x - 1)) (label_key b (y - 1)))) (ne_eqb x y (λ e. omega arith))

    tested : before y x ≡ apart es x y
    tested = ap₂ (λ (j k : ℕ). not (eqb j k)) (f (x - 1) (omega arith)) (f (y - 1) (omega arith)) ∙ sym by-keys

    turned : apart es x y ≡ true → apart es y x ≡ true
    turned a =
        let ne = eqb-false (label_key b (x - 1)) (label_key b (y - 1)) (not-true (eqb (label_key b (x - 1)) (label_key b (y - 1))) (sym by-keys ∙ a)) in
        apart-keys b K y x (omega arith) (omega arith) lo (omega arith)
        ∙ ap (λ (t : Bool). eqb y x || not t) (ne_eqb (label_key b (y - 1)) (label_key b (x - 1)) (λ p. ne (sym p)))
        ∙ or-true (eqb y x)

  pub keys-alone : all (λ d. all (apart (raw b).entries d) (up_to m)) (up_to m) ≡ all (λ d. key_alone ks (d - 1)) (up_to m)
  unfolding key_alone
  keys-alone = both_ways (all (λ d. all (apart es d) (up_to m)) (up_to m)) (all (λ d. key_alone ks (d - 1)) (up_to m)) forth back
    where
      alone : all (λ d. all (apart es d) (up_to m)) (up_to m) ≡ true → (d : ℕ) → (1 ≤ d) × (d ≤ m) → key_alone ks (d - 1) ≡ true
      alone a d r =
          has_all (before d) (up_to (d - 1))
          (λ x h. let g = up_to-range (d - 1) x h in tested x d g.0 (omega arith) r.1
          ∙ all-has (apart es x) (up_to m) d (all-has (λ y. all (apart es y) (up_to m)) (up_to m) x a (has-up_to m x g.0 (omega arith))) (has-up_to m d r.0 r.1))

      forth : all (λ d. all (apart es d) (up_to m)) (up_to m) ≡ true → all (λ d. key_alone ks (d - 1)) (up_to m) ≡ true
      forth a = has_all (λ d. key_alone ks (d - 1)) (up_to m) (λ d h. alone a d (up_to-range m d h))

      earlier : all (λ d. key_alone ks (d - 1)) (up_to m) ≡ true → (x y : ℕ) → 1 ≤ x → x < y → y ≤ m → apart es x y ≡ true
      earlier a x y lo lt hi =
          sym (tested x y lo lt hi)
          ∙ all-has (before y) (up_to (y - 1)) x (all-has (λ d. key_alone ks (d - 1)) (up_to m) y a (has-up_to m y (omega arith) hi)) (has-up_to (y - 1) x lo (omega arith))

      each : all (λ d. key_alone ks (d - 1)) (up_to m) ≡ true → (d e : ℕ) → (1 ≤ d) × (d ≤ m) → (1 ≤ e) × (e ≤ m) → apart es d e ≡ true
      each a d e r s =
          by_cases (ltb d e) (λ u. earlier a d e r.0 (ltb-true d e u) s.1)
          (λ u. by_cases (ltb e d)
          (λ w. turned e d s.0 (ltb-true e d w) r.1 (earlier a e d s.0 (ltb-true e d w) r.1))
          (λ w. apart-same b K d e r.0 (omega (arith, r.1)) s.0 (omega (arith, s.1)) (equal (ltb-false d e u) (ltb-false e d w))))
        where
          equal : e ≤ d → d ≤ e → d ≡ e
          equal h k = omega arith

      back : all (λ d. key_alone ks (d - 1)) (up_to m) ≡ true → all (λ d. all (apart es d) (up_to m)) (up_to m) ≡ true
      back a =
          has_all (λ d. all (apart es d) (up_to m)) (up_to m)
          (λ d h. has_all (apart es d) (up_to m) (λ e k. each a d e (up_to-range m d h) (up_to-range m e k)))
