-- Laws of specs/ViewForm. Assumes nothing.
use Prim.Native.Nat.{ℕ, ◌-◌, ◌^◌, ◌≤◌, ◌<◌}
use native.Mathlib.Omega.{arith}
use mathlib.Core.Path.{◌≡◌, refl, sym, ap, ap₂, ◌∙◌, subst, fun_ext}
use mathlib.Core.Bool.{true, false, false≢true}
use mathlib.Core.List.{List, [], ◌∷◌, ◌++◌, map, map-map, map-id}
use lib.Dec.{lit<, lit≤}
use lib.ListN.{length-map}
use Rattle.base.specs.Lists.{has, rising, Each}
use Rattle.base.proofs.ListsLaws.{rising-cons, rising-above}
use Rattle.base.proofs.Bools.{by_cases}
use Rattle.base.proofs.Bools.{by_cases}
use Rattle.quorum.specs.Sets.{members, mask}
use Rattle.quorum.proofs.SetLaws.{mask-members}
use Rattle.model.specs.Hall.{max_views, max_number}
use Rattle.codec.specs.Form.{mapped, guarded}
use Rattle.codec.specs.Number.{digits, number}
use Rattle.codec.specs.Pair.{given}
use Rattle.codec.specs.Table.{lookup}
use Rattle.codec.specs.Bounded.{bounded}
use Rattle.codec.proofs.NumberLaws.{number-lawful}
use Rattle.codec.proofs.TableLaws.{all-keys, Distinct, Above, above-distinct, lookup-map, lookup-outside, map-lookup, each-key}
use Rattle.codec.proofs.FormLaws.{Lawful, Inverse, mapped-lawful, guarded-lawful}
use Rattle.codec.proofs.PairLaws.{pair-lawful}
use Rattle.codec.proofs.BoundedLaws.{bounded-lawful}
use Rattle.store.specs.Layout.{number_size}
use Rattle.store.specs.Masks.{set_form, SetOf}
use Rattle.store.specs.ViewForm.{view_form, view_list, views_form, numbers_of, sets_of, numbers_rise, Views, to_views, from_views, ViewsOk}
use Rattle.store.proofs.MasksLaws.{set-lawful}

pub view-lawful : (n : ℕ) → n ≤ 8 → Lawful (view_form n)
unfolding view_form
view-lawful n h = pair-lawful _ _ (number-lawful number_size 0 1 max_number (lit≤ tt) (lit< tt)) (set-lawful n h)

pub view_list-lawful : (n : ℕ) → n ≤ 8 → Lawful (view_list n)
unfolding view_list
view_list-lawful n h = guarded-lawful _ numbers_rise (bounded-lawful (view_form n) max_views (view-lawful n h) (lit< tt))

pub rising-distinct : (xs : List ℕ) → rising 0 xs ≡ true → Distinct xs
rising-distinct xs r = above-distinct 0 xs (above 0 xs r)
  where
    above : (a : ℕ) (xs : List ℕ) → rising a xs ≡ true → Above a xs
    above a [] r = tt
    above a (x ∷ xs) r = (((rising-cons a x xs).0 r).0, above x xs ((rising-cons a x xs).0 r).1)

paired : (xs : List (ℕ × List ℕ)) (f : ℕ → List ℕ) → map f (numbers_of xs) ≡ sets_of xs → from_views (numbers_of xs, f) ≡ xs
paired [] f e = refl
paired (x ∷ xs) f e =
    let first : f x.0 ≡ x.1 = cc in
    let rest : map f (numbers_of xs) ≡ sets_of xs = cc in
    ap₂ ◌∷◌ (λ i. (x.0, first i)) (paired xs f rest)

pub numbers_of-from : (v : Views) → numbers_of (from_views v) ≡ v.0
numbers_of-from v = map-map (λ (x : ℕ × List ℕ). x.0) (λ (g : ℕ). (g, v.1 g)) v.0 ∙ map-id v.0

sets_of-from : (v : Views) → sets_of (from_views v) ≡ map v.1 v.0
sets_of-from v = map-map (λ (x : ℕ × List ℕ). x.1) (λ (g : ℕ). (g, v.1 g)) v.0

from-to : (xs : List (ℕ × List ℕ)) → numbers_rise xs ≡ true → from_views (to_views xs) ≡ xs
unfolding numbers_rise
from-to xs r =
    paired xs (lookup (numbers_of xs) [] (sets_of xs))
    (map-lookup (numbers_of xs) [] (sets_of xs) (rising-distinct (numbers_of xs) r)
    (length-map xs (λ (x : ℕ × List ℕ). x.1) ∙ sym (length-map xs (λ (x : ℕ × List ℕ). x.0))))

to-from : (v : Views) → ((g : ℕ) → has v.0 g ≡ false → v.1 g ≡ []) → to_views (from_views v) ≡ v
to-from v b =
    ap₂ (λ (ks : List ℕ) (ss : List (List ℕ)). let w : Views = (ks, lookup ks [] ss) in w) (numbers_of-from v) (sets_of-from v)
    ∙ (λ i. (v.0, fun_ext (λ g. lookup-map v.0 [] v.1 g (b g)) i))

module _ (n : ℕ) where
  pub views-inverse : Inverse (view_list n) to_views from_views (ViewsOk n)
  unfolding view_list view_form bounded guarded mapped given number set_form numbers_rise has rising
  views-inverse =
      record {
        to-ok = within;
        from-ok = range;
        to-from = λ v h. to-from v h.blank;
        from-to = λ xs h. from-to xs h.1;
      }
    where
      nobody : SetOf n []
      nobody = (refl, λ x k. absurd (false≢true k))

      range : (v : Views) → ViewsOk n v → (view_list n).ok (from_views v)
      range v h = (
        (
          subst (λ (m : ℕ). m ≤ max_views) (sym (length-map v.0 (λ (g : ℕ). (g, v.1 g)))) h.at_most,
          all-keys (view_form n).ok (λ (g : ℕ). (g, v.1 g)) v.0
              (λ g k. ((rising-above 0 v.0 h.rises g k, h.number_in g k), ((h.set_rises g, h.set_in g), h.not_empty g k))),
        ),
        ap (rising 0) (numbers_of-from v) ∙ h.rises,
      )

      within : (xs : List (ℕ × List ℕ)) → (view_list n).ok xs → ViewsOk n (to_views xs)
      within xs h =
          let ks = numbers_of xs in
          let look = lookup ks [] (sets_of xs) in
          let at : (g : ℕ) → has ks g ≡ true → (view_form n).ok (g, look g) =
          each-key (view_form n).ok (λ (g : ℕ). (g, look g)) ks (subst (Each (view_form n).ok) (sym (from-to xs h.1)) h.0.1) in
          let set : (g : ℕ) → SetOf n (look g) =
          λ g. by_cases (has ks g) (λ k. (at g k).1.0) (λ k. subst (SetOf n) (sym (lookup-outside ks [] (sets_of xs) g k)) nobody) in
          record {
            at_most = subst (λ (m : ℕ). m ≤ max_views) (sym (length-map xs (λ (x : ℕ × List ℕ). x.0))) h.0.0;
            rises = h.1;
            number_in = λ g k. (at g k).0.1;
            set_rises = λ g. (set g).0;
            set_in = λ g. (set g).1;
            not_empty = λ g k. (at g k).1.1;
            blank = λ g k. lookup-outside ks [] (sets_of xs) g k;
          }

  pub views-lawful : n ≤ 8 → Lawful (views_form n)
  unfolding views_form
  views-lawful h = mapped-lawful (view_list n) to_views from_views (ViewsOk n) (view_list-lawful n h) views-inverse

-- a view's cell: its number in four bytes, its mask in one
pub view-bytes : (n g m : ℕ) → m < 2 ^ n → (view_form n).encode (g, members n m) ≡ digits number_size g ++ digits 1 m
unfolding view_form set_form given number mapped
view-bytes n g m h =
    let e : g - 0 ≡ g = omega arith in
    let f : mask (members n m) - 0 ≡ m = omega (arith, mask-members n m h) in
    ap₂ (λ (x y : ℕ). digits number_size x ++ digits 1 y) e f
