-- Laws of lists: what they have, those of their elements that pass a test, rising lists.
-- Assumes nothing.
use Prim.Native.Nat.{ℕ, zero, suc, ◌+◌, ◌<◌, ◌≤◌}
use native.Mathlib.Nat.{not-suc-le-zero, le_of_suc-le-suc}
use native.Mathlib.Numerals.{add-one}
use mathlib.Core.Path.{◌≡◌, refl, sym, ap, ◌∙◌, subst}
use mathlib.Core.Bool.{true, false, true≢false, false≢true, Bool, ◌&&◌, ◌||◌, and-false, and-eq-true_iff}
use mathlib.Core.List.{List, [], ◌∷◌, ◌++◌}
use lib.Dec.{eqb, ltb}
use lib.ListN.{length, get_or, drop}
use lib.Seq.{drop-cons}
use borrow.Author.Tests.{eqb-true, eq-eqb, ltb-true, lt-ltb}
use native.Mathlib.Omega.{arith}
use mathlib.Core.Logic.{⊎_elim, ◌↔◌, ◌⊎◌, inl, inr}
use Rattle.std.specs.List.{list_all}
use Rattle.base.specs.Lists.{has, Each, filter, rising, bit, count, all, nth, rest, is_empty}
use Rattle.base.proofs.Bools.{by_cases, or_cases, and_both, or_left, or_right, and-true}

-- ## What a list has

pub has_here : (y : ℕ) (ys : List ℕ) (x : ℕ) → eqb x y ≡ true → has (y ∷ ys) x ≡ true
unfolding has
has_here y ys x e = ap (λ (t : Bool). elim t [ true ↦ true | false ↦ has ys x ]) e

pub has_there : (y : ℕ) (ys : List ℕ) (x : ℕ) → eqb x y ≡ false → has (y ∷ ys) x ≡ has ys x
unfolding has
has_there y ys x e = ap (λ (t : Bool). elim t [ true ↦ true | false ↦ has ys x ]) e

pub has-head : (y : ℕ) (ys : List ℕ) → has (y ∷ ys) y ≡ true
has-head y ys = has_here y ys y (eq-eqb y y refl)

pub has-later : (y : ℕ) (ys : List ℕ) (x : ℕ) → has ys x ≡ true → has (y ∷ ys) x ≡ true
has-later y ys x h = go (eqb x y) refl
  where
    go : (t : Bool) → eqb x y ≡ t → has (y ∷ ys) x ≡ true
    go true e = has_here y ys x e
    go false e = has_there y ys x e ∙ h

pub has-cons : (y : ℕ) (ys : List ℕ) (x : ℕ) → has (y ∷ ys) x ≡ true → (x ≡ y) ⊎ (has ys x ≡ true)
has-cons y ys x h = go (eqb x y) refl
  where
    go : (t : Bool) → eqb x y ≡ t → (x ≡ y) ⊎ (has ys x ≡ true)
    go true e = inl (eqb-true x y e)
    go false e = inr (rw has_there at h)

pub has-none : (x : ℕ) → has [] x ≡ true → ⊥
unfolding has
has-none x t = true≢false (sym t)

-- a list without elements is empty
pub none_has : (xs : List ℕ) → ((x : ℕ) → has xs x ≡ true → ⊥) → xs ≡ []
none_has [] f = refl
none_has (y ∷ ys) f = absurd (f y (has-head y ys))

pub has-append : (xs ys : List ℕ) (x : ℕ) → has (xs ++ ys) x ≡ (has xs x || has ys x)
unfolding has
has-append [] ys x = refl
has-append (z ∷ zs) ys x = go (eqb x z) refl (has-append zs ys x)
  where
    go : (t : Bool) → eqb x z ≡ t → has (zs ++ ys) x ≡ (has zs x || has ys x) → has (z ∷ (zs ++ ys)) x ≡ (has (z ∷ zs) x || has ys x)
    go true e ih = simp has_here
    go false e ih = simp has_there ih

-- in one of two lists, in both together
pub has_left : (xs ys : List ℕ) (x : ℕ) → has xs x ≡ true → has (xs ++ ys) x ≡ true
has_left xs ys x t = has-append xs ys x ∙ or_left (has xs x) (has ys x) t

pub has_right : (xs ys : List ℕ) (x : ℕ) → has ys x ≡ true → has (xs ++ ys) x ≡ true
has_right xs ys x t = has-append xs ys x ∙ or_right (has xs x) (has ys x) t

pub has_either : (xs ys : List ℕ) (x : ℕ) → has (xs ++ ys) x ≡ true → (has xs x ≡ true) ⊎ (has ys x ≡ true)
has_either xs ys x t = or_cases (has xs x) (has ys x) (sym (has-append xs ys x) ∙ t)

-- the element at index i, counted from 0, is there
pub key_has : (ks : List ℕ) (i : ℕ) → i < length ks → has ks (get_or ks i 0) ≡ true
unfolding has
key_has [] i h = absurd (not-suc-le-zero h)
key_has (k ∷ ks) zero h = rw (eq-eqb k k refl, has) refl
key_has (k ∷ ks) (suc i) h =
    by_cases (eqb (get_or ks i 0) k) (λ e. rw (e, has) refl) (λ e. rw (e, has) (key_has ks i (le_of_suc-le-suc h)))

-- ## Elements that pass a test

pub filter-in : (p : ℕ → Bool) (x : ℕ) (xs : List ℕ) → p x ≡ true → filter p (x ∷ xs) ≡ x ∷ filter p xs
unfolding filter
filter-in p x xs e = ap (λ (t : Bool). elim t [ true ↦ x ∷ filter p xs | false ↦ filter p xs ]) e

pub filter-out : (p : ℕ → Bool) (x : ℕ) (xs : List ℕ) → p x ≡ false → filter p (x ∷ xs) ≡ filter p xs
unfolding filter
filter-out p x xs e = ap (λ (t : Bool). elim t [ true ↦ x ∷ filter p xs | false ↦ filter p xs ]) e

pub has-filter : (p : ℕ → Bool) (xs : List ℕ) (x : ℕ) → has (filter p xs) x ≡ (has xs x && p x)
unfolding has filter
has-filter p [] x = refl
has-filter p (y ∷ ys) x = go (p y) refl (eqb x y) refl (has-filter p ys x)
  where
    go : (t : Bool) → p y ≡ t → (u : Bool) → eqb x y ≡ u → has (filter p ys) x ≡ (has ys x && p x) → has (filter p (y ∷ ys)) x ≡ (has (y ∷ ys) x && p x)
    go true e true f ih = simp (filter-in, has_here) (cc (eqb-true x y f))
    go true e false f ih = simp (filter-in, has_there) ih
    go false e true f ih =
        let px : p x ≡ false = ap p (eqb-true x y f) ∙ e in
        simp (filter-out, has_here, ih, px) (and-false (has ys x))
    go false e false f ih = simp (filter-out, has_there) ih

pub in-filter : (p : ℕ → Bool) (xs : List ℕ) (x : ℕ) → (has (filter p xs) x ≡ true) ↔ ((has xs x ≡ true) × (p x ≡ true))
in-filter p xs x = rw has-filter (and-eq-true_iff (has xs x) (p x))

pub filter-append : (p : ℕ → Bool) (xs ys : List ℕ) → filter p (xs ++ ys) ≡ filter p xs ++ filter p ys
unfolding filter
filter-append p [] ys = refl
filter-append p (x ∷ xs) ys = go (p x) refl (filter-append p xs ys)
  where
    go : (t : Bool) → p x ≡ t → filter p (xs ++ ys) ≡ filter p xs ++ filter p ys → filter p (x ∷ (xs ++ ys)) ≡ filter p (x ∷ xs) ++ filter p ys
    go true e ih = simp (filter-in, ih)
    go false e ih = simp (filter-out, ih)

-- ## All elements

-- what all elements have, each has
pub all-has : (p : ℕ → Bool) (xs : List ℕ) (x : ℕ) → all p xs ≡ true → has xs x ≡ true → p x ≡ true
unfolding all has
all-has p [] x t m = absurd (true≢false (sym m))
all-has p (y ∷ ys) x t m =
    let both : (p y ≡ true) × (all p ys ≡ true) = and_both (p y) (all p ys) t in
    ⊎_elim (λ e. ap p e ∙ both.0) (all-has p ys x both.1) (has-cons y ys x m)

-- what each element has, all have
pub has_all : (p : ℕ → Bool) (xs : List ℕ) → ((x : ℕ) → has xs x ≡ true → p x ≡ true) → all p xs ≡ true
unfolding all
has_all p [] f = refl
has_all p (y ∷ ys) f = and-true (p y) (all p ys) (f y (has-head y ys)) (has_all p ys (λ x t. f x (has_right (y ∷ []) ys x t)))

-- the same by places, with 0 past the end
pub all-get : (p : ℕ → Bool) → p 0 ≡ true → (xs : List ℕ) (i : ℕ) → all p xs ≡ true → p (get_or xs i 0) ≡ true
unfolding all
all-get p z [] i t = z
all-get p z (x ∷ xs) zero t = (and_both (p x) (all p xs) t).0
all-get p z (x ∷ xs) (suc i) t = all-get p z xs i (and_both (p x) (all p xs) t).1

pub get-all : (p : ℕ → Bool) (xs : List ℕ) → ((i : ℕ) → p (get_or xs i 0) ≡ true) → all p xs ≡ true
unfolding all
get-all p [] f = refl
get-all p (x ∷ xs) f = and-true (p x) (all p xs) (f 0) (get-all p xs (λ i. f (suc i)))

-- a walk over a list: the elements from i on
pub all_from : (p : ℕ → Bool) (xs : List ℕ) (i : ℕ) → i < length xs → all p (drop i xs) ≡ p (get_or xs i 0) && all p (drop (i + 1) xs)
unfolding all
all_from p xs i h = ap (all p) (drop-cons xs i 0 h) ∙ ap (λ (j : ℕ). p (get_or xs i 0) && all p (drop j xs)) (sym (add-one i))

-- no element past the end
pub all_past : (p : ℕ → Bool) (xs : List ℕ) (i : ℕ) → length xs ≤ i → all p (drop i xs) ≡ true
unfolding all
all_past p [] zero h = refl
all_past p [] (suc i) h = refl
all_past p (x ∷ xs) zero h = absurd (not-suc-le-zero h)
all_past p (x ∷ xs) (suc i) h = all_past p xs i (le_of_suc-le-suc h)

-- as an iterator's `all` tells it
pub list_all-all : (p : ℕ → Bool) (xs : List ℕ) → list_all p xs ≡ all p xs
unfolding all
list_all-all p [] = refl
list_all-all p (x ∷ xs) = ap (λ (t : Bool). p x && t) (list_all-all p xs)

pub each-has : (P : ℕ → Type 0) (xs : List ℕ) → Each P xs → (x : ℕ) → has xs x ≡ true → P x
each-has P [] p x m = absurd (has-none x m)
each-has P (y ∷ ys) p x m = ⊎_elim (λ e. subst P (sym e) p.0) (each-has P ys p.1 x) (has-cons y ys x m)

-- two lists, one after the other
module _ {A : Type 0} (P : A → Type 0) where
  pub each_append : (xs ys : List A) → Each P xs → Each P ys → Each P (xs ++ ys)
  each_append [] ys p q = q
  each_append (x ∷ xs) ys p q = (p.0, each_append xs ys p.1 q)

  pub each_left : (xs ys : List A) → Each P (xs ++ ys) → Each P xs
  each_left [] ys p = tt
  each_left (x ∷ xs) ys p = (p.0, each_left xs ys p.1)

  pub each_right : (xs ys : List A) → Each P (xs ++ ys) → Each P ys
  each_right [] ys p = p
  each_right (x ∷ xs) ys p = each_right xs ys p.1

-- ## Rising lists

pub rising-cons : (a x : ℕ) (xs : List ℕ) → (rising a (x ∷ xs) ≡ true) ↔ ((a < x) × (rising x xs ≡ true))
unfolding rising
rising-cons a x xs = (
  λ r. let both = (and-eq-true_iff (ltb a x) (rising x xs)).0 r in (ltb-true a x both.0, both.1),
  λ both. (and-eq-true_iff (ltb a x) (rising x xs)).1 (lt-ltb a x both.0, both.1),
)

pub rising-from : {a b : ℕ} (xs : List ℕ) → b ≤ a → rising a xs ≡ true → rising b xs ≡ true
unfolding rising
rising-from [] h r = refl
rising-from {a} {b} (x ∷ xs) h r =
    let both = (rising-cons a x xs).0 r in
    (rising-cons b x xs).1 (omega arith, both.1)

pub rising-above : (a : ℕ) (xs : List ℕ) → rising a xs ≡ true → (x : ℕ) → has xs x ≡ true → a < x
unfolding has
rising-above a [] r x h = absurd (false≢true h)
rising-above a (y ∷ ys) r x h =
    let both = (rising-cons a y ys).0 r in
    ⊎_elim
    (λ e. omega arith)
    (λ later. omega (arith, rising-above y ys both.1 x later))
    (has-cons y ys x h)

pub rising-filter : (p : ℕ → Bool) (a : ℕ) (xs : List ℕ) → rising a xs ≡ true → rising a (filter p xs) ≡ true
unfolding filter
rising-filter p a [] r = r
rising-filter p a (x ∷ xs) r = go (p x) refl ((rising-cons a x xs).0 r).0 (rising-filter p x xs ((rising-cons a x xs).0 r).1)
  where
    go : (t : Bool) → p x ≡ t → a < x → rising x (filter p xs) ≡ true → rising a (filter p (x ∷ xs)) ≡ true
    go true e h ih = rw filter-in ((rising-cons a x (filter p xs)).1 (h, ih))
    go false e h ih = rw filter-out (rising-from (filter p xs) (omega arith) ih)

pub rising-append : (a m : ℕ) (xs ys : List ℕ) → a ≤ m → ((x : ℕ) → has xs x ≡ true → x ≤ m) → rising a xs ≡ true → rising m ys ≡ true → rising a (xs ++ ys) ≡ true
rising-append a m [] ys le top r s = rising-from ys le s
rising-append a m (x ∷ xs) ys le top r s =
    let both = (rising-cons a x xs).0 r in
    (rising-cons a x (xs ++ ys)).1
    (both.0, rising-append x m xs ys (top x (has-head x xs)) (λ y h. top y (has-later x xs y h)) both.1 s)

pub bit-small : (t : Bool) → bit t ≤ 1
bit-small true = omega arith
bit-small false = omega arith

-- a rising list has each number once, or not at all
pub rising-once : (a : ℕ) (xs : List ℕ) → rising a xs ≡ true → (x : ℕ) → count xs x ≡ bit (has xs x)
unfolding count has
rising-once a [] r x = refl
rising-once a (y ∷ ys) r x = go (eqb x y) refl (has ys x) refl (rising-once y ys ((rising-cons a y ys).0 r).1 x)
  where
    above : has ys x ≡ true → y < x
    above = rising-above y ys ((rising-cons a y ys).0 r).1 x

    go : (t : Bool) → eqb x y ≡ t → (u : Bool) → has ys x ≡ u → count ys x ≡ bit (has ys x) → count (y ∷ ys) x ≡ bit (has (y ∷ ys) x)
    go true e true f ih = absurd (omega (arith, eqb-true x y e, above f))
    go true e false f ih = rw (has_here, ih, f) (omega (arith, ap bit e))
    go false e u f ih = rw (has_there, ih) (omega (arith, ap bit e))

-- ## Parts of a list

pub append-none : {A : Type 0} (xs ys : List A) → xs ++ ys ≡ [] → (xs ≡ []) × (ys ≡ [])
append-none [] ys none = (refl, none)
append-none (x ∷ xs) ys none = let n : ◌≡◌ {A = ℕ} 0 1 = cc in absurd (omega arith)

-- a list that is not empty is its first element and the rest
pub head-rest : {A : Type 0} (xs : List A) (d : A) → is_empty xs ≡ false → xs ≡ nth xs 1 d ∷ rest xs
unfolding is_empty nth rest
head-rest [] d e = absurd (true≢false e)
head-rest (x ∷ xs) d e = refl
