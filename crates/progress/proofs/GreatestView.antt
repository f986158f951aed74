-- The view with the greatest number of a hall in range: it is formed, the last one formed, and its members are recorders.
-- Assumes nothing.
use Prim.Native.Nat.{ℕ, suc, ◌+◌, ◌-◌, ◌≤◌}
use native.Mathlib.Omega.{arith}
use mathlib.Core.Path.{◌≡◌, refl, ap, ◌∙◌}
use mathlib.Core.Bool.{true}
use mathlib.Core.List.{List, [], ◌∷◌}
use lib.ListN.{length, get_or}
use Rattle.base.specs.Lists.{has, rising, greatest}
use Rattle.base.proofs.ListsLaws.{has-head, has-later, rising-cons, rising-above}
use Rattle.base.proofs.Greatest.{greatest-above, greatest-in}
use Rattle.model.specs.Hall.{max_number, max_recorders, Hall}
use Rattle.model.specs.Settle.{greatest_view}
use Rattle.store.specs.Valid.{EachIn, ViewsIn, ValidHall}
use Rattle.store.proofs.KeepFacts.{member-in}

-- a rising list above a, all of it at most n, is no longer than the numbers between
pub rising-length : (a n : ℕ) (xs : List ℕ) → rising a xs ≡ true → a ≤ n → ((x : ℕ) → has xs x ≡ true → x ≤ n) → a + length xs ≤ n
rising-length a n [] r le top = omega arith
rising-length a n (x ∷ xs) r le top =
    let both = (rising-cons a x xs).0 r in
    omega (arith, both.0, rising-length x n xs both.1 (top x (has-head x xs)) (λ y m. top y (has-later x xs y m)))

-- the last element of a rising list is the greatest
greatest-end : (a x : ℕ) (xs : List ℕ) → rising a (x ∷ xs) ≡ true → get_or (x ∷ xs) (length xs) 0 ≡ greatest (λ z. z) (x ∷ xs)
unfolding greatest
greatest-end a x [] r = omega arith
greatest-end a x (y ∷ ys) r =
    let two = (rising-cons x y ys).0 ((rising-cons a x (y ∷ ys)).0 r).1 in
    let above : y ≤ greatest (λ z. z) (y ∷ ys) = greatest-above (λ z. z) (y ∷ ys) y (has-head y ys) in
    omega (arith, two.0, above, greatest-end x y ys ((rising-cons a x (y ∷ ys)).0 r).1)

module _ (h : Hall) (valid : ValidHall h) where
  views : ViewsIn h.size h.service.created h.service.members
  views = valid.in_range.views

  -- every formed number is at least 1, and at most the greatest
  pub formed-low : (g : ℕ) → has h.service.created g ≡ true → 1 ≤ g
  formed-low g t = rising-above 0 h.service.created views.rises g t

  pub formed_below : (g : ℕ) → has h.service.created g ≡ true → g ≤ greatest_view h
  unfolding greatest_view
  formed_below g t = greatest-above (λ g. g) h.service.created g t

  -- the greatest view is formed, if any view is
  pub greatest-formed : 1 ≤ greatest_view h → has h.service.created (greatest_view h) ≡ true
  unfolding greatest_view greatest
  greatest-formed low = go h.service.created low
    where
      go : (xs : List ℕ) → 1 ≤ greatest (λ g. g) xs → has xs (greatest (λ g. g) xs) ≡ true
      go [] low = absurd (omega arith)
      go (x ∷ xs) low = greatest-in (x ∷ xs) x (has-head x xs)

  -- it is the last one formed
  pub greatest-last : get_or h.service.created (length h.service.created - 1) 0 ≡ greatest_view h
  unfolding greatest_view greatest
  greatest-last = go h.service.created views.rises
    where
      go : (xs : List ℕ) → rising 0 xs ≡ true → get_or xs (length xs - 1) 0 ≡ greatest (λ g. g) xs
      go [] r = refl
      go (x ∷ xs) r =
          let n : suc (length xs) - 1 ≡ length xs = omega arith in
          ap (λ k. get_or (x ∷ xs) k 0) n ∙ greatest-end 0 x xs r

  pub greatest-number : greatest_view h ≤ max_number
  unfolding greatest_view greatest
  greatest-number = go h.service.created views.number_in
    where
      go : (xs : List ℕ) → ((g : ℕ) → has xs g ≡ true → g ≤ max_number) → greatest (λ g. g) xs ≤ max_number
      go [] top = omega arith
      go (x ∷ xs) top = top (greatest (λ g. g) (x ∷ xs)) (greatest-in (x ∷ xs) x (has-head x xs))

  -- a view with a member is formed, so its number is at least 1; its members are recorders, rising, at most 8
  pub member-formed : (g r : ℕ) → has (h.service.members g) r ≡ true → has h.service.created g ≡ true
  member-formed g r m = (member-in views g r m).1

  pub members-rise : (g : ℕ) → rising 0 (h.service.members g) ≡ true
  members-rise = views.set_rises

  pub members-in : (g : ℕ) → EachIn h.size (h.service.members g)
  members-in = views.set_in

  pub members-few : (g : ℕ) → length (h.service.members g) ≤ max_recorders
  members-few g =
      omega (
        arith,
        valid.in_range.size.1,
        rising-length 0 h.size (h.service.members g) (views.set_rises g) (omega arith) (λ r m. (views.set_in g r m).1),
      )
