-- Laws of votes, margins and quorums, for every row of votes. Two quorums of one hall share a recorder.
-- Assumes nothing.
use Prim.Native.Nat.{ℕ, zero, suc, ◌+◌, ◌-◌, ◌*◌, ◌≤◌, ◌<◌}
use native.Mathlib.Omega.{arith}
use mathlib.Core.Bool.{Bool, true, false, not, ◌&&◌, ◌||◌}
use mathlib.Core.Logic.{◌⊎◌, inl, inr, ⊎_elim}
use mathlib.Core.Path.{◌≡◌, refl, sym, ap, ap₂, ◌∙◌}
use mathlib.Core.List.{List, [], ◌∷◌, map}
use borrow.Author.Tests.{ltb-true, leb-true, leb-false, eqb-true, eqb-false, ne_eqb, eq-eqb, le-leb, lt-leb, not-true, not-false}
use lib.Dec.{eqb, leb, ltb}
use lib.IntN.{pos, neg_ℤ, sub_ℕ}
use lib.ListN.{length, get_or, drop}
use lib.Seq.{get_or-drop}
use lib.Signed.{◌≤ℤ◌}
use mir.Syntax.{w32}
use mir.Val.{SFits}
use Rattle.base.specs.Numbers.{up_to, numbers}
use Rattle.base.specs.Lists.{filter, has, all}
use Rattle.base.proofs.Bools.{by_cases, not-both, or-none, and_both, and-true}
use Rattle.base.proofs.Integers.{sub-sign, sub-range, sub-fits}
use Rattle.base.proofs.ListsLaws.{all-get, get-all}
use Rattle.base.proofs.Filters.{map_same}
use Rattle.base.proofs.NumbersLaws.{all-up_to, get-up_to, up_to-numbers, numbers-range}
use Rattle.quorum.specs.Sets.{in_mask, members}
use Rattle.quorum.specs.Votes.{votes, total, margin, quorum, share, counted, walk, built_in, row_of, max_vote, small_row, no_votes, built_in_row, wrong_row}
use Rattle.quorum.proofs.SetLaws.{has-members}

-- ---- one recorder more

pub votes-more : (row : ℕ → ℕ) (n : ℕ) (s : ℕ → Bool) → votes row (suc n) s ≡ share (s (suc n)) (row (suc n)) + votes row n s
unfolding votes share
votes-more row n s = refl

-- ---- what votes and quorums depend on: the row and the set on 1 to n

-- f and g are the same on 1 to n
abbrev pub Same : {A : Type 0} → ℕ → (ℕ → A) → (ℕ → A) → Type 0
Same n f g = (k : ℕ) → 1 ≤ k → k ≤ n → f k ≡ g k

same-less : {A : Type 0} (n : ℕ) (f g : ℕ → A) → Same (suc n) f g → Same n f g
same-less n f g h k low high = h k low (omega arith)

pub votes-agree : (row row' : ℕ → ℕ) (n : ℕ) (s t : ℕ → Bool) → Same n row row' → Same n s t → votes row n s ≡ votes row' n t
unfolding votes
votes-agree row row' zero s t f g = refl
votes-agree row row' (suc n) s t f g =
    let ih = votes-agree row row' n s t (same-less n row row' f) (same-less n s t g) in
    votes-more row n s
    ∙ (rw (f (suc n) (omega arith) (omega arith), g (suc n) (omega arith) (omega arith), ih))
    ∙ sym (votes-more row' n t)

pub votes-same : (row : ℕ → ℕ) (n : ℕ) (s t : ℕ → Bool) → Same n s t → votes row n s ≡ votes row n t
votes-same row n s t = votes-agree row row n s t (λ k low high. refl)

-- a margin by its two sums
by-sums : {v v' w w' : ℕ} → v ≡ v' → w ≡ w' → sub_ℕ (2 * v) w ≡ sub_ℕ (2 * v') w'
by-sums e f = ap₂ (λ (x y : ℕ). sub_ℕ (2 * x) y) e f

pub margin-agree : (row row' : ℕ → ℕ) (n : ℕ) (s t : ℕ → Bool) → Same n row row' → Same n s t → margin row n s ≡ margin row' n t
unfolding margin total
margin-agree row row' n s t f g =
    by-sums (votes-agree row row' n s t f g) (votes-agree row row' n (λ k. true) (λ k. true) f (λ k low high. refl))

pub margin-members : (row : ℕ → ℕ) (n b : ℕ) → margin row n (in_mask b) ≡ margin row n (has (members n b))
margin-members row n b =
    margin-agree row row n (in_mask b) (has (members n b)) (λ k low high. refl) (λ k low high. sym (has-members n b k low high))

-- ---- the count in one walk (02, A6)

-- recorders above n add nothing to any set
counted_none : (row : ℕ → ℕ) (n k : ℕ) (t : Bool) → n < k → share t (counted row n k) ≡ 0
unfolding share
counted_none row n k true h = rw (lt-leb k n h)
counted_none row n k false h = refl

-- those up to n add what they have
counted_same : (row : ℕ → ℕ) (n k : ℕ) (s : ℕ → Bool) → k ≡ n → votes (counted row n) k s ≡ votes row n s
unfolding share
counted_same row n k s e =
    votes-agree (counted row n) row k s s (λ j low high. rw (le-leb j n (omega arith))) (λ j low high. refl) ∙ ap (λ (m : ℕ). votes row m s) e

-- so all votes that count are those of 1 to n
counted-votes : (row : ℕ → ℕ) (n k : ℕ) (s : ℕ → Bool) → n ≤ k → votes (counted row n) k s ≡ votes row n s
counted-votes row n zero s h = counted_same row n 0 s (omega arith)
counted-votes row n (suc k) s h =
    by_cases (leb (suc k) n)
    (λ t. counted_same row n (suc k) s (omega (arith, leb-true (suc k) n t)))
    (λ f.
    let l = leb-false (suc k) n f in
    omega (arith, votes-more (counted row n) k s, counted_none row n (suc k) (s (suc k)) l, counted-votes row n k s (omega (arith, l))))

-- a walk adds what is left to what was gathered
walk-votes : (row : ℕ → ℕ) (n : ℕ) (s : ℕ → Bool) (k of_set of_hall : ℕ)
    → walk row n s k of_set of_hall ≡ sub_ℕ (2 * (of_set + votes (counted row n) k s)) (of_hall + total (counted row n) k)
unfolding walk votes total share
walk-votes row n s zero of_set of_hall =
    let v : of_set ≡ of_set + 0 = omega arith in
    let w : of_hall ≡ of_hall + 0 = omega arith in
    by-sums v w
walk-votes row n s (suc k) of_set of_hall =
    let c = counted row n (suc k) in
    let v : of_set + share (s (suc k)) c + votes (counted row n) k s ≡ of_set + votes (counted row n) (suc k) s = omega (arith, votes-more (counted row n) k s) in
    let w : of_hall + c + total (counted row n) k ≡ of_hall + total (counted row n) (suc k) = omega arith in
    walk-votes row n s k (of_set + share (s (suc k)) c) (of_hall + c) ∙ by-sums v w

-- the walk from m down to 1, of at least n recorders, gives the margin of n
pub one-walk : (row : ℕ → ℕ) (n : ℕ) (s : ℕ → Bool) (m : ℕ) → n ≤ m → walk row n s m 0 0 ≡ margin row n s
unfolding margin total
one-walk row n s m h =
    let v : 0 + votes (counted row n) m s ≡ votes row n s = omega (arith, counted-votes row n m s h) in
    let w : 0 + total (counted row n) m ≡ total row n = omega (arith, counted-votes row n m (λ k. true) h) in
    walk-votes row n s m 0 0 ∙ by-sums v w

-- its turn at recorder k
pub walk_turn : (row : ℕ → ℕ) (n : ℕ) (s : ℕ → Bool) (k of_set of_hall : ℕ) → 1 ≤ k
    → walk row n s k of_set of_hall ≡ walk row n s (k - 1) (of_set + share (s k) (counted row n k)) (of_hall + counted row n k)
unfolding walk
walk_turn row n s zero of_set of_hall h = absurd (omega arith)
walk_turn row n s (suc k) of_set of_hall h =
    let e : suc k - 1 ≡ k = omega arith in
    ap (λ (j : ℕ). walk row n s j (of_set + share (s (suc k)) (counted row n (suc k))) (of_hall + counted row n (suc k))) (sym e)

-- ---- the margin's sign and range

-- above 0 just if "twice its votes exceed the votes of recorders 1 to N together"
pub quorum-votes : (row : ℕ → ℕ) (n : ℕ) (s : ℕ → Bool) → quorum row n s ≡ ltb (total row n) (2 * votes row n s)
unfolding quorum margin
quorum-votes row n s = sub-sign (2 * votes row n s) (total row n)

pub share-most : (t : Bool) (v : ℕ) → share t v ≤ v
unfolding share
share-most true v = omega arith
share-most false v = omega arith

votes-most : (row : ℕ → ℕ) (n : ℕ) (s : ℕ → Bool) → votes row n s ≤ total row n
unfolding votes total share
votes-most row zero s = omega arith
votes-most row (suc n) s = omega (arith, votes-more row n s, share-most (s (suc n)) (row (suc n)), votes-most row n s)

total-most : (row : ℕ → ℕ) (n : ℕ) → ((k : ℕ) → row k ≤ max_vote) → total row n ≤ n * max_vote
unfolding votes total
total-most row zero small = omega arith
total-most row (suc n) small = omega (arith, small (suc n), total-most row n small)

pub margin-range : (row : ℕ → ℕ) (n : ℕ) (s : ℕ → Bool) → ((k : ℕ) → row k ≤ max_vote) → n ≤ 8
    → (neg_ℤ (pos 8000) ≤ℤ margin row n s) × (margin row n s ≤ℤ pos 8000)
unfolding margin
margin-range row n s small h =
    let most = total-most row n small in
    sub-range (2 * votes row n s) (total row n) 8000 (omega (arith, votes-most row n s)) (omega arith)

-- so it fits an i32
pub margin-fits : (row : ℕ → ℕ) (n : ℕ) (s : ℕ → Bool) → ((k : ℕ) → row k ≤ max_vote) → n ≤ 8 → SFits w32 (margin row n s)
unfolding margin
margin-fits row n s small h =
    let most = total-most row n small in
    sub-fits (2 * votes row n s) (total row n) (omega (arith, votes-most row n s)) (omega arith)

-- ---- two quorums of one hall share a recorder

-- a recorder of 1 to n that is in both sets
abbrev pub Shared : ℕ → (ℕ → Bool) → (ℕ → Bool) → Type 0
Shared n a b = (k : ℕ) × (1 ≤ k) × (k ≤ n) × (a k ≡ true) × (b k ≡ true)

-- two sets share a recorder, or have no more votes than all together
abbrev pub MeetOrLess : (ℕ → ℕ) → ℕ → (ℕ → Bool) → (ℕ → Bool) → Type 0
MeetOrLess row n a b = Shared n a b ⊎ (votes row n a + votes row n b ≤ total row n)

pub meet-or-less : (row : ℕ → ℕ) (n : ℕ) (a b : ℕ → Bool) → MeetOrLess row n a b
unfolding votes total share
meet-or-less row zero a b = inr (omega arith)
meet-or-less row (suc n) a b =
    ⊎_elim
    (λ k. inl (k.0, k.1, omega arith, k.3, k.4))
    (λ l. go l (a (suc n)) refl (b (suc n)) refl)
    (meet-or-less row n a b)
  where
    more : (s : ℕ → Bool) (t : Bool) → s (suc n) ≡ t → votes row (suc n) s ≡ share t (row (suc n)) + votes row n s
    more s t e = votes-more row n s ∙ ap (λ (u : Bool). share u (row (suc n)) + votes row n s) e

    go : votes row n a + votes row n b ≤ total row n → (t : Bool) → a (suc n) ≡ t → (u : Bool) → b (suc n) ≡ u → MeetOrLess row (suc n) a b
    go l true e true f = inl (suc n, omega arith, omega arith, e, f)
    go l true e false f = inr (omega (arith, more a true e, more b false f))
    go l false e true f = inr (omega (arith, more a false e, more b true f))
    go l false e false f = inr (omega (arith, more a false e, more b false f))

pub quorum-more : (row : ℕ → ℕ) (n : ℕ) (s : ℕ → Bool) → quorum row n s ≡ true → total row n < 2 * votes row n s
quorum-more row n s q = ltb-true (total row n) (2 * votes row n s) (sym (quorum-votes row n s) ∙ q)

pub quorums-meet : (row : ℕ → ℕ) (n : ℕ) (a b : ℕ → Bool) → quorum row n a ≡ true → quorum row n b ≡ true → Shared n a b
quorums-meet row n a b p q =
    ⊎_elim
    (λ k. k)
    (λ l. absurd (omega (arith, quorum-more row n a p, quorum-more row n b q)))
    (meet-or-less row n a b)

-- ---- the code's count, and eight recorders

-- a recorder's votes in a row
pub row_at : (row : List ℕ) (k : ℕ) → 1 ≤ k → row_of row k ≡ get_or row (k - 1) 0
unfolding row_of
row_at row k low =
    let ne : k ≡ 0 → ⊥ = λ e. omega (arith, e) in
    rw (ne_eqb k 0 ne, row_of)

pub row-none : (row : List ℕ) → row_of row 0 ≡ 0
unfolding row_of
row-none row = refl

-- each vote of a small row, blank ones included
pub small-vote : (row : List ℕ) → small_row row ≡ true → (k : ℕ) → row_of row k ≤ max_vote
unfolding small_row
small-vote row small k =
    by_cases (eqb k 0)
    (λ t. omega (arith, ap (row_of row) (eqb-true k 0 t) ∙ row-none row))
    (λ f. omega (arith, row_at row k (omega (arith, eqb-false k 0 f)), leb-true (get_or row (k - 1) 0) max_vote (all-get (λ v. leb v max_vote) refl row (k - 1) small)))

-- what a recorder with few votes adds
pub small-share : (v : ℕ) → v ≤ max_vote → (t : Bool) → share t v ≤ max_vote
small-share v small t = omega (arith, share-most t v)

-- ---- the rows that a site may give

-- a row written as the list of what a function gives
pub listed-row : (f : ℕ → ℕ) (m k : ℕ) → 1 ≤ k → k ≤ m → row_of (map f (up_to m)) k ≡ f k
listed-row f m k low high = row_at (map f (up_to m)) k low ∙ get-up_to f m k 0 low high

-- and a row is the list of what it gives
listed-from : (s : ℕ) (xs : List ℕ) → map (λ k. get_or xs (k - s) 0) (numbers s (length xs)) ≡ xs
unfolding numbers
listed-from s [] = refl
listed-from s (x ∷ xs) =
    let z : s - s ≡ 0 = omega arith in
    ap₂ ◌∷◌ (ap (λ (i : ℕ). get_or (x ∷ xs) i 0) z)
    (map_same (λ k. get_or (x ∷ xs) (k - s) 0) (λ k. get_or xs (k - suc s) 0) (numbers (suc s) (length xs)) later ∙ listed-from (suc s) xs)
  where
    later : (k : ℕ) → has (numbers (suc s) (length xs)) k ≡ true → get_or (x ∷ xs) (k - s) 0 ≡ get_or xs (k - suc s) 0
    later k h =
        let e : k - s ≡ suc (k - suc s) = omega (arith, (numbers-range (suc s) (length xs) k h).0) in
        ap (λ (i : ℕ). get_or (x ∷ xs) i 0) e

pub row_listed : (row : List ℕ) → map (row_of row) (up_to (length row)) ≡ row
row_listed row =
    ap (map (row_of row)) (up_to-numbers (length row))
    ∙ map_same (row_of row) (λ k. get_or row (k - 1) 0) (numbers 1 (length row)) (λ k h. row_at row k (numbers-range 1 (length row) k h).0)
    ∙ listed-from 1 row

-- a row's total is at least each recorder's votes
pub total-at : (row : ℕ → ℕ) (n k : ℕ) → 1 ≤ k → k ≤ n → row k ≤ total row n
unfolding total votes
total-at row zero k low high = absurd (omega arith)
total-at row (suc n) k low high =
    by_cases (eqb k (suc n))
    (λ t. omega (arith, ap row (eqb-true k (suc n) t)))
    (λ f. omega (arith, total-at row n k low (omega (arith, eqb-false k (suc n) f))))

-- and 0 if each of these is
pub total-none : (row : ℕ → ℕ) (n : ℕ) → ((k : ℕ) → row k ≡ 0) → total row n ≡ 0
unfolding total votes
total-none row zero z = refl
total-none row (suc n) z = omega (arith, z (suc n), total-none row n z)

-- what 41 leaves: votes of at most 1,000, none above n, and not none at all
pub record Right (n : ℕ) (row : ℕ → ℕ) : Type 0 where
  pub small : (k : ℕ) → row k ≤ max_vote
  pub none : row 0 ≡ 0
  pub none_above : (k : ℕ) → n < k → row k ≡ 0
  pub some : 0 < total row n

module _ (n : ℕ) (row : List ℕ) where
  place : (i : ℕ) → get_or row i 0 ≡ row_of row (i + 1)
  place i =
      let e : i + 1 - 1 ≡ i = omega arith in
      ap (λ (j : ℕ). get_or row j 0) (sym e) ∙ sym (row_at row (i + 1) (omega arith))

  above : no_votes (drop n row) ≡ true → (k : ℕ) → n < k → row_of row k ≡ 0
  unfolding no_votes
  above t k h =
      let e : n + (k - 1 - n) ≡ k - 1 = omega arith in
      row_at row k (omega arith)
      ∙ ap (λ (i : ℕ). get_or row i 0) (sym e)
      ∙ sym (get_or-drop n row (k - 1 - n) 0)
      ∙ eqb-true _ 0 (all-get (λ v. eqb v 0) refl (drop n row) (k - 1 - n) t)

  -- each vote of a row without votes is 0
  all_none : no_votes row ≡ true → (k : ℕ) → row_of row k ≡ 0
  unfolding no_votes
  all_none t k =
      by_cases (eqb k 0)
      (λ z. ap (row_of row) (eqb-true k 0 z) ∙ row-none row)
      (λ f. row_at row k (omega (arith, eqb-false k 0 f)) ∙ eqb-true _ 0 (all-get (λ v. eqb v 0) refl row (k - 1) t))

  none-all : ((k : ℕ) → row_of row k ≡ 0) → no_votes row ≡ true
  unfolding no_votes
  none-all z =
      get-all (λ v. eqb v 0) row (λ i. eq-eqb (get_or row i 0) 0 (place i ∙ z (i + 1)))

  -- a row that 41 takes is right, and a right one it takes
  pub right-row : wrong_row n row ≡ false → Right n (row_of row)
  unfolding wrong_row
  right-row e =
      let p = or-none (not (small_row row && no_votes (drop n row))) (no_votes row) e in
      let q = and_both (small_row row) (no_votes (drop n row)) (not-false (small_row row && no_votes (drop n row)) p.0) in
      record {
        small = small-vote row q.0;
        none = row-none row;
        none_above = above q.1;
        some =
            by_cases (eqb (total (row_of row) n) 0)
            (λ t. absurd (not-both (none-all (each q.1 (eqb-true (total (row_of row) n) 0 t))) p.1))
            (λ f. omega (arith, eqb-false (total (row_of row) n) 0 f));
      }
    where
      each : no_votes (drop n row) ≡ true → total (row_of row) n ≡ 0 → (k : ℕ) → row_of row k ≡ 0
      each t z k =
          by_cases (leb k n)
          (λ l.
          by_cases (eqb k 0)
          (λ u. ap (row_of row) (eqb-true k 0 u) ∙ row-none row)
          (λ f. omega (arith, total-at (row_of row) n k (omega (arith, eqb-false k 0 f)) (leb-true k n l))))
          (λ l. above t k (leb-false k n l))

  all_small : Right n (row_of row) → small_row row ≡ true
  unfolding small_row
  all_small r = get-all (λ v. leb v max_vote) row (λ i. le-leb (get_or row i 0) max_vote (omega (arith, place i, r.small (i + 1))))

  none_left : Right n (row_of row) → no_votes (drop n row) ≡ true
  unfolding no_votes
  none_left r =
      get-all (λ v. eqb v 0) (drop n row)
      (λ i. eq-eqb (get_or (drop n row) i 0) 0 (get_or-drop n row i 0 ∙ place (n + i) ∙ r.none_above (n + i + 1) (omega arith)))

  pub right-taken : Right n (row_of row) → wrong_row n row ≡ false
  unfolding wrong_row
  right-taken r =
      let few : small_row row && no_votes (drop n row) ≡ true = and-true _ _ (all_small r) (none_left r) in
      ap₂ (λ (s t : Bool). not s || t) few (by_cases (no_votes row) (λ t. absurd (lost t)) (λ f. f))
    where
      lost : no_votes row ≡ true → ⊥
      lost t = omega (arith, r.some, total-none (row_of row) n (all_none t))

-- the built-in row is one of them, and counts as 01's
pub built-in-taken : (n : ℕ) → 1 ≤ n → n ≤ 8 → wrong_row n (built_in_row n) ≡ false
unfolding wrong_row built_in_row small_row no_votes all up_to filter built_in share
built-in-taken n low high = not-true _ (all-up_to (λ k. not (wrong_row k (built_in_row k))) 8 refl n low high)

pub built-in-row : (n : ℕ) → n ≤ 8 → Same n (row_of (built_in_row n)) built_in
unfolding built_in_row share
built-in-row n most k low high =
    listed-row (λ j. share (leb j n) (built_in j)) 8 k low (omega arith) ∙ rw (le-leb k n high)

pub margin-built-in : (n : ℕ) (s : ℕ → Bool) → n ≤ 8 → margin (row_of (built_in_row n)) n s ≡ margin built_in n s
margin-built-in n s h =
    margin-agree (row_of (built_in_row n)) built_in n s s (built-in-row n h) (λ k low high. refl)

-- of three recorders, 1 and 2 are a quorum, and 2 and 3 have but half the votes
three-yes : quorum built_in 3 (in_mask 3) ≡ true
unfolding quorum margin total votes built_in in_mask
three-yes = refl

three-no : quorum built_in 3 (in_mask 6) ≡ false
unfolding quorum margin total votes built_in in_mask
three-no = refl
