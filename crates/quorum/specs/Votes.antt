-- Votes, margins and quorums, and which rows of votes a site may give. 01, "Votes and views"; 02, A1, A4 and A6. The row of
-- votes is an argument; the built-in row is one instance.
-- A set is given by its test, ℕ → Bool, so that a mask (`in_mask b`) and a list (`has xs`) both serve.
-- Assumes nothing.
use Rattle.std.specs.Prelude.{ℕ, zero, suc, ◌+◌, ◌-◌, ◌*◌, Bool, true, false, not, ◌&&◌, ◌||◌, List, map, eqb, leb, ℤ, pos, get_or, drop}
use Rattle.std.proofs.Math.IntN.{sub_ℕ}
use Rattle.std.specs.Int.Signed.{lt_z}
use Rattle.base.specs.Lists.{all}
use Rattle.base.specs.Numbers.{up_to}

-- the votes of recorders 1 to n that are in the set s
unfoldable pub votes : (ℕ → ℕ) → ℕ → (ℕ → Bool) → ℕ
votes row zero s = 0
votes row (suc n) s = elim (s (suc n)) [ true ↦ row (suc n) | false ↦ 0 ] + votes row n s

-- the votes of recorders 1 to n together
unfoldable pub total : (ℕ → ℕ) → ℕ → ℕ
total row n = votes row n (λ k. true)

-- "a signed margin: twice the set's votes less the votes of the whole hall" (02, A1)
unfoldable pub margin : (ℕ → ℕ) → ℕ → (ℕ → Bool) → ℤ
margin row n s = sub_ℕ (2 * votes row n s) (total row n)

-- "A set is a quorum if twice its votes exceed the votes of recorders 1 to N together": "a margin above 0" (02, A1)
unfoldable pub quorum : (ℕ → ℕ) → ℕ → (ℕ → Bool) → Bool
quorum row n s = lt_z (pos 0) (margin row n s)

-- v votes if t holds
unfoldable pub share : Bool → ℕ → ℕ
share t v = elim t [ true ↦ v | false ↦ 0 ]

-- recorder k's votes that count in a hall of n: none above n
abbrev pub counted : (ℕ → ℕ) → ℕ → ℕ → ℕ
counted row n k = share (leb k n) (row k)

-- "walk the recorders a single time, from 8 down to 1, and gather the set's votes and the hall's votes on that walk" (02, A6):
-- the margin from recorder k on, with the votes of the set and of the hall that were gathered before
unfoldable pub walk : (ℕ → ℕ) → ℕ → (ℕ → Bool) → ℕ → ℕ → ℕ → ℤ
walk row n s zero of_set of_hall = sub_ℕ (2 * of_set) of_hall
walk row n s (suc k) of_set of_hall =
    let v = counted row n (suc k) in
    walk row n s k (of_set + share (s (suc k)) v) (of_hall + v)

-- "Recorder 1 has 2 votes, recorders 2 to 8 have 1 each."
unfoldable pub built_in : ℕ → ℕ
built_in k = elim (eqb k 1) [ true ↦ 2 | false ↦ 1 ]

-- ## Rows written as lists

-- recorder k's votes in a row written as a list, recorder 1 first; none where there is no such recorder
unfoldable pub row_of : List ℕ → ℕ → ℕ
row_of row k = elim (eqb k 0) [ true ↦ 0 | false ↦ get_or row (k - 1) 0 ]

-- the built-in row of n recorders, "eight vote words" (02, A4): 0 above n
unfoldable pub built_in_row : ℕ → List ℕ
built_in_row n = map (counted built_in n) (up_to 8)

-- "0 to 1,000 each" (02, A4)
abbrev pub max_vote : ℕ
max_vote = 1000

-- is each vote of a row at most that?
unfoldable pub small_row : List ℕ → Bool
small_row row = all (λ v. leb v max_vote) row

-- is each 0?
unfoldable pub no_votes : List ℕ → Bool
no_votes row = all (λ v. eqb v 0) row

-- 41: "a vote above 1,000, a vote other than 0 for a recorder above N, or a row whose votes are all 0" (02, A4)
unfoldable pub wrong_row : ℕ → List ℕ → Bool
wrong_row n row = not (small_row row && no_votes (drop n row)) || no_votes row
