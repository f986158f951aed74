-- The votes in the stored form: no votes are zero bytes; votes are in their ranges, and not none, just if 41 would take the row
-- (02, A4). Assumes nothing.
use Prim.Native.Nat.{ℕ, ◌≤◌, ◌<◌}
use native.Mathlib.Omega.{arith}
use mathlib.Core.Path.{◌≡◌, refl, sym, ap, ◌∙◌}
use mathlib.Core.Logic.{◌↔◌, inl, inr, ⊎_elim}
use mathlib.Core.Bool.{false}
use mathlib.Core.List.{List, map}
use lib.ListN.{length, length-map}
use Rattle.base.specs.Numbers.{numbers}
use Rattle.base.proofs.NumbersLaws.{length-numbers}
use Rattle.quorum.specs.Votes.{total, row_of, wrong_row, max_vote}
use Rattle.quorum.proofs.VoteLaws.{Right, right-row, right-taken}
use Rattle.model.specs.Hall.{max_recorders}
use Rattle.codec.specs.Form.{mapped}
use Rattle.codec.specs.Cells.{cells}
use Rattle.codec.specs.Table.{table}
use Rattle.codec.proofs.Blank.{Blank, blank-number, blank-cells}
use Rattle.codec.proofs.TableLaws.{all-keys}
use Rattle.store.specs.Layout.{word_size}
use Rattle.store.specs.Valid.{VotesIn}
use Rattle.store.specs.CellForms.{vote_form}
use Rattle.store.specs.HallForm.{votes_form}
use Rattle.store.proofs.KeepFacts.{inside?}

pub vote-zeros : Blank vote_form 0
unfolding vote_form
vote-zeros = blank-number word_size 0 0 max_vote

-- no votes are zero bytes
pub votes-zeros : (n : ℕ) → n ≤ max_recorders → Blank (votes_form n) (λ r. 0)
unfolding votes_form table mapped
votes-zeros n h =
    let xs : List ℕ = map (λ r. 0) (numbers 1 n) in
    let e : length xs ≡ length (numbers 1 n) = length-map (numbers 1 n) (λ r. 0) in
    ap (λ (m : ℕ). (cells vote_form m max_recorders).encode xs) (sym e)
    ∙ blank-cells vote_form max_recorders xs (omega (arith, length-numbers 1 n))
    (all-keys (Blank vote_form) (λ r. 0) (numbers 1 n) (λ j k. vote-zeros))

-- votes that are in their ranges, and not none, are right
module _ (n : ℕ) (votes : ℕ → ℕ) where
  -- each of them is small, also where no recorder is
  pub votes-small : VotesIn n votes → (r : ℕ) → votes r ≤ max_vote
  votes-small w r = ⊎_elim (λ b. w.at_most r b.0 b.1) (λ o. omega (arith, w.blank r o)) (inside? n r)

  pub right-votes : VotesIn n votes → 0 < total votes n → Right n votes
  right-votes w some =
      record {
        small = votes-small w;
        none = w.blank 0 (inl refl);
        none_above = λ r o. w.blank r (inr o);
        some = some;
      }

  pub votes-right : Right n votes → VotesIn n votes
  votes-right r =
      record {
        at_most = λ k low high. r.small k;
        blank = λ k. ⊎_elim (λ e. ap votes e ∙ r.none) (r.none_above k);
      }

-- "a stored row that 41 would refuse is 31" (02, A4), and no other: a row is in its ranges and has votes just if 41 takes it
pub row-exactly : (n : ℕ) (row : List ℕ) → (VotesIn n (row_of row) × (0 < total (row_of row) n)) ↔ (wrong_row n row ≡ false)
row-exactly n row = (
  λ w. right-taken n row (right-votes n (row_of row) w.0 w.1),
  λ e. let r = right-row n row e in (votes-right n (row_of row) r, r.some),
)
