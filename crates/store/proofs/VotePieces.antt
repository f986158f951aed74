-- The votes of a hall as eight cells, and as eight vote words. Assumes nothing.
use Prim.Native.Nat.{ℕ, zero, suc, ◌+◌, ◌-◌, ◌*◌, ◌≤◌, ◌<◌}
use native.Mathlib.Omega.{arith}
use mathlib.Core.Path.{◌≡◌, refl, sym, ap, subst, ◌∙◌, fun_ext}
use mathlib.Core.Logic.{inl, inr, ⊎_elim}
use mathlib.Core.Bool.{false}
use mathlib.Core.List.{List, ◌++◌, map}
use lib.Dec.{eqb, leb}
use lib.ListN.{length, length-map, get_or-eq_default}
use borrow.Author.Tests.{eqb-true, eqb-false, leb-true, leb-false}
use Rattle.base.specs.Numbers.{numbers, up_to}
use Rattle.base.proofs.Bools.{by_cases}
use Rattle.base.proofs.NumbersLaws.{length-numbers, has-numbers, numbers-snoc, up_to-numbers}
use Rattle.quorum.specs.Votes.{row_of, wrong_row}
use Rattle.quorum.proofs.VoteLaws.{Right, right-taken, row_at, row-none, listed-row}
use Rattle.model.specs.Hall.{Hall, max_recorders}
use Rattle.model.specs.Opening.{row_in}
use Rattle.codec.specs.Form.{mapped}
use Rattle.codec.specs.Table.{table}
use Rattle.codec.proofs.Piece.{View, inner-view, restated-view}
use Rattle.codec.proofs.TableLaws.{at_key, numbers-distinct, index-numbers, table-grow}
use Rattle.store.specs.Layout.{votes_at, word_size}
use Rattle.store.specs.Valid.{InRange, ValidHall}
use Rattle.store.specs.CellForms.{vote_form}
use Rattle.store.specs.HallForm.{votes_form, hall_fields}
use Rattle.store.proofs.CellFormsLaws.{vote-lawful}
use Rattle.store.proofs.Ranges.{numbered, vote-ok}
use Rattle.store.proofs.HallOk.{fields-ok}
use Rattle.store.proofs.VoteRows.{vote-zeros, votes-small}
use Rattle.store.proofs.Pieces.{votes-view}
use Rattle.store.proofs.KeepRules.{facts-of}

-- cells of recorders above n are blank, so the form of more recorders has the same bytes
pub wide : (votes : ℕ → ℕ) (n m : ℕ) → n + m ≤ max_recorders → ((r : ℕ) → n < r → votes r ≡ 0)
    → (votes_form n).encode votes ≡ (votes_form (n + m)).encode votes
unfolding votes_form
wide votes n zero h z =
    let e : n ≡ n + 0 = omega arith in
    ap (λ (k : ℕ). (votes_form k).encode votes) e
wide votes n (suc m) h z =
    let e : suc (n + m) ≡ n + suc m = omega arith in
    wide votes n m (omega arith) z
    ∙ table-grow vote_form (numbers 1 (n + m)) max_recorders 0 votes (1 + (n + m)) (omega (arith, length-numbers 1 (n + m))) vote-zeros (z (1 + (n + m)) (omega arith))
    ∙ ap (λ (ks : List ℕ). (table vote_form ks max_recorders 0).encode votes) (sym (numbers-snoc 1 (n + m)))
    ∙ ap (λ (k : ℕ). (votes_form k).encode votes) e

module _ (h : Hall) (o : hall_fields.ok h) where
  w : InRange h
  w = (fields-ok h).1 o

  own : View hall_fields (votes_form h.size) votes_at (λ k. k.size ≡ h.size) (λ k. k.votes)
  own = votes-view h.size

  all-bytes : (votes_form h.size).encode h.votes ≡ (votes_form max_recorders).encode h.votes
  all-bytes =
      let e : h.size + (max_recorders - h.size) ≡ max_recorders = omega (arith, w.size.1) in
      wide h.votes h.size (max_recorders - h.size) (omega arith) (λ r l. w.votes.blank r (inr l))
      ∙ ap (λ (k : ℕ). (votes_form k).encode h.votes) e

  all-ok : (votes_form max_recorders).ok h.votes
  unfolding votes_form table mapped
  all-ok =
      numbered vote_form max_recorders max_recorders 0 h.votes
      (λ r low high. (vote-ok (h.votes r)).0 (votes-small h.size h.votes w.votes r))
      (λ r. ⊎_elim (λ e. w.votes.blank r (inl e)) (λ l. w.votes.blank r (inr (omega (arith, w.size.1)))))

-- the votes as eight cells
eight : View hall_fields (votes_form max_recorders) votes_at (λ h. Unit {0}) (λ h. h.votes)
eight =
    record {
      before = λ h o u. (own h o).before h o refl;
      after = λ h o u. (own h o).after h o refl;
      offset = λ h o u. (own h o).offset h o refl;
      got = λ h o u. all-ok h o;
      split = λ h o u. (own h o).split h o refl ∙ ap (λ (x : List ℕ). (own h o).before h o refl ++ (x ++ (own h o).after h o refl)) (all-bytes h o);
    }

-- recorder r's votes, also above N
pub vote-view : (r : ℕ) → 1 ≤ r → r ≤ max_recorders → View hall_fields vote_form (votes_at + (r - 1) * word_size) (λ h. Unit {0}) (λ h. h.votes r)
unfolding votes_form
vote-view r low high =
    let cell = at_key vote_form (numbers 1 max_recorders) max_recorders 0 (numbers-distinct max_recorders) vote-lawful r (has-numbers 1 max_recorders r low (omega arith)) in
    subst (λ (i : ℕ). View hall_fields vote_form (votes_at + i * word_size) (λ h. Unit {0}) (λ h. h.votes r)) (index-numbers 1 max_recorders r low (omega arith))
    (restated-view (inner-view eight cell.view) (λ h. Unit {0}) (λ h. h.votes r) (λ h o u. (tt, tt)) (λ h o u. refl))

-- ## The row of a hall

-- it gives each recorder its votes, also where no recorder is
pub row-votes : (h : Hall) → InRange h → (r : ℕ) → row_of (row_in h) r ≡ h.votes r
unfolding row_in
row-votes h w r =
    by_cases (eqb r 0)
    (λ t. ap (row_of (map h.votes (up_to max_recorders))) (eqb-true r 0 t) ∙ row-none _ ∙ sym (w.votes.blank r (inl (eqb-true r 0 t))))
    (λ f. some (omega (arith, eqb-false r 0 f)))
  where
    some : 1 ≤ r → row_of (map h.votes (up_to max_recorders)) r ≡ h.votes r
    some low =
        by_cases (leb r max_recorders)
        (λ t. listed-row h.votes max_recorders r low (leb-true r max_recorders t))
        (λ f.
        let above = leb-false r max_recorders f in
        row_at (map h.votes (up_to max_recorders)) r low
        ∙ get_or-eq_default (map h.votes (up_to max_recorders)) 0 {n = r - 1} (omega (arith, length-map (up_to max_recorders) h.votes, ap length (up_to-numbers max_recorders) ∙ length-numbers 1 max_recorders))
        ∙ sym (w.votes.blank r (inr (omega (arith, w.size.1)))))

-- that of a hall that has a stored form 41 would take
pub stored_row : (h : Hall) → ValidHall h → wrong_row h.size (row_in h) ≡ false
stored_row h valid =
    right-taken h.size (row_in h)
    (subst (Right h.size) (sym (fun_ext (row-votes h valid.in_range))) (facts-of h valid).votes)
