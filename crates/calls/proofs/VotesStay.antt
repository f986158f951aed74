-- "A hall keeps its row" (02, A4), on the bytes. A row that is stored is one that 41 would take, whatever calls there were, and
-- margins run from -8,000 to 8,000; no call changes the row; that of an opened hall is the one it was opened with.
-- Assumes nothing.
use Prim.Native.Nat.{ℕ}
use mathlib.Core.Path.{◌≡◌, sym, ap, ◌∙◌}
use mathlib.Core.Bool.{true, false}
use mathlib.Core.List.{List, ◌++◌, map}
use lib.IntN.{pos, neg_ℤ}
use lib.ListN.{length, drop, take-append-drop}
use lib.Signed.{◌≤ℤ◌}
use Rattle.base.specs.Lists.{has}
use Rattle.base.specs.Numbers.{up_to}
use Rattle.quorum.specs.Votes.{row_of, wrong_row}
use Rattle.quorum.proofs.VoteLaws.{margin-range, row_listed}
use Rattle.model.specs.Hall.{Hall, max_recorders}
use Rattle.model.specs.Opening.{Opening, row_in, open_hall, opened}
use Rattle.model.specs.Refusals.{margin_of}
use Rattle.model.specs.Call.{Words, WordsIn, hl3}
use Rattle.model.specs.Run.{run}
use Rattle.model.proofs.Kept.{votes-run}
use Rattle.store.specs.Layout.{stored_length}
use Rattle.store.specs.StoredForm.{stored, hall_of, is_stored}
use Rattle.store.proofs.StoredFormLaws.{hall_of-stored, hall_of-valid, stored-hall_of}
use Rattle.store.proofs.KeepRules.{facts-of}
use Rattle.store.proofs.KeepValid.{run-valid, open-valid}
use Rattle.store.proofs.VotePieces.{stored_row}
use Rattle.calls.specs.Calls.{open_on, run_on, with_hall}
use Rattle.calls.proofs.OpenLaws.{open_done}
use Rattle.calls.proofs.RunLaw.{run-stored}

-- ## Bytes that hold a hall

module _ (b : List ℕ) (holds : is_stored b ≡ true) where
  -- 41 would take its row
  pub row-taken : wrong_row (hall_of b).size (row_in (hall_of b)) ≡ false
  row-taken = stored_row (hall_of b) (hall_of-valid b holds)

  -- "Margins run from -8,000 to 8,000"
  pub margins-run : (g : ℕ) → (neg_ℤ (pos 8000) ≤ℤ margin_of (hall_of b) g) × (margin_of (hall_of b) g ≤ℤ pos 8000)
  unfolding margin_of
  margins-run g =
      let f = facts-of (hall_of b) (hall_of-valid b holds) in
      margin-range (hall_of b).votes (hall_of b).size (has ((hall_of b).service.members g)) f.votes.small f.size.1

  -- and no list of calls changes it
  pub votes-stay : (ws : List Words) → WordsIn ws → row_in (hall_of (run_on b ws)) ≡ row_in (hall_of b)
  unfolding row_in
  votes-stay ws low =
      let h = hall_of b in
      let rest = drop stored_length b in
      let valid = hall_of-valid b holds in
      let whole : b ≡ stored h ++ rest = sym (take-append-drop stored_length b) ∙ ap (λ (c : List ℕ). c ++ rest) (sym (stored-hall_of b holds)) in
      let left : hall_of (run_on b ws) ≡ run hl3 h ws =
      ap (λ (c : List ℕ). hall_of (run_on c ws)) whole
      ∙ ap hall_of (run-stored h rest ws valid low).0
      ∙ hall_of-stored (run hl3 h ws) (run-valid hl3 h ws low valid) rest in
      ap (λ (k : Hall). map k.votes (up_to max_recorders)) left
      ∙ ap (λ (f : ℕ → ℕ). map f (up_to max_recorders)) (votes-run hl3 h ws)

-- ## A hall that is opened with eight vote words

pub opened-row : (b : List ℕ) (o : Opening) → (open_on b o).number ≡ 0 → length o.row ≡ max_recorders → (ws : List Words) → WordsIn ws
    → row_in (hall_of (run_on (open_on b o).bytes ws)) ≡ o.row
unfolding row_in with_hall opened open_hall
opened-row b o t eight ws low =
    let d = open_done b o t in
    let rest = drop stored_length b in
    let valid = open-valid o d.0 in
    let left : hall_of (run_on (open_on b o).bytes ws) ≡ run hl3 (opened o) ws =
    ap (λ (c : List ℕ). hall_of (run_on c ws)) d.1
    ∙ ap hall_of (run-stored (opened o) rest ws valid low).0
    ∙ hall_of-stored (run hl3 (opened o) ws) (run-valid hl3 (opened o) ws low valid) rest in
    ap (λ (k : Hall). map k.votes (up_to max_recorders)) left
    ∙ ap (λ (f : ℕ → ℕ). map f (up_to max_recorders)) (votes-run hl3 (opened o) ws)
    ∙ ap (λ (n : ℕ). map (row_of o.row) (up_to n)) (sym eight)
    ∙ row_listed o.row
