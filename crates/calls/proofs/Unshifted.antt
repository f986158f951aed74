-- "Operators dislike seeing entries shift" (02, A3), on the bytes: an opening that is taken, then any list of calls, each lent
-- the bytes that the one before left, and one call more.
-- Assumes nothing.
use Prim.Native.Nat.{ℕ, ◌^◌, ◌<◌}
use mathlib.Core.Path.{◌≡◌, sym, ap, ◌∙◌, subst}
use mathlib.Core.List.{List, ◌++◌}
use lib.ListN.{drop}
use Rattle.model.specs.Hall.{Hall}
use Rattle.model.specs.Opening.{Opening, opened}
use Rattle.model.specs.Call.{Words, WordsIn, hl3, step}
use Rattle.model.specs.Run.{run}
use Rattle.model.specs.Unshifted.{Unshifted}
use Rattle.model.proofs.Agreement.Unshifted.{unshifted}
use Rattle.store.specs.Layout.{stored_length}
use Rattle.store.specs.Valid.{ValidHall}
use Rattle.store.specs.StoredForm.{stored, hall_of}
use Rattle.store.proofs.StoredFormLaws.{hall_of-stored}
use Rattle.store.proofs.KeepValid.{step-valid, run-valid, open-valid}
use Rattle.calls.specs.Calls.{open_on, step_on, run_on, with_hall}
use Rattle.calls.proofs.OpenLaws.{open_done}
use Rattle.calls.proofs.RunLaw.{step-stored, run-stored}

-- the hall in the bytes, before the call and after it, is the run's
pub unshifted-on : (b : List ℕ) (o : Opening) → (open_on b o).number ≡ 0 → (ws : List Words) → WordsIn ws → (w : Words) → w.a < 2 ^ 32
    → (p : ℕ) → Unshifted (hall_of (run_on (open_on b o).bytes ws)) (hall_of (step_on (run_on (open_on b o).bytes ws) w).bytes) p
unfolding with_hall
unshifted-on b o t ws low w small p =
    let none-refused = (open_done b o t).0 in
    let h = run hl3 (opened o) ws in
    let h' = (step hl3 h w).hall in
    let rest = drop stored_length b in
    let opened-valid = open-valid o none-refused in
    let valid : ValidHall h = run-valid hl3 (opened o) ws low opened-valid in
    let left = run_on (open_on b o).bytes ws in
    let left_is : left ≡ stored h ++ rest =
    ap (λ (c : List ℕ). run_on c ws) (open_done b o t).1 ∙ (run-stored (opened o) rest ws opened-valid low).0 in
    let before : hall_of left ≡ h = ap hall_of left_is ∙ hall_of-stored h valid rest in
    let after : hall_of (step_on left w).bytes ≡ h' =
    ap (λ (c : List ℕ). hall_of (step_on c w).bytes) left_is
    ∙ ap hall_of (step-stored h valid rest w).1
    ∙ hall_of-stored h' (step-valid hl3 h w small valid) rest in
    subst (λ (x : Hall). Unshifted x (hall_of (step_on left w).bytes) p) (sym before)
    (subst (λ (x : Hall). Unshifted h x p) (sym after) (unshifted o none-refused ws w p))
