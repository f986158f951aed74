-- A hall reached from opening whose greatest view is primary settles: no 40 ends it (02, A5).
-- Assumes nothing.
use Prim.Native.Nat.{ℕ, zero, suc}
use mathlib.Core.Path.{◌≡◌, refl, ap, ◌∙◌}
use mathlib.Core.Bool.{true, false}
use mathlib.Core.List.{List, [], ◌∷◌}
use Rattle.model.specs.Hall.{Hall}
use Rattle.model.specs.Refusals.{Rules}
use Rattle.model.specs.Opening.{Opening, open_refusal, opened}
use Rattle.model.specs.Call.{Words, step}
use Rattle.model.specs.Run.{run}
use Rattle.model.specs.Settle.{greatest_view, cannot_settle, Turn, takes, full, none, turn_of, settle_calls, Settling, settled, refused, and_then, max_turns, settle_from, settle}
use Rattle.model.specs.Agreed.{FairRules}
use Rattle.model.proofs.Settling.TurnLaws.{Finds, finds}
use Rattle.progress.proofs.Reached.{Reached, reached-step, reached-from}
use Rattle.progress.proofs.NeverFull.{never-40}

-- it is no refusal
abbrev Settles : Settling → Type 0
Settles s = (ss : List Words) × (s ≡ settled ss)

and-then : (w : Words) (s : Settling) → Settles s → Settles (and_then w s)
unfolding and_then
and-then w s k = (w ∷ k.0, ap (and_then w) k.1)

from-settles : (rules : Rules) → FairRules rules → (n g : ℕ) (h : Hall) → Reached rules h → Settles (settle_from rules n g h)
unfolding settle_from turn_of Finds
from-settles rules fair zero g h x = ([], refl)
from-settles rules fair (suc n) g h x =
    go (λ h x. from-settles rules fair n g h x) (turn_of rules h g) (finds rules h g (settle_calls g (h.service.members g)))
  where
    go : ((h : Hall) → Reached rules h → Settles (settle_from rules n g h)) → (t : Turn)
        → Finds rules h g (settle_calls g (h.service.members g)) t
        → Settles (elim t [ takes w ↦ and_then w (settle_from rules n g (step rules h w).hall) | full ↦ refused 40 | none ↦ settled [] ])
    go ih (takes w) f = and-then w (settle_from rules n g (step rules h w).hall) (ih (step rules h w).hall (reached-step rules fair h w x))
    go ih full f = absurd (never-40 rules fair h x f.0 f.1.number)
    go ih none f = ([], refl)

-- a reached hall whose greatest view is primary settles
pub settle-full-never : (rules : Rules) → FairRules rules → (o : Opening) → open_refusal o ≡ 0 → (ws : List Words)
    → cannot_settle (run rules (opened o) ws) ≡ false → (ss : List Words) × (settle rules (run rules (opened o) ws) ≡ settled ss)
unfolding settle
settle-full-never rules fair o taken ws can =
    let h = run rules (opened o) ws in
    let k = from-settles rules fair max_turns (greatest_view h) h (reached-from rules fair o taken ws) in
    (k.0, ap (λ t. elim t [ true ↦ refused 42 | false ↦ settle_from rules max_turns (greatest_view h) h ]) can ∙ k.1)
