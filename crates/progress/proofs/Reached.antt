-- What holds of every hall reached from opening: demand 3's invariants, once, and the sizes.
-- Assumes nothing.
use mathlib.Core.Path.{◌≡◌}
use mathlib.Core.List.{List}
use Rattle.model.specs.Hall.{Hall}
use Rattle.model.specs.Refusals.{Rules}
use Rattle.model.specs.Opening.{Opening, open_refusal, opened}
use Rattle.model.specs.Call.{Words, step}
use Rattle.model.specs.Run.{run}
use Rattle.model.specs.Agreed.{FairRules}
use Rattle.model.proofs.Accepting.Moves.{Move}
use Rattle.model.proofs.Accepting.Performed.{LowMarks}
use Rattle.model.proofs.Accepting.Accepted.{step_keeps, run-keeps}
use Rattle.model.proofs.Agreement.Invariants.{Inv}
use Rattle.model.proofs.Agreement.Reached.{inv-opened, inv-keep}
use Rattle.progress.proofs.Once.{OnceOf, once-opened, once-keep}
use Rattle.progress.proofs.Sizes.{SizesOf, sizes-opened, sizes-keep}

pub record Reached (rules : Rules) (h : Hall) : Type 0 where
  pub inv : Inv rules h
  pub once : OnceOf h
  pub sizes : SizesOf h

pub reached-opened : (rules : Rules) (o : Opening) → open_refusal o ≡ 0 → Reached rules (opened o)
reached-opened rules o taken = record { inv = inv-opened rules o; once = once-opened o; sizes = sizes-opened o taken }

pub reached-low : (rules : Rules) (h : Hall) → Reached rules h → LowMarks h
reached-low rules h x = (x.inv.marks.low, x.inv.marks.low_safe)

module _ (rules : Rules) (fair : FairRules rules) where
  pub reached-keep : (h h' : Hall) → Move rules h h' → Reached rules h → Reached rules h'
  reached-keep h h' m x =
      record {
        inv = inv-keep rules fair h h' m x.inv;
        once = once-keep rules h h' m x.once;
        sizes = sizes-keep rules h h' m x.sizes;
      }

  pub reached-step : (h : Hall) (w : Words) → Reached rules h → Reached rules (step rules h w).hall
  reached-step = step_keeps rules (Reached rules) (reached-low rules) reached-keep

  pub reached-run : (h : Hall) (ws : List Words) → Reached rules h → Reached rules (run rules h ws)
  reached-run = run-keeps rules (Reached rules) (reached-low rules) reached-keep

  pub reached-from : (o : Opening) → open_refusal o ≡ 0 → (ws : List Words) → Reached rules (run rules (opened o) ws)
  reached-from o taken ws = reached-run (opened o) ws (reached-opened rules o taken)
