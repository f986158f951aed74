-- Slices of these lengths are never too short. Assumes nothing.
use Rattle.std.proofs.Common.{rules}
use Rattle.replaying.proofs.Whole.{always-listed}
use Rattle.replay.proofs.replay.Goals as goal

pub returns : goal.returns
returns c =
    rw c.unwrap_or.ensures
    (always-listed c.args.file.now _ c.args.text.now (λ i. (c.type_inv.file i).fits) (search rules) c.requires c.list_run.result _ _ c.list_run.ensures)
