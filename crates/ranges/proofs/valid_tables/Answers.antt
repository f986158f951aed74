-- The five tables in turn. Assumes nothing.
use Rattle.ranges.specs.TableParts.{tables_in}
use mathlib.Core.Path.{ap₂}
use mathlib.Core.Bool.{◌&&◌, and_assoc}
use Rattle.ranges.proofs.valid_tables.Goals as goal

pub returns : goal.returns
unfolding tables_in
returns c =
    simp and_assoc
    (ap₂ ◌&&◌ c.valid_entries.ensures
    (ap₂ ◌&&◌ c.valid_recorders.ensures
    (ap₂ ◌&&◌ c.valid_network.ensures (ap₂ ◌&&◌ c.valid_queues.ensures c.valid_votes.ensures))))
