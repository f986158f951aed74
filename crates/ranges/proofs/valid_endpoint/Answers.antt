-- Its fields in turn. Assumes nothing.
use native.Mathlib.Nat.{add_assoc}
use mathlib.Core.Bool.{and_assoc}
use Rattle.ranges.proofs.CellPartsLaws.{endpoint-part}
use Rattle.ranges.proofs.valid_endpoint.Goals as goal

pub returns : goal.returns
returns c = simp and_assoc (cc (simp add_assoc at (endpoint-part c.args.at c.args.b.now c.requires)))
