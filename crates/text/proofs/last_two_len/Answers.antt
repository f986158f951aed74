-- A space, the first number and the last. Assumes nothing.
use native.Mathlib.Omega.{arith}
use mathlib.Core.List.{[], ◌∷◌}
use Rattle.model.specs.Listing.{decimal}
use Rattle.text.proofs.FieldsLaws.{length_fields}
use Rattle.text.proofs.last_two_len.Goals as goal

pub returns : goal.returns
returns c = let a = c.args in omega (arith, length_fields (decimal a.x) (decimal a.y ∷ []))
