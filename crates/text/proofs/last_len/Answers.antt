-- A space, the number and the end of the line. Assumes nothing.
use native.Mathlib.Omega.{arith}
use mathlib.Core.List.{[]}
use Rattle.model.specs.Listing.{decimal}
use Rattle.text.proofs.FieldsLaws.{length_fields, length-close}
use Rattle.text.proofs.last_len.Goals as goal

pub returns : goal.returns
returns c = let a = c.args in omega (arith, length_fields (decimal a.x) [], length-close)
