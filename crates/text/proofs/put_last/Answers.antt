-- The number, then the end of the line. Assumes nothing.
use native.Mathlib.Omega.{arith}
use mathlib.Core.List.{[]}
use Rattle.text.proofs.TextLaws.{then}
use Rattle.text.proofs.FieldsLaws.{length_fields, length-close}
use Rattle.model.specs.Listing.{decimal, fields_after}
use Rattle.text.proofs.put_last.Goals as goal

pub put_number-next-requires : goal.put_number-next-requires
put_number-next-requires c = let a = c.args in record { fits = omega (arith, length_fields (decimal a.x) [], length-close) }

pub put_one-requires : goal.put_one-requires
put_one-requires c = let a = c.args in record { fits = omega (arith, length_fields (decimal a.x) [], length-close) }

pub returns : goal.returns
unfolding fields_after
returns c = then c.put_number-next.ensures c.put_one.ensures
