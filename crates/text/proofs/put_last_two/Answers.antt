-- The first number, then the last. Assumes nothing.
use native.Mathlib.Omega.{arith}
use mathlib.Core.List.{[], ◌∷◌}
use Rattle.text.proofs.TextLaws.{then}
use Rattle.text.proofs.FieldsLaws.{length_fields}
use Rattle.model.specs.Listing.{decimal, fields_after}
use Rattle.text.proofs.put_last_two.Goals as goal

pub put_number-next-requires : goal.put_number-next-requires
put_number-next-requires c = let a = c.args in record { fits = omega (arith, length_fields (decimal a.x) (decimal a.y ∷ [])) }

pub put_last-requires : goal.put_last-requires
put_last-requires c = let a = c.args in record { fits = omega (arith, length_fields (decimal a.x) (decimal a.y ∷ [])) }

pub returns : goal.returns
unfolding fields_after
returns c = then c.put_number-next.ensures c.put_last.ensures
