-- The word, then sender and value. Assumes nothing.
use native.Mathlib.Omega.{arith}
use mathlib.Core.List.{[], ◌∷◌}
use Rattle.model.specs.Listing.{decimal, fields_after, from-word}
use Rattle.text.proofs.TextLaws.{then}
use Rattle.text.proofs.FieldsLaws.{length_fields}
use Rattle.listing.proofs.put_sent.Goals as goal

pub put_field-next-requires : goal.put_field-next-requires
unfolding from-word
put_field-next-requires c = let a = c.args in record { fits = omega (arith, length_fields from-word (decimal a.s.sender ∷ decimal a.s.payload.value ∷ [])) }

pub put_last_two-requires : goal.put_last_two-requires
unfolding from-word
put_last_two-requires c = let a = c.args in record { fits = omega (arith, length_fields from-word (decimal a.s.sender ∷ decimal a.s.payload.value ∷ [])) }

pub returns : goal.returns
unfolding fields_after from-word
returns c = then c.put_field-next.ensures c.put_last_two.ensures
