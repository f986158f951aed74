-- The word, then the number. Assumes nothing.
use native.Mathlib.Omega.{arith}
use mathlib.Core.List.{[], ◌∷◌}
use Rattle.text.proofs.TextLaws.{then}
use Rattle.text.proofs.FieldsLaws.{length_fields}
use Rattle.model.specs.Listing.{decimal, fields_after, refused-word}
use Rattle.listing.proofs.put_refusal.Goals as goal

pub put_field-next-requires : goal.put_field-next-requires
unfolding refused-word
put_field-next-requires g c = let a = c.args in record { fits = omega (arith, length_fields refused-word (decimal (g.E.Numbered.as_number a.why) ∷ [])) }

pub put_last-requires : goal.put_last-requires
unfolding refused-word
put_last-requires g c = let a = c.args in rw c.to_number.ensures (record { fits = omega (arith, length_fields refused-word (decimal (g.E.Numbered.as_number a.why) ∷ [])) })

pub returns : goal.returns
unfolding fields_after refused-word
returns g c = then c.put_field-next.ensures (rw c.to_number.ensures at c.put_last.ensures)
