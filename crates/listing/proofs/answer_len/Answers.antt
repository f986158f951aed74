-- By the two cases. Assumes nothing.
use native.Mathlib.Omega.{arith}
use mathlib.Core.List.{[], ◌∷◌}
use Rattle.model.specs.Listing.{decimal, answer_fields, refused-word}
use Rattle.text.proofs.FieldsLaws.{length_fields}
use Rattle.listing.proofs.answer_len.Goals as goal

pub returns-in-Ok : goal.returns-in-Ok
returns-in-Ok g c = rw c.in-Ok.is c.taken_len.ensures

pub returns-in-Err : goal.returns-in-Err
unfolding answer_fields refused-word
returns-in-Err g c =
    let k = g.E.Numbered.as_number c.in-Err.why in
    rw c.in-Err.is (omega (arith, rw c.to_number.ensures at c.last_len.ensures, length_fields refused-word (decimal k ∷ [])))
