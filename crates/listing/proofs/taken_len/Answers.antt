-- Each arm gives the length of its case. Assumes nothing.
use native.Mathlib.Omega.{arith}
use mathlib.Core.List.{[], ◌∷◌}
use Rattle.model.specs.Listing.{decimal, answer_fields, ok-word, from-word}
use Rattle.text.proofs.FieldsLaws.{length_fields, length-close}
use Rattle.listing.proofs.taken_len.Goals as goal

pub returns-in-Done : goal.returns-in-Done
unfolding answer_fields ok-word
returns-in-Done c = rw c.in-Done.is (omega (arith, length_fields ok-word [], length-close))

pub returns-in-Message : goal.returns-in-Message
unfolding answer_fields
returns-in-Message c = rw c.in-Message.is c.message_len.ensures

pub returns-in-From : goal.returns-in-From
unfolding answer_fields from-word
returns-in-From c =
    let s = c.in-From.s in
    rw c.in-From.is (omega (arith, length_fields from-word (decimal s.sender ∷ decimal s.payload.value ∷ [])))
