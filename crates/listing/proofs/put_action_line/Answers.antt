-- The place, the kind, then the answer. Assumes nothing.
use native.Mathlib.Omega.{arith}
use Rattle.answer.specs.Meaning.{meaning_by}
use Rattle.text.proofs.TextLaws.{then}
use Rattle.listing.proofs.LinesLaws.{length-action}
use Rattle.model.specs.Listing.{fields_after, line, action_line}
use Rattle.listing.proofs.put_action_line.Goals as goal

pub put_decimal-after_place-requires : goal.put_decimal-after_place-requires
put_decimal-after_place-requires g c = let a = c.args in record { fits = omega (arith, length-action a.place a.kind (meaning_by g.E.Numbered.as_number a.a)) }

pub put_number-after_kind-requires : goal.put_number-after_kind-requires
put_number-after_kind-requires g c = let a = c.args in record { fits = omega (arith, length-action a.place a.kind (meaning_by g.E.Numbered.as_number a.a)) }

pub put_answer-requires : goal.put_answer-requires
put_answer-requires g c = let a = c.args in record { fits = omega (arith, length-action a.place a.kind (meaning_by g.E.Numbered.as_number a.a)) }

pub returns : goal.returns
unfolding fields_after line action_line
returns g c = then c.put_decimal-after_place.ensures (then c.put_number-after_kind.ensures c.put_answer.ensures)
