-- The word, then the five numbers. Assumes nothing.
use native.Mathlib.Omega.{arith}
use Rattle.text.proofs.TextLaws.{then}
use Rattle.listing.proofs.LinesLaws.{length-summary}
use Rattle.model.specs.Listing.{fields_after, summary-word}
use Rattle.listing.proofs.put_summary.Goals as goal

pub put_field-a-requires : goal.put_field-a-requires
put_field-a-requires c = let a = c.args in record { fits = omega (arith, length-summary a.source a.s.known a.s.order a.s.confirm a.s.high) }

pub put_number-b-requires : goal.put_number-b-requires
put_number-b-requires c = let a = c.args in record { fits = omega (arith, length-summary a.source a.s.known a.s.order a.s.confirm a.s.high) }

pub put_number-c-requires : goal.put_number-c-requires
put_number-c-requires c = let a = c.args in record { fits = omega (arith, length-summary a.source a.s.known a.s.order a.s.confirm a.s.high) }

pub put_number-d-requires : goal.put_number-d-requires
put_number-d-requires c = let a = c.args in record { fits = omega (arith, length-summary a.source a.s.known a.s.order a.s.confirm a.s.high) }

pub put_last_two-requires : goal.put_last_two-requires
put_last_two-requires c = let a = c.args in record { fits = omega (arith, length-summary a.source a.s.known a.s.order a.s.confirm a.s.high) }

pub returns : goal.returns
unfolding fields_after summary-word
returns c = then c.put_field-a.ensures (then c.put_number-b.ensures (then c.put_number-c.ensures (then c.put_number-d.ensures c.put_last_two.ensures)))
