-- The word, the label and the value. Assumes nothing.
use native.Mathlib.Omega.{arith}
use Rattle.model.specs.Payloads.{payload_meaning}
use Rattle.model.specs.Listing.{fields_after, entry-word}
use Rattle.text.proofs.TextLaws.{then}
use Rattle.listing.proofs.LinesLaws.{length-entry}
use Rattle.listing.proofs.put_entry.Goals as goal

pub put_field-a-requires : goal.put_field-a-requires
put_field-a-requires c = let a = c.args in record { fits = omega (arith, length-entry a.e.view a.e.seq a.e.sender (payload_meaning a.e.payload)) }

pub put_label-b-requires : goal.put_label-b-requires
put_label-b-requires c = let a = c.args in record { fits = omega (arith, length-entry a.e.view a.e.seq a.e.sender (payload_meaning a.e.payload)) }

pub put_last-requires : goal.put_last-requires
put_last-requires c = let a = c.args in record { fits = omega (arith, length-entry a.e.view a.e.seq a.e.sender (payload_meaning a.e.payload)) }

pub returns : goal.returns
unfolding fields_after entry-word
returns c = then c.put_field-a.ensures (then c.put_label-b.ensures c.put_last.ensures)
