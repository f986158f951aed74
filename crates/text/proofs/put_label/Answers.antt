-- Three numbers, with a point between them. Assumes nothing.
use native.Mathlib.Omega.{arith}
use Rattle.text.proofs.TextLaws.{then}
use Rattle.text.proofs.FieldsLaws.{length_label}
use Rattle.model.specs.Listing.{label_text}
use Rattle.text.proofs.put_label.Goals as goal

pub put_number-a-requires : goal.put_number-a-requires
put_number-a-requires c = let a = c.args in record { fits = omega (arith, length_label a.view a.seq a.sender) }

pub put_one-b-requires : goal.put_one-b-requires
put_one-b-requires c = let a = c.args in record { fits = omega (arith, length_label a.view a.seq a.sender) }

pub put_decimal-c-requires : goal.put_decimal-c-requires
put_decimal-c-requires c = let a = c.args in record { fits = omega (arith, length_label a.view a.seq a.sender) }

pub put_one-d-requires : goal.put_one-d-requires
put_one-d-requires c = let a = c.args in record { fits = omega (arith, length_label a.view a.seq a.sender) }

pub put_decimal-requires : goal.put_decimal-requires
put_decimal-requires c = let a = c.args in record { fits = omega (arith, length_label a.view a.seq a.sender) }

pub returns : goal.returns
unfolding label_text
returns c = then c.put_number-a.ensures (then c.put_one-b.ensures (then c.put_decimal-c.ensures (then c.put_one-d.ensures c.put_decimal.ensures)))
