-- A space, three numbers and two points. Assumes nothing.
use native.Mathlib.Omega.{arith}
use Rattle.text.proofs.FieldsLaws.{length_label}
use Rattle.text.proofs.label_len.Goals as goal

pub returns : goal.returns
returns c = let a = c.args in omega (arith, length_label a.view a.seq a.sender)
