-- The place, the kind, then the answer. Assumes nothing.
use native.Mathlib.Omega.{arith}
use Rattle.answer.specs.Meaning.{meaning_by}
use Rattle.listing.proofs.LinesLaws.{length-action}
use Rattle.listing.proofs.action_line_len.Goals as goal

pub returns : goal.returns
returns g c = let a = c.args in omega (arith, length-action a.place a.kind (meaning_by g.E.Numbered.as_number a.a))
