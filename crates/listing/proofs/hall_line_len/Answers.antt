-- The word, then the number. Assumes nothing.
use native.Mathlib.Omega.{arith}
use mathlib.Core.List.{[], ◌∷◌}
use Rattle.model.specs.Listing.{decimal, hall-word}
use Rattle.text.proofs.FieldsLaws.{length-line}
use Rattle.listing.proofs.hall_line_len.Goals as goal

pub returns : goal.returns
unfolding hall-word
returns c = let a = c.args in omega (arith, length-line hall-word (decimal a.n ∷ []))
