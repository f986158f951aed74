-- The word, then the two counts. Assumes nothing.
use native.Mathlib.Omega.{arith}
use mathlib.Core.List.{[], ◌∷◌}
use Rattle.model.specs.Listing.{decimal, end-word, end_line}
use Rattle.text.proofs.FieldsLaws.{length-line}
use Rattle.listing.proofs.end_line_len.Goals as goal

pub returns : goal.returns
unfolding end-word end_line
returns c = let a = c.args in omega (arith, length-line end-word (decimal a.yes ∷ decimal a.no ∷ []))
