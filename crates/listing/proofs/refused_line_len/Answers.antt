-- The word, then the number. Assumes nothing.
use native.Mathlib.Omega.{arith}
use mathlib.Core.List.{[], ◌∷◌}
use Rattle.model.specs.Listing.{decimal, refused-word, refused_line}
use Rattle.text.proofs.FieldsLaws.{length-line}
use Rattle.listing.proofs.refused_line_len.Goals as goal

pub returns : goal.returns
unfolding refused-word refused_line
returns c = let a = c.args in omega (arith, length-line refused-word (decimal a.k ∷ []))
