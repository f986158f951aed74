-- The word, then the two counts. Assumes nothing.
use native.Mathlib.Omega.{arith}
use mathlib.Core.List.{[], ◌∷◌}
use Rattle.text.proofs.TextLaws.{then}
use Rattle.text.proofs.FieldsLaws.{length-line}
use Rattle.model.specs.Listing.{decimal, line, end_line, end-word}
use Rattle.listing.proofs.put_end_line.Goals as goal

pub put_word-next-requires : goal.put_word-next-requires
unfolding end-word end_line
put_word-next-requires c = let a = c.args in record { fits = omega (arith, length-line end-word (decimal a.yes ∷ decimal a.no ∷ [])) }

pub put_last_two-requires : goal.put_last_two-requires
unfolding end-word end_line
put_last_two-requires c = let a = c.args in record { fits = omega (arith, length-line end-word (decimal a.yes ∷ decimal a.no ∷ [])) }

pub returns : goal.returns
unfolding end-word end_line line
returns c = then c.put_word-next.ensures c.put_last_two.ensures
