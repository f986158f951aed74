-- The word, then the number. Assumes nothing.
use native.Mathlib.Omega.{arith}
use mathlib.Core.List.{[], ◌∷◌}
use Rattle.model.specs.Listing.{decimal, line, hall-word}
use Rattle.text.proofs.TextLaws.{then}
use Rattle.text.proofs.FieldsLaws.{length-line}
use Rattle.listing.proofs.put_hall_line.Goals as goal

pub put_word-next-requires : goal.put_word-next-requires
unfolding hall-word
put_word-next-requires c = let a = c.args in record { fits = omega (arith, length-line hall-word (decimal a.n ∷ [])) }

pub put_last-requires : goal.put_last-requires
unfolding hall-word
put_last-requires c = let a = c.args in record { fits = omega (arith, length-line hall-word (decimal a.n ∷ [])) }

pub returns : goal.returns
unfolding hall-word line
returns c = then c.put_word-next.ensures c.put_last.ensures
