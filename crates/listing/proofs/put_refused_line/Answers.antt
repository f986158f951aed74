-- The word, then the number. Assumes nothing.
use native.Mathlib.Omega.{arith}
use mathlib.Core.List.{[], ◌∷◌}
use Rattle.model.specs.Listing.{decimal, line, refused-word, refused_line}
use Rattle.text.proofs.TextLaws.{then}
use Rattle.text.proofs.FieldsLaws.{length-line}
use Rattle.listing.proofs.put_refused_line.Goals as goal

pub put_word-next-requires : goal.put_word-next-requires
unfolding refused-word refused_line
put_word-next-requires c = let a = c.args in record { fits = omega (arith, length-line refused-word (decimal a.k ∷ [])) }

pub put_last-requires : goal.put_last-requires
unfolding refused-word refused_line
put_last-requires c = let a = c.args in record { fits = omega (arith, length-line refused-word (decimal a.k ∷ [])) }

pub returns : goal.returns
unfolding refused-word refused_line line
returns c = then c.put_word-next.ensures c.put_last.ensures
