-- `words::names_above` meets its contract. Assumes nothing.
use Rattle.words.proofs.WordsLaws.{bits_above}
use Rattle.words.proofs.names_above.Goals as goal

pub returns : goal.returns
returns c = bits_above c.args.n c.args.mask
