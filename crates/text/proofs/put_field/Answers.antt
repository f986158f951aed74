-- A space, then the word. Assumes nothing.
use Rattle.text.proofs.TextLaws.{then}
use Rattle.text.proofs.put_field.Goals as goal

pub returns : goal.returns
returns c = then c.put_one-next.ensures c.put_word.ensures
