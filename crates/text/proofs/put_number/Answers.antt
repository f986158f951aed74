-- A space, then the number. Assumes nothing.
use Rattle.text.proofs.TextLaws.{then}
use Rattle.text.proofs.put_number.Goals as goal

pub returns : goal.returns
returns c = then c.put_one-next.ensures c.put_decimal.ensures
