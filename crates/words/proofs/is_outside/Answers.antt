-- `words::is_outside` meets its contract. Assumes nothing.
use Rattle.words.proofs.WordsLaws.{below, above}
use Rattle.words.proofs.is_outside.Goals as goal

pub returns-then-w-low : goal.returns-then-w-low
returns-then-w-low c = let a = c.args in below a.low a.high a.w c.if-w-low.true

pub returns-else-w-low : goal.returns-else-w-low
returns-else-w-low c = let a = c.args in above a.low a.high a.w c.if-w-low.false
