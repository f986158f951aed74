-- `words::wrong_opening` meets its contract. Assumes nothing.
use native.Mathlib.Omega.{arith}
use mathlib.Core.Path.{sym, ◌∙◌}
use Rattle.words.proofs.WordsLaws.{inside, by_size}
use Rattle.words.proofs.wrong_opening.Goals as goal

pub names_above-requires : goal.names_above-requires
names_above-requires c = let n = c.args.n in omega (arith, (inside 1 8 n (sym c.is_outside.ensures ∙ c.if-is_outside.false)).1)

pub returns-then-is_outside : goal.returns-then-is_outside
returns-then-is_outside c = c.if-is_outside.true ∙ sym (by_size _ _ (sym c.is_outside.ensures ∙ c.if-is_outside.true))

pub returns-else-is_outside : goal.returns-else-is_outside
returns-else-is_outside c = c.names_above.ensures ∙ sym (by_size _ _ (sym c.is_outside.ensures ∙ c.if-is_outside.false))
