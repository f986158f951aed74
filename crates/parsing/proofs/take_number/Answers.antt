-- Assumes nothing.
use Rattle.std.proofs.Common.{rules}
use Rattle.story.specs.Numbers.{number_of}
use Rattle.parsing.proofs.take_number.Goals as goal

pub returns : goal.returns
returns c = c.take_field.ensures number_of (λ f x p. search rules)
