-- By the bits. Assumes nothing.
use mathlib.Core.Path.{ap, ◌∙◌}
use mir.Facts.{to_z-of_z}
use Rattle.model.specs.Answers.{word}
use Rattle.answer.proofs.WordLaws.{bits-word}
use Rattle.answer.proofs.word.Goals as goal

pub returns : goal.returns
returns c = c.cast_unsigned.ensures ∙ bits-word _ ∙ ap word (to_z-of_z c.ranges.m)
