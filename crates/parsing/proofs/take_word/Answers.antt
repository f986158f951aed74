-- By the use of the word. Assumes nothing.
use Rattle.std.proofs.Common.{refl, subst, rules}
use Rattle.story.specs.Sets.{set_of}
use Rattle.story.specs.Parsing as story
use Rattle.story.specs.Parsing.{take_word}
use Rattle.words.specs.Words.{use_of}
use Rattle.parsing.specs.Reading.{Takes}
use Rattle.parsing.proofs.LinesAt.{word-number}
use Rattle.parsing.proofs.take_word.Goals as goal

pub returns-in-Unused : goal.returns-in-Unused
unfolding take_word use_of
returns-in-Unused c = rw c.in-Unused.is (record { form = refl; same = refl; left = refl; within = c.requires })

pub returns-in-Set : goal.returns-in-Set
unfolding take_word use_of
returns-in-Set c = rw c.in-Set.is (c.take_field.ensures set_of (λ f x p. search rules))

pub returns-in_default : goal.returns-in_default
returns-in_default c =
    subst (λ (x : story.Taken). Takes c.args.text.now x c.take_number.result) (word-number c.args.u _ c.in_default.not-Unused c.in_default.not-Set) c.take_number.ensures
