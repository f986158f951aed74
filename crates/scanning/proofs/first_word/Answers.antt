-- The words of the kinds, then the others. Assumes nothing.
use Rattle.std.proofs.Common.{sym, ap, rules, ◌∙◌}
use Rattle.model.specs.Listing.{hall-word}
use Rattle.story.specs.Keywords.{raw_word, word_number}
use Rattle.story.proofs.KeywordsLaws.{raw-number, hall-number}
use Rattle.scanning.proofs.ValuesAt.{no-word-number}
use Rattle.scanning.proofs.first_word.Goals as goal

pub returns-then-eq : goal.returns-then-eq
unfolding raw_word
returns-then-eq c = sym (ap word_number (search rules) ∙ raw-number)

pub returns-then-eq-2 : goal.returns-then-eq-2
unfolding hall-word
returns-then-eq-2 c = sym (ap word_number (search rules) ∙ hall-number)

pub returns-else-eq-2 : goal.returns-else-eq-2
unfolding raw_word hall-word
returns-else-eq-2 c = sym (c.in_default.ensures ∙ no-word-number c.args.field.now (search rules) (search rules))
