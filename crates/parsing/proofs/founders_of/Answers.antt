-- The whole hall, or a set. Assumes nothing.
use Rattle.std.proofs.Common.{ap, rules, ◌∙◌}
use Rattle.story.specs.Numbers as numbers
use Rattle.story.specs.Keywords.{whole_word}
use Rattle.story.specs.Printing.{whole_mask}
use Rattle.parsing.proofs.LinesAt.{whole-founders, set-founders}
use Rattle.parsing.proofs.founders_of.Goals as goal

pub returns-then-eq : goal.returns-then-eq
unfolding whole_word
returns-then-eq c =
    ap numbers.value (c.all_of.ensures ∙ ap whole_mask c.min.ensures) ∙ whole-founders c.args.n c.args.field.now (search rules)

pub returns : goal.returns
unfolding whole_word
returns c = set-founders c.args.n c.args.field.now c.set_of.result c.filter.result (search rules) c.set_of.ensures (search rules)
