-- By the first field. Assumes nothing.
use Rattle.std.proofs.Common.{sym, ap, ap₂, ◌∙◌}
use borrow.Author.Tests.{eq-eqb, ne_eqb}
use Rattle.story.specs.Keywords.{word_number}
use Rattle.story.specs.Parsing.{line_from}
use Rattle.parsing.specs.Reading.{line_meaning}
use Rattle.parsing.proofs.LinesAt.{line-blank, line-some}
use Rattle.parsing.proofs.line_at.Goals as goal

pub returns-then-f : goal.returns-then-f
unfolding line_meaning
returns-then-f c = sym (line-blank _ (c.next_field-f.ensures.none ∙ eq-eqb _ _ c.if-f.true))

pub returns : goal.returns
returns c =
    let s = c.next_field-f.ensures in
    c.line_from.ensures
    ∙ sym
    (line-some _ (s.none ∙ ne_eqb _ _ c.if-f.false)
    ∙ ap₂ line_from (ap word_number s.field ∙ sym c.first_word-first.ensures) s.left)
