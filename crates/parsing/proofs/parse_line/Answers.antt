-- Assumes nothing.
use mathlib.Core.Path.{sym, ap, ◌∙◌}
use native.Mathlib.Omega.{arith}
use Rattle.story.specs.Parsing.{line_of}
use Rattle.parsing.specs.Reading.{line_meaning}
use Rattle.scanning.proofs.FieldsAt.{drop_past, line-past}
use Rattle.parsing.proofs.LinesAt.{line-nothing}
use borrow.Author.Rules.{rules}
use Rattle.parsing.proofs.parse_line.Goals as goal

pub returns-then-text-at : goal.returns-then-text-at
unfolding line_meaning
returns-then-text-at c =
    let a = c.args in
    let past = drop_past a.text.now a.at (search rules) in
    (sym (ap line_of past ∙ line-nothing), omega (arith, line-past a.text.now a.at (search rules)))
