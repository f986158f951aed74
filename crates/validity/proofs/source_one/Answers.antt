-- By the flag. Assumes nothing.
use mathlib.Core.Path.{sym, ◌∙◌}
use Rattle.validity.specs.Marks.{source_ok}
use Rattle.validity.proofs.MarksLaws.{flag-on, unset}
use Rattle.validity.proofs.source_one.Goals as goal

pub returns-then-b-at-ne1 : goal.returns-then-b-at-ne1
unfolding source_ok
returns-then-b-at-ne1 c = unset _ _ c.if-b-at-ne1.true

pub returns-else-b-at-ne1 : goal.returns-else-b-at-ne1
unfolding source_ok
returns-else-b-at-ne1 c = c.is_member.ensures ∙ sym (flag-on _ _ c.if-b-at-ne1.false)
