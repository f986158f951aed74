-- By the flag. Assumes nothing.
use mathlib.Core.Path.{sym, ap₂, ◌∙◌}
use mathlib.Core.Bool.{◌&&◌}
use Rattle.validity.specs.Marks.{heard_ok}
use Rattle.validity.proofs.MarksLaws.{flag-on, unset}
use Rattle.validity.proofs.heard_one.Goals as goal

pub returns-then-b-at-ne1 : goal.returns-then-b-at-ne1
unfolding heard_ok
returns-then-b-at-ne1 c = unset _ _ c.if-b-at-ne1.true

pub returns-else-b-at-ne1 : goal.returns-else-b-at-ne1
unfolding heard_ok
returns-else-b-at-ne1 c = ap₂ ◌&&◌ c.is_member.ensures c.is_sent.ensures ∙ sym (flag-on _ _ c.if-b-at-ne1.false)
