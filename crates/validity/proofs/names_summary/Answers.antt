-- By the count of sent summaries. Assumes nothing.
use mathlib.Core.Path.{sym, ap₂, ◌∙◌}
use mathlib.Core.Bool.{◌&&◌}
use Rattle.validity.proofs.MarksLaws.{flag-on, flag_off}
use Rattle.validity.specs.CrossParts.{summary_ok}
use Rattle.validity.proofs.names_summary.Goals as goal

pub returns-then-b-at-eq1 : goal.returns-then-b-at-eq1
unfolding summary_ok
returns-then-b-at-eq1 c = ap₂ ◌&&◌ c.names_set.ensures c.names_all.ensures ∙ sym (flag-on _ _ c.if-b-at-eq1.true)

pub returns-else-b-at-eq1 : goal.returns-else-b-at-eq1
unfolding summary_ok
returns-else-b-at-eq1 c = sym (flag_off _ _ c.if-b-at-eq1.false)
