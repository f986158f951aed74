-- By the count: zeros, a summary, or more than one. Assumes nothing.
use native.Mathlib.Omega.{arith}
use mathlib.Core.Path.{sym, ◌∙◌}
use Rattle.ranges.proofs.CellPartsLaws.{sent-none, sent-some, sent-over}
use Rattle.ranges.proofs.valid_sent.Goals as goal

pub returns-in-0 : goal.returns-in-0
returns-in-0 c = c.is_zero.ensures ∙ sym (sent-none c.args.at c.args.b.now c.requires c.in-0.is)

pub returns-in-1 : goal.returns-in-1
returns-in-1 c = c.valid_summary.ensures ∙ sym (sent-some c.args.at c.args.b.now c.requires c.in-1.is)

pub returns-in_default : goal.returns-in_default
returns-in_default c = sym (sent-over c.args.at c.args.b.now c.requires (omega (arith, c.in_default)))
