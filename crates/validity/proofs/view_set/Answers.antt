-- The view's byte, or none. Assumes nothing.
use mathlib.Core.Path.{sym}
use Rattle.validity.proofs.RawHallLaws.{set-in, set_out}
use Rattle.validity.proofs.view_set.Goals as goal

pub returns-then-i-m : goal.returns-then-i-m
returns-then-i-m c = sym (set-in c.args.b.now c.args.i c.if-i-m.true)

pub returns-else-i-m : goal.returns-else-i-m
returns-else-i-m c = sym (set_out c.args.b.now c.args.i c.if-i-m.false)
