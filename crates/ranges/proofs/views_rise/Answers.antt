-- At each view, at a number that does not rise, and at the end. Assumes nothing.
use Prim.Native.Nat.{ℕ, ◌+◌, ◌≤◌, ◌<◌}
use mathlib.Core.Path.{sym, subst}
use Rattle.ranges.proofs.TablePartsLaws.{Rises, rises-start, rises_next, rises-fail, rises-done}
use Rattle.ranges.proofs.views_rise.Goals as goal

pub loop-i-init : goal.loop-i-init
loop-i-init c = rises-start c.args.m c.args.b.now

pub returns-then-g-last : goal.returns-then-g-last
returns-then-g-last c =
    let a = c.args in
    let l = c.loop-i in
    sym
    (rises-fail a.m a.b.now l.i l.last c.loop-i-test.true
    (subst (λ (g : ℕ). g ≤ l.last) c.view_number-g.ensures c.if-g-last.true) l.invariant)

pub loop-i-preserved : goal.loop-i-preserved
loop-i-preserved c =
    let a = c.args in
    let l = c.loop-i in
    let e = c.view_number-g.ensures in
    subst (Rises a.m a.b.now (l.i + 1)) (sym e)
    (rises_next a.m a.b.now l.i l.last c.loop-i-test.true
    (subst (λ (g : ℕ). l.last < g) e c.if-g-last.false) l.invariant)

pub returns : goal.returns
returns c = sym (rises-done c.args.m c.args.b.now c.loop-i.i c.loop-i.last c.loop-i-test.false c.loop-i.invariant)
