-- The invariant: the calls at the members passed so far give nothing. Assumes nothing.
use borrow.Author.Rules.{rules}
use native.Mathlib.Omega.{arith}
use mathlib.Core.Path.{◌≡◌, sym, ap, ◌∙◌}
use Prim.Native.Nat.{◌+◌, ◌-◌, ◌≤◌}
use Rattle.model.specs.KindNumbers.{kind_number}
use Rattle.model.specs.RefusalNumbers.{number}
use Rattle.store.specs.StoredForm.{hall_of}
use Rattle.settling.specs.Turns.{found}
use Rattle.settling.proofs.TurnSteps.{turn_over, over-members, over-taken, over-full, over-passed, over-none}
use Rattle.settling.proofs.find_call.Goals as goal

pub loop-r-init : goal.loop-r-init
loop-r-init c =
    let a = c.args in
    let h = hall_of a.b.now in
    let size : h.size ≡ c.size-r-end.result + 1 - 1 = omega (arith, c.size-r-end.ensures.value) in
    over-members h a.v (kind_number a.k) h.size ∙ ap (turn_over h a.v (kind_number a.k) 1) size

pub returns-in_default : goal.returns-in_default
unfolding found
returns-in_default c =
    let a = c.args in
    over-taken (hall_of a.b.now) a.v (kind_number a.k) _ c.loop-r.r (search rules) c.in_default.ensures ∙ sym c.loop-r.invariant

pub returns-in-Full : goal.returns-in-Full
unfolding found
returns-in-Full c =
    let a = c.args in
    over-full (hall_of a.b.now) a.v (kind_number a.k) _ c.loop-r.r (search rules) (sym (ap number c.in-Full.is) ∙ c.in-Err.ensures)
    ∙ sym c.loop-r.invariant

pub loop-r-preserved : goal.loop-r-preserved
loop-r-preserved c =
    let a = c.args in
    c.loop-r.invariant
    ∙ over-passed (hall_of a.b.now) a.v (kind_number a.k) _ c.loop-r.r (search rules) c.in-Err.why c.in-Err.ensures c.in_default-why.not-Full

pub returns : goal.returns
unfolding found
returns c =
    let a = c.args in
    over-none (hall_of a.b.now) a.v (kind_number a.k) _ c.loop-r.r (search rules) ∙ sym c.loop-r.invariant

pub returns-in_default-why : goal.returns-in_default-why
unfolding found
returns-in_default-why c =
    let a = c.args in
    let last : c.size-r-end.result + 1 ≤ c.loop-r.r + 1 = search rules in
    over-none (hall_of a.b.now) a.v (kind_number a.k) _ (c.loop-r.r + 1) last
    ∙ sym (c.loop-r.invariant
    ∙ over-passed (hall_of a.b.now) a.v (kind_number a.k) _ c.loop-r.r (search rules) c.in-Err.why c.in-Err.ensures c.in_default-why.not-Full)
