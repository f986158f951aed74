-- The invariant: the kinds passed so far give nothing. Assumes nothing.
use borrow.Author.Rules.{rules}
use mathlib.Core.Path.{◌≡◌, sym, ap, ◌∙◌}
use Rattle.quorum.specs.Sets.{members}
use Rattle.store.specs.StoredForm.{hall_of}
use Rattle.settling.specs.Turns.{found}
use Rattle.settling.proofs.TurnSteps.{turn_from, from_first, from_last, from_found, from_next}
use Rattle.settling.proofs.find_turn.Goals as goal

pub loop-k-init : goal.loop-k-init
loop-k-init c = from_first (hall_of c.args.b.now) c.args.v.number (members (hall_of c.args.b.now).size c.args.v.set)

pub returns-in_default : goal.returns-in_default
returns-in_default c =
    let a = c.args in
    let h = hall_of a.b.now in
    from_found h a.v.number (members h.size a.v.set) c.loop-k.k-index c.loop-k-test.true c.find_call.result c.find_call.ensures c.in_default.not-Nothing
    ∙ sym c.loop-k.invariant

pub loop-k-preserved : goal.loop-k-preserved
loop-k-preserved c =
    let a = c.args in
    let h = hall_of a.b.now in
    c.loop-k.invariant
    ∙ from_next h a.v.number (members h.size a.v.set) c.loop-k.k-index c.loop-k-test.true c.find_call.result c.find_call.ensures c.in-Nothing.is

pub returns : goal.returns
unfolding found
returns c =
    let a = c.args in
    let h = hall_of a.b.now in
    let ms = members h.size a.v.set in
    let all : 9 ≡ c.loop-k.k-index = search rules in
    from_last h a.v.number ms ∙ ap (turn_from h a.v.number ms) all ∙ sym c.loop-k.invariant
