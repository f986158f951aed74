-- The invariant: the calls taken so far, and what is left of the settle. Assumes nothing.
use borrow.Author.Rules.{rules}
use Rattle.settling.proofs.TakenLaws.{going-none, going_next, going-full, going_done, going-out}
use Rattle.settling.proofs.take_turns.Goals as goal

pub loop-count-init : goal.loop-count-init
loop-count-init c = going-none c.args.work.now c.args.v c.requires

pub returns-in-Full : goal.returns-in-Full
returns-in-Full c =
    let l = c.loop-count in
    going-full c.args.work.now c.args.v l.count _ l.invariant c.loop-count-test.true c.find_turn.result c.find_turn.ensures c.in-Full.is

pub returns-in-Nothing : goal.returns-in-Nothing
returns-in-Nothing c =
    let l = c.loop-count in
    going_done c.args.work.now c.args.v l.count _ l.invariant c.loop-count-test.true c.find_turn.result c.find_turn.ensures c.in-Nothing.is

pub loop-count-preserved : goal.loop-count-preserved
loop-count-preserved c =
    let l = c.loop-count in
    going_next c.args.work.now c.args.v l.count _ l.invariant c.loop-count-test.true c.find_turn.result c.find_turn.ensures _ _ c.in-Takes.is _
    c.take_call.ensures

pub returns : goal.returns
returns c = going-out c.args.work.now c.args.v c.loop-count.count _ c.loop-count.invariant (search rules)
