-- Each turn is held. Assumes nothing.
use borrow.Author.Rules.{rules}
use Rattle.stepback.proofs.HeldTurns.{held_none, call-accepts, held_next, held-full, held-done, held_out}
use Rattle.stepback.proofs.take_turns.Goals as goal

pub loop-count-init : goal.loop-count-init
loop-count-init c = held_none c.args.hall.now c.args.undo.now c.args.v c.requires.0 c.requires.1

pub take_call-requires : goal.take_call-requires
take_call-requires c =
    let a = c.args in
    let l = c.loop-count in
    let f = c.find_turn in
    (l.invariant.form, call-accepts a.hall.now a.undo.now a.v l.count _ _ l.invariant c.loop-count-test.true f.result f.ensures _ _ c.in-Takes.is)

pub returns-in-Full : goal.returns-in-Full
returns-in-Full c =
    let a = c.args in
    let l = c.loop-count in
    let f = c.find_turn in
    held-full a.hall.now a.undo.now a.v l.count _ _ l.invariant c.loop-count-test.true f.result f.ensures c.in-Full.is

pub returns-in-Nothing : goal.returns-in-Nothing
returns-in-Nothing c =
    let a = c.args in
    let l = c.loop-count in
    let f = c.find_turn in
    held-done a.hall.now a.undo.now a.v l.count _ _ l.invariant c.loop-count-test.true f.result f.ensures c.in-Nothing.is

pub loop-count-preserved : goal.loop-count-preserved
loop-count-preserved c =
    let a = c.args in
    let l = c.loop-count in
    let f = c.find_turn in
    held_next a.hall.now a.undo.now a.v l.count _ _ l.invariant c.loop-count-test.true f.result f.ensures _ _ c.in-Takes.is _ _ c.take_call.ensures

pub returns : goal.returns
returns c =
    let a = c.args in
    held_out a.hall.now a.undo.now a.v c.loop-count.count _ _ c.loop-count.invariant (search rules)
