-- The newest slot is put back in a copy, and its words are tried there.
-- Assumes nothing.
use borrow.Author.Rules.{rules}
use mathlib.Core.Path.{sym, ◌∙◌}
use Rattle.store.proofs.StoredFormLaws.{is_stored-long}
use Rattle.stepback.proofs.BackLaws.{no-hall, not-accepted, leads-same}
use Rattle.stepback.proofs.leads_back.Goals as goal

pub put_bytes-requires : goal.put_bytes-requires
put_bytes-requires c = (is_stored-long c.args.hall.now c.requires.0, search rules)

pub returns-then-not-is_hall : goal.returns-then-not-is_hall
returns-then-not-is_hall c =
    let a = c.args in
    no-hall a.hall.now a.undo.now c.requires.0 c.requires.1 _ (search rules) _ c.put_bytes.ensures _ c.put_back.ensures
    (sym c.is_hall.ensures ∙ c.if-not-is_hall.true)

pub step_hall-answer-requires : goal.step_hall-answer-requires
step_hall-answer-requires c = sym c.is_hall.ensures ∙ c.if-not-is_hall.false

pub same-requires : goal.same-requires
same-requires c = (search rules, is_stored-long c.args.hall.now c.requires.0)

pub returns-then-is_accepted : goal.returns-then-is_accepted
returns-then-is_accepted c =
    let a = c.args in
    let w = c.newest_action-w in
    let x = c.step_hall-answer in
    leads-same a.hall.now a.undo.now c.requires.0 c.requires.1 _ (search rules) _ c.put_bytes.ensures _ c.put_back.ensures
    (sym c.is_hall.ensures ∙ c.if-not-is_hall.false) w.result w.ensures x.result _ x.ensures (sym c.is_accepted.ensures ∙ c.if-is_accepted.true) c.same.result c.same.ensures

pub returns-else-is_accepted : goal.returns-else-is_accepted
returns-else-is_accepted c =
    let a = c.args in
    let w = c.newest_action-w in
    let x = c.step_hall-answer in
    c.if-is_accepted.false
    ∙ not-accepted a.hall.now a.undo.now c.requires.0 c.requires.1 _ (search rules) _ c.put_bytes.ensures _ c.put_back.ensures
    (sym c.is_hall.ensures ∙ c.if-not-is_hall.false) w.result w.ensures x.result _ x.ensures (sym c.is_accepted.ensures ∙ c.if-is_accepted.false)
