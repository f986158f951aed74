-- Barred, or turns on the copy. Assumes nothing.
use native.Mathlib.Omega.{arith}
use Rattle.store.proofs.StoredFormLaws.{is_stored-long}
use Rattle.settling.proofs.CopyLaws.{copy-barred, copy-view, copy-settled, view-there}
use Rattle.settling.proofs.settle_hall.Goals as goal

pub returns-in_err-bar_refusal : goal.returns-in_err-bar_refusal
returns-in_err-bar_refusal c =
    copy-barred c.from_residual.result _ c.from_residual.ensures.1 c.args.bytes.now c.requires.0 c.in_err-bar_refusal.ensures _

pub greatest_view-v-requires : goal.greatest_view-v-requires
greatest_view-v-requires c =
    let many = c.view_count.ensures.value in
    (c.requires.0, view-there c.args.bytes.now c.view_count.result many c.in_ok-bar_refusal.ensures, many)

pub put_bytes-requires : goal.put_bytes-requires
put_bytes-requires c = (is_stored-long c.args.bytes.now c.requires.0, omega (arith, c.requires.1))

pub take_turns-requires : goal.take_turns-requires
take_turns-requires c =
    let a = c.args in
    copy-view a.bytes.now c.requires.0 a.work.now c.requires.1 _ c.put_bytes.ensures c.greatest_view-v.result c.greatest_view-v.ensures

pub returns : goal.returns
returns c =
    let a = c.args in
    copy-settled a.bytes.now c.requires.0 a.work.now c.requires.1 _ c.put_bytes.ensures c.in_ok-bar_refusal.ensures
    c.greatest_view-v.result c.greatest_view-v.ensures c.take_turns.result _ c.take_turns.ensures
