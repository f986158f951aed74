-- 31, or a settle on a copy; that of one that is taken is written back. Assumes nothing.
use borrow.Author.Rules.{rules}
use native.Mathlib.Omega.{arith}
use Rattle.store.proofs.StoredFormLaws.{is_stored-long}
use Rattle.settling.proofs.CopyLaws.{checked, settle-broken, settle-taken, settle-refused}
use Rattle.settling.proofs.settle.Goals as goal

pub returns-in_err-bytes_refusal : goal.returns-in_err-bytes_refusal
returns-in_err-bytes_refusal c = settle-broken c.from_residual.result _ c.from_residual.ensures.1 c.args.bytes.now c.in_err-bytes_refusal.ensures

pub settle_hall-requires : goal.settle_hall-requires
settle_hall-requires c = (checked c.args.bytes.now c.in_ok-bytes_refusal.ensures, search rules)

pub returns-in_err-count : goal.returns-in_err-count
returns-in_err-count c =
    let r = c.from_residual-in_err-count in
    settle-refused r.result _ r.ensures.1 c.args.bytes.now _ c.in_err-count.ensures

pub put_bytes-requires : goal.put_bytes-requires
put_bytes-requires c =
    let b = c.args.bytes.now in
    (omega (arith, c.settle_hall.auto.work), is_stored-long b (checked b c.in_ok-bytes_refusal.ensures))

pub returns : goal.returns
returns c =
    let b = c.args.bytes.now in
    settle-taken b (checked b c.in_ok-bytes_refusal.ensures) _ _ c.in_ok-count.ensures c.settle_hall.auto.work _ c.put_bytes.ensures
