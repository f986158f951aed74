-- 16 and 41, then 18; else the hall is begun, and its recorders start. Assumes nothing.
use mathlib.Core.Path.{sym, ap}
use Rattle.model.specs.RefusalNumbers.{refused_by}
use Rattle.opening.specs.Opened.{Taken}
use Rattle.opening.proofs.Openings.{in-turn, leaves-refused, allowed, leaves-opened}
use Rattle.opening.proofs.open.Goals as goal

pub returns-in_err-and : goal.returns-in_err-and
returns-in_err-and c =
    let a = c.args in
    let e = in-turn a.b.now a.n a.founders a.votes c.opening_refusal.result c.refuse-short.result c.and.result
    c.opening_refusal.ensures c.refuse-short.ensures c.and.ensures (sym (ap refused_by c.in_err-and.was)) in
    let r = leaves-refused a.b.now a.n a.founders a.votes c.from_residual.result _ c.from_residual.ensures.1 e in
    record { number = r.0; bytes = r.1 }

-- none of 16, 41 and 18
pub begin-requires : goal.begin-requires
begin-requires c =
    let a = c.args in
    let z = in-turn a.b.now a.n a.founders a.votes c.opening_refusal.result c.refuse-short.result c.and.result
    c.opening_refusal.ensures c.refuse-short.ensures c.and.ensures (sym (ap refused_by c.in_ok-and.was)) in
    allowed a.b.now a.n a.founders a.votes z _ c.founder_mask-set.ensures

pub start_all-requires : goal.start_all-requires
start_all-requires c =
    let a = c.args in
    let z = in-turn a.b.now a.n a.founders a.votes c.opening_refusal.result c.refuse-short.result c.and.result
    c.opening_refusal.ensures c.refuse-short.ensures c.and.ensures (sym (ap refused_by c.in_ok-and.was)) in
    let t = allowed a.b.now a.n a.founders a.votes z _ c.founder_mask-set.ensures in
    (t.size.1, rw c.begin.auto.b t.long)

pub returns : goal.returns
returns c =
    let a = c.args in
    let z = in-turn a.b.now a.n a.founders a.votes c.opening_refusal.result c.refuse-short.result c.and.result
    c.opening_refusal.ensures c.refuse-short.ensures c.and.ensures (sym (ap refused_by c.in_ok-and.was)) in
    let t = allowed a.b.now a.n a.founders a.votes z _ c.founder_mask-set.ensures in
    let begun : Taken a.n a.votes c.founder_mask-set.result c.begin.new.b = record { size = t.size; votes = t.votes; founders = t.founders; long = rw c.begin.auto.b t.long } in
    let r = leaves-opened a.b.now a.n a.founders a.votes z _ c.founder_mask-set.ensures _ (c.start_all.ensures _ _ begun c.begin.ensures) in
    record { number = r.0; bytes = r.1 }
