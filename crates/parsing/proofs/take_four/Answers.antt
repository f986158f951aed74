-- Assumes nothing.
use Rattle.parsing.proofs.LinesAt.{four-none, four-one, four-two, four-three, four-all}
use Rattle.parsing.proofs.take_four.Goals as goal

pub returns-in_err-k : goal.returns-in_err-k
returns-in_err-k c = rw c.from_residual.ensures (four-none c.args.text.now _ c.in_err-k.ensures)

pub returns-in_err-r : goal.returns-in_err-r
returns-in_err-r c =
    rw c.from_residual-in_err-r.ensures (four-one c.args.text.now _ c.in_ok-k.k c.in_ok-k.at c.in_ok-k.ensures c.in_err-r.ensures)

pub returns-in_err-a : goal.returns-in_err-a
returns-in_err-a c =
    rw c.from_residual-in_err-a.ensures
    (four-two c.args.text.now _ c.in_ok-k.k c.in_ok-k.at c.in_ok-k.ensures c.in_ok-r.r c.in_ok-r.at c.in_ok-r.ensures c.in_err-a.ensures)

pub returns-in_err-b : goal.returns-in_err-b
returns-in_err-b c =
    rw c.from_residual-in_err-b.ensures
    (four-three c.args.text.now _ c.in_ok-k.k c.in_ok-k.at c.in_ok-k.ensures c.in_ok-r.r c.in_ok-r.at c.in_ok-r.ensures
    c.in_ok-a.a c.in_ok-a.at c.in_ok-a.ensures c.in_err-b.ensures)

pub returns : goal.returns
returns c =
    four-all c.args.text.now _ c.in_ok-k.k c.in_ok-k.at c.in_ok-k.ensures c.in_ok-r.r c.in_ok-r.at c.in_ok-r.ensures
    c.in_ok-a.a c.in_ok-a.at c.in_ok-a.ensures c.in_ok-b.b c.in_ok-b.at c.in_ok-b.ensures
