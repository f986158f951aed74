-- Each recorder in turn. Assumes nothing.
use borrow.Author.Rules.{rules}
use Rattle.base.proofs.Iterators.{all-to}
use Rattle.store.specs.Valid.{endpoint_cross}
use Rattle.ranges.specs.TableParts.{view_at}
use Rattle.validity.specs.RawHall.{raw}
use Rattle.validity.proofs.endpoints_cross.Goals as goal

pub returns : goal.returns
returns c =
    let a = c.args in
    let n = c.new.ensures in
    all-to (endpoint_cross (raw a.b.now) (view_at a.b.now a.i)) (λ x v h k. search rules) a.n _ _ n.start n.end n.exhausted c.all.ensures.runs
