-- Each recorder in turn. Assumes nothing.
use borrow.Author.Rules.{rules}
use Rattle.base.proofs.Iterators.{all-to}
use Rattle.store.specs.Valid.{recorder_cross}
use Rattle.validity.specs.RawHall.{raw}
use Rattle.validity.proofs.recorders_cross.Goals as goal

pub returns : goal.returns
returns c =
    let a = c.args in
    let n = c.new.ensures in
    all-to (recorder_cross (raw a.b.now)) (λ x v h k. search rules) a.n _ _ n.start n.end n.exhausted c.all.ensures.runs
