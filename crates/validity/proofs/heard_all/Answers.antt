-- Each source in turn. Assumes nothing.
use borrow.Author.Rules.{rules}
use Rattle.base.proofs.Iterators.{all-to}
use Rattle.model.specs.Hall.{max_recorders}
use Rattle.validity.specs.Marks.{heard_ok}
use Rattle.validity.proofs.heard_all.Goals as goal

pub returns : goal.returns
returns c =
    let a = c.args in
    let n = c.new.ensures in
    all-to (heard_ok a.b.now a.at a.set a.i) (λ x v h k. search rules) max_recorders _ _ n.start n.end n.exhausted c.all.ensures.runs
