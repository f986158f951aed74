-- The and of the bytes' tests. Assumes nothing.
use Rattle.std.proofs.Common.{◌∙◌, ◌-◌, true, ◌&&◌, rules, tests}
use Rattle.std.proofs.lemmas.Iterator.{YieldsList-from_slice}
use Rattle.std.proofs.lemmas.Iterator.Consumers.{fold_from_yields_List}
use lib.Dec.{leb}
use Rattle.codec.specs.Bytes.{part}
use Rattle.codec.proofs.Gathering.{fold-between}
use Rattle.codec.proofs.all_in.Goals as goal

pub returns : goal.returns
returns c =
    let a = c.args in
    fold_from_yields_List _ (λ t x. (t && leb a.lo x) && leb x a.hi) true _ c.fold.ensures.ran
    (YieldsList-from_slice (part a.from (a.to - a.from) a.b.now) cc) (λ t x b q k. search (rules, tests))
    ∙ fold-between a.lo a.hi _ true
