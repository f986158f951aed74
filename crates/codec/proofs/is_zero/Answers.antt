-- The or of the bytes is 0 just where each is. Assumes nothing.
use Rattle.std.proofs.Common.{ap, ◌∙◌, eqb, ℕ, ◌-◌, bit_or, rules, tests}
use Rattle.std.proofs.lemmas.Iterator.{YieldsList-from_slice}
use Rattle.std.proofs.lemmas.Iterator.Consumers.{fold_from_yields_List}
use Rattle.codec.specs.Bytes.{part}
use Rattle.codec.proofs.Gathering.{fold-or}
use Rattle.codec.proofs.is_zero.Goals as goal

pub returns : goal.returns
returns c =
    let a = c.args in
    ap (λ (n : ℕ). eqb n 0)
    (fold_from_yields_List _ bit_or 0 _ c.fold.ensures.ran
    (YieldsList-from_slice (part a.from (a.to - a.from) a.b.now) cc) (λ t x b q k. search (rules, tests)))
    ∙ fold-or _ 0
