-- Each entry in turn. Assumes nothing.
use borrow.Author.Rules.{rules}
use mathlib.Core.Path.{refl, sym, ◌∙◌}
use Rattle.base.proofs.Iterators.{all-range}
use Rattle.validity.specs.CrossParts.{key_alone}
use Rattle.validity.proofs.ChainLaws.{tells_below}
use Rattle.validity.proofs.KeyLaws.{keys-alone}
use Rattle.validity.proofs.labels_alone.Goals as goal

pub returns : goal.returns
returns c =
    let a = c.args in
    let h = c.requires in
    let ks = c.keys_of-keys.result in
    tells_below (key_alone ks) a.m _ (all-range (key_alone ks) (λ x v h k. search rules) 0 a.m _ _ refl refl c.all.ensures.runs)
    ∙ sym (keys-alone a.b.now h.0.held a.m h.1 ks c.keys_of-keys.ensures)
