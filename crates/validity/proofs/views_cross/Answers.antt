-- Each view in turn. Assumes nothing.
use borrow.Author.Rules.{rules}
use native.Mathlib.Omega.{arith}
use mathlib.Core.Path.{refl, sym, ap, ◌∙◌}
use Rattle.base.specs.Lists.{all}
use Rattle.base.proofs.Iterators.{all-range}
use Rattle.ranges.specs.TableParts.{view_at}
use Rattle.validity.specs.RawHall.{raw}
use Rattle.validity.specs.CrossParts.{view_cross}
use Rattle.validity.proofs.AllsLaws.{views_from, views-all, views-fail, views-next, views-none}
use Rattle.validity.proofs.ChainLaws.{tells_rest}
use Rattle.validity.proofs.views_cross.Goals as goal

pub returns : goal.returns
returns c =
    let a = c.args in
    let b = a.b.now in
    let p = view_cross (raw b) in
    tells_rest (λ i. p (view_at b i)) (λ i. all p (views_from a.m b i)) a.m (views-next a.m b p) (views-fail a.m b p) (views-none a.m b p a.m (omega arith)) _
    (all-range (λ i. p (view_at b i)) (λ x v h k. search rules) 0 a.m _ _ refl refl c.all.ensures.runs)
    ∙ sym (ap (all p) (views-all a.m b))
