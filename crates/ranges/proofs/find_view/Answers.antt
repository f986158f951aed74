-- The first index at which the view's number stands. Assumes nothing.
use borrow.Author.Rules.{rules}
use borrow.Author.Tests.{tests}
use mathlib.Core.Path.{◌≡◌, refl, sym, subst}
use Rattle.std.proofs.lemmas.Iterator.{IsFirst-from_position, YieldsList-from_range}
use Rattle.ranges.specs.TableParts.{view_at, Found}
use Rattle.ranges.proofs.TablePartsLaws.{found-first}
use Rattle.ranges.proofs.find_view.Goals as goal

pub returns : goal.returns
returns c =
    let a = c.args in
    subst (Found a.m a.b.now a.g) (sym c.unwrap_or.ensures)
    (found-first a.m a.b.now a.g c.position.result
    (IsFirst-from_position _ _ _ (λ i. view_at a.b.now i ≡ a.g) (λ i. view_at a.b.now i ≡ a.g → ⊥) c.position.ensures.ran
    (YieldsList-from_range 0 a.m a.m refl (search rules)) (λ i q k. search (rules, tests)) (λ i q k. search (rules, tests))))
