-- By the test of a cell; the numbers rise. Assumes nothing.
use borrow.Author.Rules.{rules}
use mathlib.Core.Path.{sym, ◌∙◌}
use Rattle.model.specs.Hall.{max_views}
use Rattle.store.specs.Layout.{views_at}
use Rattle.store.specs.ViewForm.{view_form}
use Rattle.ranges.proofs.Loops.{bounded-by_test}
use Rattle.ranges.proofs.TablePartsLaws.{views-fail, views-rise}
use Rattle.ranges.proofs.valid_views.Goals as goal

pub returns-then-valid_counted : goal.returns-then-valid_counted
returns-then-valid_counted c =
    let a = c.args in
    let F = view_form a.n in
    let e = bounded-by_test F max_views views_at a.b.now c.requires.2 in
    c.views_rise.ensures
    ∙ sym
    (views-rise a.n a.b.now c.requires.2
    (sym (c.valid_counted.ensures.value F.valid (λ i r p. search rules) ∙ e) ∙ c.if-valid_counted.true)
    (c.valid_counted.ensures.count (search rules)))

pub returns-else-valid_counted : goal.returns-else-valid_counted
returns-else-valid_counted c =
    let a = c.args in
    let F = view_form a.n in
    let e = bounded-by_test F max_views views_at a.b.now c.requires.2 in
    c.if-valid_counted.false
    ∙ sym
    (views-fail a.n a.b.now c.requires.2
    (sym (c.valid_counted.ensures.value F.valid (λ i r p. search rules) ∙ e) ∙ c.if-valid_counted.false))
