-- N, the views, and the tables by the two counts. Assumes nothing.
use native.Mathlib.Omega.{arith}
use mathlib.Core.Path.{sym, ◌∙◌}
use borrow.Author.Rules.{rules}
use Rattle.model.specs.Hall.{max_recorders}
use Rattle.ranges.proofs.Parts.{byte-in}
use Rattle.ranges.proofs.TablePartsLaws.{views-count, no_size, no-views, whole-tables}
use Rattle.ranges.proofs.in_range.Goals as goal

pub returns-then-not-valid_byte : goal.returns-then-not-valid_byte
returns-then-not-valid_byte c =
    sym (no_size c.args.b.now c.requires (sym c.valid_byte.ensures ∙ c.if-not-valid_byte.true))

pub valid_views-requires : goal.valid_views-requires
valid_views-requires c =
    let n = byte-in 1 max_recorders 0 c.args.b.now (omega arith) (sym c.valid_byte.ensures ∙ c.if-not-valid_byte.false) in
    (n.0, n.1, search rules)

pub returns-then-not-valid_views : goal.returns-then-not-valid_views
returns-then-not-valid_views c =
    sym
    (no-views c.args.b.now c.requires
    (sym c.valid_byte.ensures ∙ c.if-not-valid_byte.false)
    (sym c.valid_views.ensures ∙ c.if-not-valid_views.true))

pub valid_tables-requires : goal.valid_tables-requires
valid_tables-requires c =
    let b = c.args.b.now in
    let n = byte-in 1 max_recorders 0 b (omega arith) (sym c.valid_byte.ensures ∙ c.if-not-valid_byte.false) in
    let v = sym c.valid_views.ensures ∙ c.if-not-valid_views.false in
    (n.1, views-count _ b (omega arith) v, search rules)

pub returns : goal.returns
returns c =
    c.valid_tables.ensures
    ∙ sym
    (whole-tables c.args.b.now c.requires
    (sym c.valid_byte.ensures ∙ c.if-not-valid_byte.false)
    (sym c.valid_views.ensures ∙ c.if-not-valid_views.false))
