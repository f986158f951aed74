-- Too short, not in range, or by the cross rules. Assumes nothing.
use native.Mathlib.Omega.{arith}
use mathlib.Core.Path.{sym, ◌∙◌}
use Rattle.validity.proofs.RawHallLaws.{ranged}
use Rattle.validity.proofs.CodeLaws.{stored_short, fields-held, stored-range, stored-cross}
use Rattle.validity.proofs.is_hall.Goals as goal

pub returns-then-b-lt-LENGTH : goal.returns-then-b-lt-LENGTH
returns-then-b-lt-LENGTH c = sym (stored_short c.args.b.now c.if-b-lt-LENGTH.true)

pub cross_rules-requires : goal.cross_rules-requires
cross_rules-requires c =
    let b = c.args.b.now in
    ranged b
    (fields-held b c.if-b-lt-LENGTH.false (λ i. omega (arith, c.type_inv.b i)) (sym c.in_range.ensures ∙ c.if-in_range.true))

pub returns-then-in_range : goal.returns-then-in_range
returns-then-in_range c =
    c.cross_rules.ensures
    ∙ sym
    (stored-cross c.args.b.now c.if-b-lt-LENGTH.false (λ i. omega (arith, c.type_inv.b i)) (sym c.in_range.ensures ∙ c.if-in_range.true))

pub returns-else-in_range : goal.returns-else-in_range
returns-else-in_range c =
    c.if-in_range.false
    ∙ sym
    (stored-range c.args.b.now c.if-b-lt-LENGTH.false (λ i. omega (arith, c.type_inv.b i)) (sym c.in_range.ensures ∙ c.if-in_range.false))
