-- The digits still to come decide. Assumes nothing.
use Rattle.std.proofs.Common.{ℕ, ◌+◌, drop, sym, ap, ◌∙◌, rules}
use Rattle.story.specs.Numbers.{digits_from}
use Rattle.scanning.specs.Scanned.{value_of}
use Rattle.scanning.proofs.ValuesAt.{number-some, number-none, digits-on, digits-off, digits-end}
use Rattle.scanning.proofs.number_of.Goals as goal

pub returns-then-is_empty : goal.returns-then-is_empty
returns-then-is_empty c = sym (number-none c.args.field.now (search rules))

pub returns-in_err-sum : goal.returns-in_err-sum
returns-in_err-sum c =
    let f = c.args.field.now in
    let l = c.loop-b in
    let off = digits-off f l.sum l.b-index (search rules) c.in_err-sum.ensures in
    ap value_of c.from_residual.ensures ∙ sym (number-some f (search rules) ∙ l.invariant ∙ off)

pub loop-b-preserved : goal.loop-b-preserved
loop-b-preserved c =
    let f = c.args.field.now in
    let l = c.loop-b in
    let digit = c.in_ok-sum.ensures in
    l.invariant
    ∙ digits-on f l.sum l.b-index (search rules) digit.0
    ∙ ap (λ (n : ℕ). digits_from n (drop (l.b-index + 1) f)) (sym digit.1)

pub returns : goal.returns
returns c =
    let f = c.args.field.now in
    sym (number-some f (search rules) ∙ c.loop-b.invariant ∙ digits-end f c.loop-b.sum c.loop-b.b-index (search rules))
