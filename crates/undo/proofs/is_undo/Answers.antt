-- Too short, too many, or by the slots. Assumes nothing.
use mathlib.Core.Path.{sym, ◌∙◌}
use borrow.Author.Tests.{lt-leb}
use Rattle.undo.proofs.PartAt.{undo-short, undo-over, undo-slots}
use Rattle.undo.proofs.is_undo.Goals as goal

pub returns-then-u-lt-LENGTH : goal.returns-then-u-lt-LENGTH
returns-then-u-lt-LENGTH c = sym (undo-short c.args.u.now c.if-u-lt-LENGTH.true)

pub returns-then-m-le-SLOTS : goal.returns-then-m-le-SLOTS
returns-then-m-le-SLOTS c =
    c.valid_slots.ensures
    ∙ sym (undo-slots c.args.u.now c.if-u-lt-LENGTH.false (λ i. (c.type_inv.u i).fits) c.if-m-le-SLOTS.true)

pub returns-else-m-le-SLOTS : goal.returns-else-m-le-SLOTS
returns-else-m-le-SLOTS c =
    lt-leb _ 16 c.if-m-le-SLOTS.false
    ∙ sym (undo-over c.args.u.now c.if-u-lt-LENGTH.false (λ i. (c.type_inv.u i).fits) c.if-m-le-SLOTS.false)
