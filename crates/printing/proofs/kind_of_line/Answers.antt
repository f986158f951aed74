-- None for a word that names no kind; else by the row of the kind. Assumes nothing.
use Rattle.std.proofs.Common.{sym, ap₂}
use mathlib.Core.Bool.{◌&&◌}
use Rattle.printing.proofs.ActionLaws.{no_line, line-of-row}
use Rattle.printing.proofs.kind_of_line.Goals as goal

pub returns-in_err-kind : goal.returns-in_err-kind
returns-in_err-kind c =
    let a = c.args in
    rw c.from_residual.ensures (no_line a.k a.r a.a a.b c.try_from.result c.try_from.ensures (sym c.in_err-kind.ensures.value))

pub returns : goal.returns
returns c =
    let a = c.args in
    let told = ap₂ ◌&&◌ c.can_tell.ensures (ap₂ ◌&&◌ c.can_tell-2.ensures c.can_tell-3.ensures) in
    rw (c.then_some.ensures, told)
    (line-of-row a.k a.r a.a a.b c.in_ok-kind.kind c.try_from.result c.try_from.ensures (sym c.in_ok-kind.ensures.value) c.uses_of-of_r.result c.uses_of-of_r.ensures)
