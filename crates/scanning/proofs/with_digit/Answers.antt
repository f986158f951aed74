-- A byte that is no digit, or a digit: then the sum decides. Assumes nothing.
use Rattle.std.proofs.Common.{◌≡◌, None, ◌+◌, ◌-◌, arith, ⊎_elim}
use Rattle.story.specs.Numbers.{with_digit}
use Rattle.scanning.proofs.ValuesAt.{goes-low, goes-high, grows}
use Rattle.scanning.proofs.with_digit.Goals as goal

pub returns-then-not-is_ascii_digit : goal.returns-then-not-is_ascii_digit
returns-then-not-is_ascii_digit c =
    ⊎_elim (λ h. goes-low c.args.n c.args.b h) (λ h. goes-high c.args.n c.args.b h) c.if-not-is_ascii_digit.ensures.cases

pub returns-in_err-checked_mul : goal.returns-in_err-checked_mul
returns-in_err-checked_mul c =
    rw c.from_residual.ensures
    (grows c.args.n c.args.b None c.if-not-is_ascii_digit.ensures.cases.0 c.if-not-is_ascii_digit.ensures.cases.1 (λ h. c.in_err-checked_mul.ensures (omega arith)))

pub returns : goal.returns
returns c =
    let a = c.args in
    let all : c.in_ok-checked_mul.field-0 + (a.b - 48) ≡ with_digit a.n a.b = omega (arith, c.in_ok-checked_mul.ensures) in
    grows a.n a.b _ c.if-not-is_ascii_digit.ensures.cases.0 c.if-not-is_ascii_digit.ensures.cases.1 (rw (← all) c.checked_add.ensures)
