-- A byte that is no recorder, or one: then the set decides. Assumes nothing.
use Rattle.std.proofs.Common.{◌-◌, not, sym, ap, ◌∙◌, arith, ⊎_elim}
use Rattle.quorum.proofs.SetLaws.{one_shifted}
use Rattle.scanning.proofs.ValuesAt.{joins-low, joins-high, joins-digit}
use Rattle.scanning.proofs.with_member.Goals as goal

pub returns-then-b-lt49 : goal.returns-then-b-lt49
returns-then-b-lt49 c = ⊎_elim (λ h. joins-low c.args.mask c.args.b h) (λ h. joins-high c.args.mask c.args.b h.1) c.then-b-lt49.either

pub returns-then-in_mask : goal.returns-then-in_mask
returns-then-in_mask c =
    joins-digit c.args.mask c.args.b (omega arith) (omega arith) ∙ ap not (sym c.in_mask.ensures ∙ c.if-in_mask.true)

pub returns : goal.returns
returns c = (
  joins-digit c.args.mask c.args.b (omega arith) (omega arith) ∙ ap not (sym c.in_mask.ensures ∙ c.if-in_mask.false),
  omega (arith, one_shifted (c.args.b - 49) (omega arith)),
)
