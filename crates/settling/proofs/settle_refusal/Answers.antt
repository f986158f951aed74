-- 31, or the number of the settle on a copy. Assumes nothing.
use borrow.Author.Rules.{rules}
use mathlib.Core.Path.{◌∙◌}
use Rattle.model.proofs.RefusalNumbersLaws.{exit}
use Rattle.settling.proofs.CopyLaws.{checked, broken-number}
use Rattle.settling.proofs.settle_refusal.Goals as goal

pub returns-in_err-bytes_refusal : goal.returns-in_err-bytes_refusal
returns-in_err-bytes_refusal c =
    exit c.from_residual.result _ c.from_residual.ensures.1 ∙ broken-number c.args.bytes.now _ c.in_err-bytes_refusal.ensures

pub settle_hall-requires : goal.settle_hall-requires
settle_hall-requires c = (checked c.args.bytes.now c.in_ok-bytes_refusal.ensures, search rules)
