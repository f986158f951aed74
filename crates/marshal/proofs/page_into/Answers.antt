-- `marshal::page_into` meets its contract. Assumes nothing.
use native.Mathlib.Omega.{arith}
use mathlib.Core.Path.{sym, ap, ◌∙◌}
use lib.ListN.{length}
use Rattle.model.specs.Page.{PageAnswer, plain_page}
use Rattle.answer.specs.Meaning.{page_meaning}
use Rattle.calls.specs.Calls.{page_on}
use Rattle.calls.specs.Lent.{page_lent}
use Rattle.calls.proofs.Refused.{lent-refused}
use Rattle.lent.proofs.Plain.{plain-taken, leaves-as}
use Rattle.marshal.proofs.Answers.{page-values}
use Rattle.marshal.proofs.page_into.Goals as goal

pub returns-then-p-ne0 : goal.returns-then-p-ne0
unfolding page_lent
returns-then-p-ne0 c =
    let a = c.args in
    lent-refused (plain_page (page_on a.hall.now a.r a.k)) a.hall.now a.hall.now a.out.now _ (c.plain_page-p.ensures.number ∙ ap (λ (z : PageAnswer). (plain_page z).number) c.page.ensures) c.if-p-ne0.true

pub answer_into-requires : goal.answer_into-requires
answer_into-requires c = omega (arith, ap length c.plain_page-p.ensures.values, page-values (page_meaning c.page.result))

pub returns : goal.returns
unfolding page_lent
returns c =
    let a = c.args in
    let number = c.plain_page-p.ensures.number ∙ ap (λ (z : PageAnswer). (plain_page z).number) c.page.ensures in
    let values = c.plain_page-p.ensures.values ∙ ap (λ (z : PageAnswer). (plain_page z).values) c.page.ensures in
    leaves-as a.hall.now a.out.now (plain-taken (plain_page (page_on a.hall.now a.r a.k)) _ (sym number ∙ c.if-p-ne0.false) values) (c.answer_into.ensures a.hall.now)
