-- By the two cases. Assumes nothing.
use mathlib.Core.Path.{◌≡◌, ap, ◌∙◌}
use mir.Facts.{to_z-of_z}
use mir.Syntax.{w32}
use borrow.Author.Rules.{rules}
use Rattle.model.specs.Answers.{word}
use Rattle.model.specs.Page.{plain_page}
use Rattle.answer.specs.Meaning.{page_of}
use Rattle.answer.proofs.plain_page.Goals as goal

pub returns-in-Ok : goal.returns-in-Ok
unfolding plain_page page_of
returns-in-Ok g c =
    let margin = c.in-Ok.p.margin in
    let e : c.word.result ≡ word margin = c.word.ensures ∙ ap word (to_z-of_z {w = w32} {z = margin} (record { sfits = search rules })) in
    rw c.in-Ok.is (record { number = c.taken.ensures.number; values = c.taken.ensures.values ∙ cc e })

pub returns-in-Err : goal.returns-in-Err
unfolding plain_page
returns-in-Err g c = rw c.in-Err.is (record { number = c.refused.ensures.number; values = c.refused.ensures.values })
