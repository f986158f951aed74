-- `marshal_runs::run_read_into` meets its contract. Assumes nothing.
use Prim.Native.Nat.{ℕ}
use borrow.Author.Rules.{rules}
use lib.ListN.{length}
use mathlib.Core.Path.{◌≡◌, sym, ap, ap₂, ◌∙◌}
use mathlib.Core.List.{List, ◌∷◌}
use Rattle.model.specs.RunFile.{ReadAnswer, read_file, read_answer}
use Rattle.model.proofs.RefusalNumbersLaws.{has-number}
use Rattle.runfile.specs.Answers.{read_meaning}
use Rattle.runfile.proofs.Cases.{read_is}
use Rattle.runfile.proofs.WriteLaws.{eight}
use Rattle.calls.specs.Lent.{taken}
use Rattle.calls.specs.RunsLent.{offset_words, read_words, run_read_lent}
use Rattle.calls.proofs.Refused.{lent-refused}
use Rattle.lent.proofs.Plain.{leaves-as}
use Rattle.marshal_runs.proofs.run_read_into.Goals as goal

pub returns-in-Err : goal.returns-in-Err
unfolding run_read_lent read_meaning read_words
returns-in-Err c =
    let f = c.args.file.now in
    let e = read_is c.read_opening.ensures c.in-Err.is in
    lent-refused (read_words (read_answer f (read_file f))) f f c.args.out.now c.from.result
    (c.from.ensures ∙ sym (ap (λ (z : ReadAnswer). (read_words z).number) e))
    (λ z. has-number c.in-Err.why (sym c.from.ensures ∙ z))

pub returns-in-Ok : goal.returns-in-Ok
unfolding run_read_lent read_meaning read_words offset_words
returns-in-Ok c =
    let a = c.args in
    let o = c.in-Ok.o in
    let e = read_is c.read_opening.ensures c.in-Ok.is in
    let n : length o.opening.words ≡ 8 = search rules in
    leaves-as a.file.now a.out.now
    (ap (λ (ws : List ℕ). taken (o.opening.size ∷ o.opening.founders ∷ c.low.result ∷ c.high.result ∷ o.count ∷ o.opening.third ∷ ws)) (sym (eight o.opening.words n))
    ∙ ap₂ (λ (low high : ℕ). taken (o.opening.size ∷ o.opening.founders ∷ low ∷ high ∷ o.count ∷ o.opening.third ∷ o.opening.words)) c.low.ensures c.high.ensures ∙ sym (ap read_words e))
    (c.answer_into.ensures a.file.now)
