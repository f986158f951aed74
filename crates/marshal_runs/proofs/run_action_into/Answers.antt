-- `marshal_runs::run_action_into` meets its contract. Assumes nothing.
use Prim.Native.Nat.{ℕ}
use mathlib.Core.Path.{sym, ap, ap₂, ◌∙◌}
use mathlib.Core.List.{[], ◌∷◌}
use Rattle.runfile.specs.Answers.{next_meaning}
use Rattle.runfile.proofs.Cases.{next-is}
use Rattle.calls.specs.Lent.{taken}
use Rattle.calls.specs.RunsLent.{offset_words, next_words, run_action_lent}
use Rattle.lent.proofs.Plain.{leaves-as}
use Rattle.marshal_runs.proofs.run_action_into.Goals as goal

pub returns-in-Some : goal.returns-in-Some
unfolding run_action_lent next_meaning next_words offset_words
returns-in-Some c =
    let a = c.args in
    let w = c.in-Some.x in
    let e = next-is c.read_next.ensures c.in-Some.is in
    leaves-as a.file.now a.out.now
    (ap₂ (λ (low high : ℕ). taken (0 ∷ w.k ∷ w.r ∷ w.a ∷ w.b ∷ low ∷ high ∷ [])) c.low.ensures c.high.ensures ∙ sym (ap next_words e))
    (c.answer_into.ensures a.file.now)

pub returns-in-None : goal.returns-in-None
unfolding run_action_lent next_meaning next_words
returns-in-None c =
    let a = c.args in
    leaves-as a.file.now a.out.now (sym (ap next_words (next-is c.read_next.ensures c.in-None.is))) (c.answer_into-in-None.ensures a.file.now)
