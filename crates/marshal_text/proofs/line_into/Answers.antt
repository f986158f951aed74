-- By cases. Assumes nothing.
use borrow.Author.Rules.{rules}
use lib.ListN.{length}
use mathlib.Core.Path.{◌≡◌, sym, ap, ap₂, ◌∙◌}
use Prim.Native.Nat.{ℕ}
use mathlib.Core.List.{List, [], ◌∷◌}
use Rattle.runfile.proofs.WriteLaws.{eight}
use Rattle.calls.specs.Lent.{taken}
use Rattle.calls.specs.RunsLent.{offset_words}
use Rattle.lent.proofs.Plain.{leaves-as}
use Rattle.parsing.specs.Reading.{line_meaning}
use Rattle.story.specs.Lent.{line_words}
use Rattle.parsing.specs.declared.Line.{Line}
use Rattle.marshal_text.proofs.line_into.Goals as goal

pub returns-in-Blank : goal.returns-in-Blank
unfolding line_words line_meaning offset_words
returns-in-Blank c = λ h.
    let a = c.args in
    leaves-as h a.out.now
    (ap₂ (λ (low high : ℕ). taken (0 ∷ low ∷ high ∷ [])) c.low.ensures c.high.ensures
    ∙ sym (ap (λ (l : Line). taken (line_words (line_meaning l) a.next)) c.in-Blank.is))
    (c.answer_into.ensures h)

pub returns-in-Opening : goal.returns-in-Opening
unfolding line_words line_meaning offset_words
returns-in-Opening c = λ h.
    let a = c.args in
    let o = c.in-Opening.o in
    let n : length o.words ≡ 8 = search rules in
    leaves-as h a.out.now
    (ap (λ (ws : List ℕ). taken (1 ∷ c.low-in-Opening.result ∷ c.high-in-Opening.result ∷ o.size ∷ o.founders ∷ o.third ∷ ws)) (sym (eight o.words n))
    ∙ ap₂ (λ (low high : ℕ). taken (1 ∷ low ∷ high ∷ o.size ∷ o.founders ∷ o.third ∷ o.words)) c.low-in-Opening.ensures c.high-in-Opening.ensures
    ∙ sym (ap (λ (l : Line). taken (line_words (line_meaning l) a.next)) c.in-Opening.is))
    (c.answer_into-in-Opening.ensures h)

pub returns-in-Action : goal.returns-in-Action
unfolding line_words line_meaning offset_words
returns-in-Action c = λ h.
    let a = c.args in
    let w = c.in-Action.x in
    leaves-as h a.out.now
    (ap₂ (λ (low high : ℕ). taken (2 ∷ low ∷ high ∷ w.k ∷ w.r ∷ w.a ∷ w.b ∷ [])) c.low-in-Action.ensures c.high-in-Action.ensures
    ∙ sym (ap (λ (l : Line). taken (line_words (line_meaning l) a.next)) c.in-Action.is))
    (c.answer_into-in-Action.ensures h)

pub returns-in-Wrong : goal.returns-in-Wrong
unfolding line_words line_meaning offset_words
returns-in-Wrong c = λ h.
    let a = c.args in
    leaves-as h a.out.now
    (ap₂ (λ (low high : ℕ). taken (3 ∷ low ∷ high ∷ c.in-Wrong.k ∷ [])) c.low-in-Wrong.ensures c.high-in-Wrong.ensures
    ∙ sym (ap (λ (l : Line). taken (line_words (line_meaning l) a.next)) c.in-Wrong.is))
    (c.answer_into-in-Wrong.ensures h)
