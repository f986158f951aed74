-- By the first field. Assumes nothing.
use Rattle.std.proofs.Common.{◌≡◌, ◌-◌, ℕ, List, [], ◌∷◌, take, drop, refl, sym, subst, ap, rules, ◌∙◌}
use Rattle.story.specs.Fields.{fields_in}
use Rattle.story.specs.Keywords.{votes-word}
use Rattle.story.specs.Parsing as story
use Rattle.story.specs.Parsing.{take_eight}
use Rattle.parsing.specs.Reading.{TakesVotes, Took}
use Rattle.parsing.proofs.LinesAt.{votes-told, votes-untold}
use Rattle.parsing.proofs.take_votes.Goals as goal

pub returns-then-eq : goal.returns-then-eq
unfolding votes-word
returns-then-eq c =
    let s = c.next_field-f.ensures in
    subst (λ (x : story.TakenVotes). TakesVotes c.args.text.now x c.take_eight.result)
    (ap take_eight (sym s.left) ∙ votes-told (fields_in (drop c.args.at c.args.text.now)) (s.field ∙ search rules))
    c.take_eight.ensures

pub returns : goal.returns
unfolding votes-word
returns c =
    let s = c.next_field-f in
    let text = c.args.text.now in
    let other : take (s.result.to - s.result.from) (drop s.result.from text) ≡ votes-word → ⊥ = search rules in
    subst (λ (x : story.TakenVotes). Took {V = ℕ × List ℕ} text x.ok (x.third, x.words) x.left (0, 0 ∷ 0 ∷ 0 ∷ 0 ∷ 0 ∷ 0 ∷ 0 ∷ 0 ∷ []) c.args.at)
    (votes-untold (fields_in (drop c.args.at text)) (λ e. other (sym s.ensures.field ∙ e)))
    (record { form = refl; same = refl; left = refl; within = c.requires })
