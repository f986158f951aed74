-- By the first field. Assumes nothing.
use Rattle.std.proofs.Common.{◌≡◌, ◌-◌, take, drop, refl, sym, subst, ap, rules, ◌∙◌}
use Rattle.story.specs.Fields.{fields_in}
use Rattle.story.specs.Keywords.{founders-word}
use Rattle.story.specs.Parsing as story
use Rattle.story.specs.Parsing.{founders_of, take_field}
use Rattle.parsing.specs.Reading.{Takes, Took}
use Rattle.parsing.proofs.LinesAt.{founders-told, founders-untold}
use Rattle.parsing.proofs.take_founders.Goals as goal

pub returns-then-eq : goal.returns-then-eq
unfolding founders-word
returns-then-eq c =
    let s = c.next_field-f.ensures in
    subst (λ (x : story.Taken). Takes c.args.text.now x c.take_field.result)
    (ap (take_field (founders_of c.args.n)) (sym s.left) ∙ founders-told c.args.n (fields_in (drop c.args.at c.args.text.now)) (s.field ∙ search rules))
    (c.take_field.ensures (founders_of c.args.n) (λ f x p. search rules))

pub returns : goal.returns
unfolding founders-word
returns c =
    let s = c.next_field-f in
    let text = c.args.text.now in
    let other : take (s.result.to - s.result.from) (drop s.result.from text) ≡ founders-word → ⊥ = search rules in
    subst (λ (x : story.Taken). Took text x.ok x.number x.left 0 c.args.at)
    (founders-untold c.args.n (fields_in (drop c.args.at text)) (λ e. other (sym s.ensures.field ∙ e)))
    (record { form = refl; same = refl; left = refl; within = c.requires })
