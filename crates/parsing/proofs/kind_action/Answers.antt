-- The words of a kind, by its uses. Assumes nothing.
use Rattle.std.proofs.Common.{drop, ap, ◌∙◌}
use Rattle.model.specs.Kinds.{Uses}
use Rattle.model.specs.KindNumbers.{kind_number}
use Rattle.words.specs.Words.{uses_of}
use Rattle.story.specs.Fields.{fields_in}
use Rattle.story.specs.Parsing.{kind_line}
use Rattle.parsing.proofs.LinesAt.{told-last, no-action, kind-none, kind-one, kind-two, kind-all}
use Rattle.parsing.proofs.kind_action.Goals as goal

pub returns-in_err-r : goal.returns-in_err-r
unfolding uses_of
returns-in_err-r c =
    let u = c.uses_of-of_r in
    let k = kind_number c.args.k in
    no-action _ k c.from_residual.ensures
    ∙ kind-none c.args.text.now k (uses_of u.result) _ c.in_err-r.ensures
    ∙ ap (λ (v : Uses). kind_line k v (fields_in (drop c.args.at c.args.text.now))) u.ensures

pub returns-in_err-a : goal.returns-in_err-a
unfolding uses_of
returns-in_err-a c =
    let u = c.uses_of-of_r in
    let k = kind_number c.args.k in
    no-action _ k c.from_residual-in_err-a.ensures
    ∙ kind-one c.args.text.now k (uses_of u.result) _ c.in_ok-r.r c.in_ok-r.at c.in_ok-r.ensures c.in_err-a.ensures
    ∙ ap (λ (v : Uses). kind_line k v (fields_in (drop c.args.at c.args.text.now))) u.ensures

pub returns-in_err-b : goal.returns-in_err-b
unfolding uses_of
returns-in_err-b c =
    let u = c.uses_of-of_r in
    let k = kind_number c.args.k in
    no-action _ k c.from_residual-in_err-b.ensures
    ∙ kind-two c.args.text.now k (uses_of u.result) _ c.in_ok-r.r c.in_ok-r.at c.in_ok-r.ensures c.in_ok-a.a c.in_ok-a.at c.in_ok-a.ensures c.in_err-b.ensures
    ∙ ap (λ (v : Uses). kind_line k v (fields_in (drop c.args.at c.args.text.now))) u.ensures

pub returns : goal.returns
unfolding uses_of
returns c =
    let u = c.uses_of-of_r in
    let k = kind_number c.args.k in
    rw (c.then_some.ensures, c.is_over.ensures, c.from.ensures) (told-last _ _ k)
    ∙ kind-all c.args.text.now k (uses_of u.result) _ c.in_ok-r.r c.in_ok-r.at c.in_ok-r.ensures c.in_ok-a.a c.in_ok-a.at c.in_ok-a.ensures c.in_ok-b.b c.in_ok-b.at c.in_ok-b.ensures
    ∙ ap (λ (v : Uses). kind_line k v (fields_in (drop c.args.at c.args.text.now))) u.ensures
