-- By the first byte, and by what stands after it. Assumes nothing.
use Rattle.std.proofs.Common.{List, ℕ, ◌++◌, Some, None, sym, ap, rules, ◌∙◌}
use Rattle.std.proofs.lemmas.Slice.Eq.{strip_prefix_is}
use Rattle.std.proofs.lemmas.Bool.Decides.{Decides-eqb}
use Rattle.story.specs.Sets.{set_of}
use Rattle.scanning.specs.Scanned.{value_of}
use Rattle.scanning.proofs.ValuesAt.{set-closed, set-members, set-unopened}
use Rattle.scanning.proofs.set_of.Goals as goal

pub returns-in_err-rest : goal.returns-in_err-rest
returns-in_err-rest c =
    let f = c.args.field.now in
    let other = strip_prefix_is Decides-eqb f c.as_slice.result.now None c.in_err-rest.ensures.cases in
    ap value_of c.from_residual.ensures
    ∙ sym (set-unopened f (λ l e. other l (e ∙ ap (λ (p : List ℕ). p ++ l) (sym c.as_slice.ensures))))

pub returns-then-eq : goal.returns-then-eq
returns-then-eq c =
    let l = c.in_ok-rest.rest.now in
    let opened = strip_prefix_is Decides-eqb c.args.field.now c.as_slice.result.now (Some c.in_ok-rest.rest) c.in_ok-rest.ensures.cases in
    sym (ap set_of (opened ∙ ap (λ (p : List ℕ). p ++ l) c.as_slice.ensures) ∙ set-closed l (search rules))

pub returns : goal.returns
returns c =
    let l = c.in_ok-rest.rest.now in
    let opened = strip_prefix_is Decides-eqb c.args.field.now c.as_slice.result.now (Some c.in_ok-rest.rest) c.in_ok-rest.ensures.cases in
    c.members_of.ensures ∙ sym (ap set_of (opened ∙ ap (λ (p : List ℕ). p ++ l) c.as_slice.ensures) ∙ set-members l (search rules))
