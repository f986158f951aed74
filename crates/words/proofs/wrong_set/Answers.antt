-- `words::wrong_set` meets its contract. Assumes nothing.
use Rattle.std.proofs.Common.{◌≢◌}
use mathlib.Core.Path.{◌≡◌, refl, sym, ap, ◌∙◌}
use mathlib.Core.Bool.{false, ◌||◌}
use Prim.Native.Nat.{◌^◌}
use lib.Dec.{leb}
use borrow.Author.Tests.{eq-eqb, ne_eqb}
use Rattle.model.specs.Kinds.{wrong_set}
use Rattle.words.specs.declared.Use.{Use}
use Rattle.words.specs.declared.Use.TheVariants.{Unused, Word, Recorder, Number, Set}
use Rattle.words.specs.Words.{use_of}
use Rattle.words.proofs.wrong_set.Goals as goal

pub returns-then-w-eq0 : goal.returns-then-w-eq0
unfolding wrong_set use_of
returns-then-w-eq0 c =
    let a = c.args in
    let e = eq-eqb a.w 0 c.if-w-eq0.true in
    e ∙ sym (ap (λ t. t || leb (2 ^ a.n) a.w) e) ∙ sym (ap (λ u. wrong_set a.n (use_of u) a.w) c.in-Set.is)

pub returns-else-w-eq0 : goal.returns-else-w-eq0
unfolding wrong_set use_of
returns-else-w-eq0 c =
    let a = c.args in
    c.names_above.ensures
    ∙ sym (ap (λ t. t || leb (2 ^ a.n) a.w) (ne_eqb a.w 0 c.if-w-eq0.false))
    ∙ sym (ap (λ u. wrong_set a.n (use_of u) a.w) c.in-Set.is)

pub returns-in_default : goal.returns-in_default
unfolding wrong_set use_of
returns-in_default c = other c.args.u c.in_default.not-Set
  where
    other : (u : Use) → u ≢ Set → false ≡ wrong_set c.args.n (use_of u) c.args.w
    other Unused k = refl
    other Word k = refl
    other Recorder k = refl
    other Number k = refl
    other Set k = absurd (k refl)
