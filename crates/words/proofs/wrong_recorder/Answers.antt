-- `words::wrong_recorder` meets its contract. Assumes nothing.
use Rattle.std.proofs.Common.{◌≢◌}
use mathlib.Core.Path.{◌≡◌, refl, sym, ap, ◌∙◌}
use mathlib.Core.Bool.{false}
use Rattle.model.specs.Kinds.{wrong_recorder}
use Rattle.words.specs.declared.Use.{Use}
use Rattle.words.specs.declared.Use.TheVariants.{Unused, Word, Recorder, Number, Set}
use Rattle.words.specs.Words.{use_of}
use Rattle.words.proofs.wrong_recorder.Goals as goal

pub returns-in-Unused : goal.returns-in-Unused
unfolding wrong_recorder use_of
returns-in-Unused c = sym (ap (λ u. wrong_recorder c.args.n (use_of u) c.args.w) c.in-Unused.is)

pub returns-in-Recorder : goal.returns-in-Recorder
unfolding wrong_recorder use_of
returns-in-Recorder c =
    let a = c.args in
    c.is_outside.ensures ∙ sym (ap (λ u. wrong_recorder a.n (use_of u) a.w) c.in-Recorder.is)

pub returns-in_default : goal.returns-in_default
unfolding wrong_recorder use_of
returns-in_default c = other c.args.u c.in_default.not-Unused c.in_default.not-Recorder
  where
    other : (u : Use) → u ≢ Unused → u ≢ Recorder → false ≡ wrong_recorder c.args.n (use_of u) c.args.w
    other Unused k l = absurd (k refl)
    other Word k l = refl
    other Recorder k l = absurd (l refl)
    other Number k l = refl
    other Set k l = refl
