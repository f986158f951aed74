-- `words::stray_word` meets its contract. Assumes nothing.
use Rattle.std.proofs.Common.{◌≢◌}
use mathlib.Core.Path.{◌≡◌, refl, sym, ap}
use mathlib.Core.Bool.{false}
use Rattle.model.specs.Kinds.{stray_word}
use Rattle.words.specs.declared.Use.{Use}
use Rattle.words.specs.declared.Use.TheVariants.{Unused, Word, Recorder, Number, Set}
use Rattle.words.specs.Words.{use_of}
use Rattle.words.proofs.stray_word.Goals as goal

pub returns-in-Unused : goal.returns-in-Unused
unfolding stray_word use_of
returns-in-Unused c = sym (ap (λ u. stray_word (use_of u) c.args.w) c.in-Unused.is)

pub returns-in_default : goal.returns-in_default
unfolding stray_word use_of
returns-in_default c = other c.args.u c.in_default.not-Unused
  where
    other : (u : Use) → u ≢ Unused → false ≡ stray_word (use_of u) c.args.w
    other Unused k = absurd (k refl)
    other Word k = refl
    other Recorder k = refl
    other Number k = refl
    other Set k = refl
