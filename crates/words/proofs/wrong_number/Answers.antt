-- `words::wrong_number` meets its contract. Assumes nothing.
use Rattle.std.proofs.Common.{◌≢◌}
use mathlib.Core.Path.{◌≡◌, refl, sym, ap, ◌∙◌}
use mathlib.Core.Bool.{false}
use native.Mathlib.Omega.{arith}
use Rattle.model.specs.Hall.{max_number}
use Rattle.model.specs.Kinds.{wrong_number}
use Rattle.words.specs.declared.Use.{Use}
use Rattle.words.specs.declared.Use.TheVariants.{Unused, Word, Recorder, Number, Set}
use Rattle.words.specs.Words.{use_of}
use Rattle.words.proofs.WordsLaws.{zero-alone}
use Rattle.words.proofs.wrong_number.Goals as goal

pub returns-in-Number : goal.returns-in-Number
unfolding wrong_number use_of
returns-in-Number c =
    let a = c.args in
    zero-alone max_number a.w (omega (arith, c.ranges.w.fits)) ∙ sym (ap (λ u. wrong_number (use_of u) a.w) c.in-Number.is)

pub returns-in_default : goal.returns-in_default
unfolding wrong_number use_of
returns-in_default c = other c.args.u c.in_default.not-Number
  where
    other : (u : Use) → u ≢ Number → false ≡ wrong_number (use_of u) c.args.w
    other Unused k = refl
    other Word k = refl
    other Recorder k = refl
    other Number k = absurd (k refl)
    other Set k = refl
