-- Each arm is the test of its use. Assumes nothing.
use Rattle.std.proofs.Common.{◌≢◌}
use mathlib.Core.Path.{◌≡◌, refl, sym, ap}
use mathlib.Core.Bool.{true}
use Rattle.words.specs.declared.Use.{Use}
use Rattle.words.specs.declared.Use.TheVariants.{Unused, Word, Recorder, Number, Set}
use Rattle.words.specs.Words.{use_of}
use Rattle.story.specs.Printing.{can_tell}
use Rattle.printing.proofs.can_tell.Goals as goal

pub returns-in-Unused : goal.returns-in-Unused
unfolding can_tell use_of
returns-in-Unused c = sym (ap (λ u. can_tell (use_of u) c.args.w) c.in-Unused.is)

pub returns-in-Set : goal.returns-in-Set
unfolding can_tell use_of
returns-in-Set c = sym (ap (λ u. can_tell (use_of u) c.args.w) c.in-Set.is)

pub returns-in_default : goal.returns-in_default
unfolding can_tell use_of
returns-in_default c = other c.args.u c.in_default.not-Unused c.in_default.not-Set
  where
    other : (u : Use) → u ≢ Unused → u ≢ Set → true ≡ can_tell (use_of u) c.args.w
    other Unused k l = absurd (k refl)
    other Word k l = refl
    other Recorder k l = refl
    other Number k l = refl
    other Set k l = absurd (l refl)
