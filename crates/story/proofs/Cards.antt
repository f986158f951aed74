-- The cards hold: computed. Assumes nothing.
use mathlib.Core.Path.{refl}
use Rattle.model.specs.Cards.{listing_run, up_to_confirm}
use Rattle.model.proofs.Computing.{computing}
use Rattle.story.specs.Cards.{example_text, loose_text, wrong_lines, wrong_numbers, right_lines, right_readings, Cards}
use Rattle.story.proofs.Computing as own

pub story-cards : Cards
unfolding computing own.computing listing_run up_to_confirm example_text loose_text wrong_lines wrong_numbers right_lines right_readings
story-cards = record { told = refl; read = refl; loose = refl; right = refl; none = refl }
