-- A refused call on a line leaves every lent slice, and a line that is read its text. Assumes nothing.
use Rattle.std.specs.Prelude.{ℕ, ◌≡◌, List}
use Rattle.model.specs.Call.{Words}
use Rattle.model.specs.RunFile.{FileOpening}
use Rattle.calls.specs.Kept.{Keeps}
use Rattle.story.specs.Lent.{action_lent, opening_lent, parse_lent}

pub record LinesKeep : Type 0 where
  -- `hall_print_action`: the text's slice and the answer's
  pub action_text : (w : Words) (t out : List ℕ) → Keeps (action_lent w t out).number t (action_lent w t out).bytes
  pub action_answer : (w : Words) (t out : List ℕ) → Keeps (action_lent w t out).number out (action_lent w t out).answer
  -- `hall_print_opening`
  pub opening_text : (o : FileOpening) (t out : List ℕ) → Keeps (opening_lent o t out).number t (opening_lent o t out).bytes
  pub opening_answer : (o : FileOpening) (t out : List ℕ) → Keeps (opening_lent o t out).number out (opening_lent o t out).answer
  -- `hall_parse_line`
  pub parse_text : (t : List ℕ) (at : ℕ) (out : List ℕ) → (parse_lent t at out).bytes ≡ t
  pub parse_answer : (t : List ℕ) (at : ℕ) (out : List ℕ) → Keeps (parse_lent t at out).number out (parse_lent t at out).answer
