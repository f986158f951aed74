-- What the code takes off a line, and what a line says, by the definitions of the text form.
-- Assumes nothing.
use Rattle.std.specs.Prelude.{ℕ, ◌≤◌, ◌≡◌, Bool, true, false, List, length, drop, Option, Some, None}
use Rattle.runfile.specs.Answers.{action_words, file_opening}
use Rattle.runfile.specs.declared.Action.{Action as Words}
use Rattle.runfile.specs.declared.FileOpening.{FileOpening}
use Rattle.story.specs.Fields.{fields_in}
use Rattle.story.specs.Keywords.{hall_number}
use Rattle.story.specs.Parsing as story
use Rattle.parsing.specs.declared.Line.{Line}
use Rattle.parsing.specs.declared.Line.TheVariants.{Blank, Opening, Action, Wrong}

-- a value taken off a line: the form, the value, and the fields after it, which stand from an offset on
pub record Took {V : Type 0} (text : List ℕ) (ok : Bool) (meant : V) (after : List (List ℕ)) (value : V) (next : ℕ) : Type 0 where
  pub form : ok ≡ true
  pub same : value ≡ meant
  pub left : fields_in (drop next text) ≡ after
  pub within : next ≤ length text

-- a word taken, or none
abbrev pub Takes : List ℕ → story.Taken → Option (ℕ × ℕ) → Type 0
Takes text x None = x.ok ≡ false
Takes text x (Some t) = Took text x.ok x.number x.left t.0 t.1

-- the same of four numbers
abbrev pub TakesFour : List ℕ → story.TakenFour → Option (Words × ℕ) → Type 0
TakesFour text x None = x.ok ≡ false
TakesFour text x (Some t) = Took text x.ok x.words x.left (action_words t.0) t.1

-- the same of the votes
abbrev pub TakesVotes : List ℕ → story.TakenVotes → Option ((ℕ × List ℕ) × ℕ) → Type 0
TakesVotes text x None = x.ok ≡ false
TakesVotes text x (Some t) = Took {V = ℕ × List ℕ} text x.ok (x.third, x.words) x.left t.0 t.1

-- an action or an opening, if all of its line was read; else no line, with the number of its first word
unfoldable pub action_or : Option Words → ℕ → story.Line
action_or (Some x) k = story.action (action_words x)
action_or None k = story.wrong k

unfoldable pub opening_or : Option FileOpening → story.Line
opening_or (Some o) = story.opening (file_opening o)
opening_or None = story.wrong hall_number

-- what a line says, by cases
unfoldable pub line_meaning : Line → story.Line
line_meaning Blank = story.blank
line_meaning (Opening o) = story.opening (file_opening o)
line_meaning (Action x) = story.action (action_words x)
line_meaning (Wrong k) = story.wrong k
