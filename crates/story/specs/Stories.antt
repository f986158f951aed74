-- Whole runs as text, and the statements about them.
-- Assumes nothing.
use Rattle.std.specs.Prelude.{ℕ, zero, suc, ◌≡◌, true, false, List, [], ◌∷◌, ◌++◌, eqb, ltb, length, drop, replicate}
use Rattle.base.specs.Chains.{refuse, ◌⨾◌}
use Rattle.base.specs.Lists.{Each, is_empty}
use Rattle.model.specs.Call.{Words}
use Rattle.model.specs.RunFile.{FileOpening, RunText, has_votes, max_actions, Reading, read_file}
use Rattle.runfile.specs.InRange.{Bytes, Small}
use Rattle.story.specs.Fields.{line_length}
use Rattle.story.specs.Printing.{action_text, opening_text, tell_refusal}
use Rattle.story.specs.Parsing.{Line, blank, opening, action, wrong, line_of}

-- ## A run to text

unfoldable pub actions_text : List Words → List ℕ
actions_text [] = []
actions_text (w ∷ ws) = action_text w ++ actions_text ws

unfoldable pub story_of : RunText → List ℕ
story_of x = opening_text x.opening ++ actions_text x.actions

-- ## Text to a run

-- at most n lines of a text
unfoldable pub read_lines : ℕ → List ℕ → List Line
read_lines zero bs = []
read_lines (suc n) bs =
    elim (is_empty bs) [ true ↦ [] | false ↦ line_of bs ∷ read_lines n (drop (line_length bs) bs) ]

-- all lines: each has a byte
unfoldable pub lines_in : List ℕ → List Line
lines_in bs = read_lines (length bs) bs

-- a run; the number for which no run file has it (16, 41, 19); or a text with a line that is wrong or stands in the wrong place
pub data Story : Type 0 where
  run : RunText → Story
  refused : ℕ → Story
  untold : Story

-- actions, or none where a line is no action
pub data Actions : Type 0 where
  actions : List Words → Actions
  others : Actions

-- one action more in front
unfoldable pub and_then : Words → Actions → Actions
and_then w (actions ws) = actions (w ∷ ws)
and_then w others = others

-- the lines after the opening
unfoldable pub actions_in : List Line → Actions
actions_in [] = actions []
actions_in (blank ∷ ls) = actions_in ls
actions_in (opening o ∷ ls) = others
actions_in (action w ∷ ls) = and_then w (actions_in ls)
actions_in (wrong k ∷ ls) = others

-- 16, 41, and 19 also for more actions than a run file has
unfoldable pub story_refusal : RunText → ℕ
story_refusal x = tell_refusal x.opening ⨾ refuse (ltb (max_actions x.opening.third) (length x.actions)) 19

unfoldable pub judged : FileOpening → Actions → Story
judged o (actions ws) =
    let x : RunText = record { opening = o; actions = ws } in
    let why = story_refusal x in
    elim (eqb why 0) [ true ↦ run x | false ↦ refused why ]
judged o others = untold

-- an opening first, then actions
unfoldable pub story_in : List Line → Story
story_in [] = untold
story_in (blank ∷ ls) = story_in ls
story_in (opening o ∷ ls) = judged o (actions_in ls)
story_in (action w ∷ ls) = untold
story_in (wrong k ∷ ls) = untold

unfoldable pub read_story : List ℕ → Story
read_story bs = story_in (lines_in bs)

-- ## What is shown

-- a run that a run file has: one that is not refused, of words of 32 bits, whose eight vote words are 0 without a third word of 1
pub record Tellable (x : RunText) : Type 0 where
  pub taken : story_refusal x ≡ 0
  pub eight : length x.opening.words ≡ 8
  pub unvoted : has_votes x.opening.third ≡ false → x.opening.words ≡ replicate 8 0
  pub words : Each Small x.actions

-- what is printed of a run reads back as that run
pub record TellsBack : Type 1 where
  pub back : (x : RunText) → Tellable x → read_story (story_of x) ≡ run x

-- what a text reads as, printed and read again, is the same run
pub record TellsAgain : Type 1 where
  pub again : (bs : List ℕ) (x : RunText) → read_story bs ≡ run x → read_story (story_of x) ≡ run x

-- every run of a run file, a list of bytes, has a text
pub record FileTells : Type 1 where
  pub file : (bs : List ℕ) (x : RunText) → Bytes bs → read_file bs ≡ Reading.text x
      → read_story (story_of x) ≡ run x
