-- Computed cards: 01's example run as text and back, a text that tells it otherwise, single lines.
-- Assumes nothing.
use Rattle.std.specs.Prelude.{ℕ, ◌≡◌, List, [], ◌∷◌, map, replicate}
use Rattle.model.specs.Call.{words_of}
use Rattle.model.specs.Cards.{listing_run}
use Rattle.story.specs.Parsing.{Line, opening, action, wrong, line_of}
use Rattle.story.specs.Stories.{story_of, run, read_story}

-- the text of 01's example run: N 1, founders 1; submit 700, label, send, place, receive, safe, confirm, deliver, deliver
unfoldable pub example_text : List ℕ
example_text =
    104 ∷ 97 ∷ 108 ∷ 108 ∷ 32 ∷ 49 ∷ 32 ∷ 102 ∷ 111 ∷ 117 ∷ 110 ∷ 100 ∷ 101 ∷ 114 ∷ 115 ∷ 32 ∷ 119 ∷ 104 ∷ 111 ∷ 108 ∷ 101 ∷ 10 ∷  -- hall 1 founders whole
    115 ∷ 117 ∷ 98 ∷ 109 ∷ 105 ∷ 116 ∷ 32 ∷ 49 ∷ 32 ∷ 55 ∷ 48 ∷ 48 ∷ 10 ∷  -- submit 1 700
    108 ∷ 97 ∷ 98 ∷ 101 ∷ 108 ∷ 32 ∷ 49 ∷ 10 ∷  -- label 1
    115 ∷ 101 ∷ 110 ∷ 100 ∷ 32 ∷ 49 ∷ 10 ∷  -- send 1
    112 ∷ 108 ∷ 97 ∷ 99 ∷ 101 ∷ 32 ∷ 49 ∷ 32 ∷ 49 ∷ 10 ∷  -- place 1 1
    114 ∷ 101 ∷ 99 ∷ 101 ∷ 105 ∷ 118 ∷ 101 ∷ 32 ∷ 49 ∷ 10 ∷  -- receive 1
    115 ∷ 97 ∷ 102 ∷ 101 ∷ 32 ∷ 49 ∷ 10 ∷  -- safe 1
    99 ∷ 111 ∷ 110 ∷ 102 ∷ 105 ∷ 114 ∷ 109 ∷ 32 ∷ 49 ∷ 10 ∷  -- confirm 1
    100 ∷ 101 ∷ 108 ∷ 105 ∷ 118 ∷ 101 ∷ 114 ∷ 32 ∷ 49 ∷ 10 ∷  -- deliver 1
    100 ∷ 101 ∷ 108 ∷ 105 ∷ 118 ∷ 101 ∷ 114 ∷ 32 ∷ 49 ∷ 10 ∷  -- deliver 1
    []

-- the same run, with remarks, blank lines, tabs and carriage returns, the founders as a set, a leading 0
unfoldable pub loose_text : List ℕ
loose_text =
    35 ∷ 32 ∷ 97 ∷ 32 ∷ 114 ∷ 117 ∷ 110 ∷ 10 ∷  -- # a run
    10 ∷  -- a blank line
    9 ∷ 104 ∷ 97 ∷ 108 ∷ 108 ∷ 32 ∷ 49 ∷ 32 ∷ 32 ∷ 102 ∷ 111 ∷ 117 ∷ 110 ∷ 100 ∷ 101 ∷ 114 ∷ 115 ∷ 32 ∷ 123 ∷ 49 ∷ 125 ∷ 13 ∷ 10 ∷  -- a tab, two spaces, a carriage return
    115 ∷ 117 ∷ 98 ∷ 109 ∷ 105 ∷ 116 ∷ 32 ∷ 48 ∷ 49 ∷ 32 ∷ 55 ∷ 48 ∷ 48 ∷ 35 ∷ 10 ∷  -- submit 01 700#
    108 ∷ 97 ∷ 98 ∷ 101 ∷ 108 ∷ 32 ∷ 49 ∷ 32 ∷ 35 ∷ 32 ∷ 111 ∷ 119 ∷ 110 ∷ 10 ∷  -- label 1 # own
    32 ∷ 9 ∷ 13 ∷ 10 ∷  -- blanks alone
    115 ∷ 101 ∷ 110 ∷ 100 ∷ 32 ∷ 49 ∷ 10 ∷  -- send 1
    112 ∷ 108 ∷ 97 ∷ 99 ∷ 101 ∷ 32 ∷ 49 ∷ 32 ∷ 49 ∷ 10 ∷  -- place 1 1
    114 ∷ 101 ∷ 99 ∷ 101 ∷ 105 ∷ 118 ∷ 101 ∷ 32 ∷ 49 ∷ 10 ∷  -- receive 1
    115 ∷ 97 ∷ 102 ∷ 101 ∷ 32 ∷ 49 ∷ 10 ∷  -- safe 1
    99 ∷ 111 ∷ 110 ∷ 102 ∷ 105 ∷ 114 ∷ 109 ∷ 32 ∷ 49 ∷ 10 ∷  -- confirm 1
    100 ∷ 101 ∷ 108 ∷ 105 ∷ 118 ∷ 101 ∷ 114 ∷ 32 ∷ 49 ∷ 10 ∷  -- deliver 1
    100 ∷ 101 ∷ 108 ∷ 105 ∷ 118 ∷ 101 ∷ 114 ∷ 32 ∷ 49 ∷  -- deliver 1, and no byte 10
    []

-- lines that are none, and the numbers of their first words
unfoldable pub wrong_lines : List (List ℕ)
wrong_lines =
    (115 ∷ 117 ∷ 98 ∷ 109 ∷ 105 ∷ 116 ∷ 32 ∷ 57 ∷ 10 ∷ []) ∷  -- submit 9
    (115 ∷ 117 ∷ 98 ∷ 109 ∷ 105 ∷ 116 ∷ 32 ∷ 49 ∷ 32 ∷ 55 ∷ 48 ∷ 48 ∷ 32 ∷ 48 ∷ 10 ∷ []) ∷  -- submit 1 700 0
    (115 ∷ 117 ∷ 98 ∷ 109 ∷ 105 ∷ 116 ∷ 32 ∷ 49 ∷ 32 ∷ 52 ∷ 50 ∷ 57 ∷ 52 ∷ 57 ∷ 54 ∷ 55 ∷ 50 ∷ 57 ∷ 54 ∷ 10 ∷ []) ∷  -- submit 1 4294967296
    (102 ∷ 111 ∷ 114 ∷ 109 ∷ 32 ∷ 50 ∷ 32 ∷ 123 ∷ 49 ∷ 44 ∷ 49 ∷ 125 ∷ 10 ∷ []) ∷  -- form 2 {1,1}
    (114 ∷ 97 ∷ 119 ∷ 32 ∷ 49 ∷ 50 ∷ 32 ∷ 57 ∷ 32 ∷ 48 ∷ 10 ∷ []) ∷  -- raw 12 9 0
    (104 ∷ 97 ∷ 108 ∷ 108 ∷ 32 ∷ 51 ∷ 32 ∷ 102 ∷ 111 ∷ 117 ∷ 110 ∷ 100 ∷ 101 ∷ 114 ∷ 115 ∷ 32 ∷ 123 ∷ 125 ∷ 10 ∷ []) ∷  -- hall 3 founders {}
    (106 ∷ 117 ∷ 109 ∷ 112 ∷ 32 ∷ 49 ∷ 10 ∷ []) ∷  -- jump 1
    []

unfoldable pub wrong_numbers : List ℕ
wrong_numbers = 1 ∷ 1 ∷ 1 ∷ 5 ∷ 254 ∷ 255 ∷ 0 ∷ []

-- lines and what they say
unfoldable pub right_lines : List (List ℕ)
right_lines =
    (102 ∷ 111 ∷ 114 ∷ 109 ∷ 32 ∷ 52 ∷ 32 ∷ 123 ∷ 49 ∷ 44 ∷ 51 ∷ 125 ∷ 10 ∷ []) ∷  -- form 4 {1,3}
    (114 ∷ 97 ∷ 119 ∷ 32 ∷ 49 ∷ 50 ∷ 32 ∷ 57 ∷ 32 ∷ 48 ∷ 32 ∷ 48 ∷ 10 ∷ []) ∷  -- raw 12 9 0 0
    (114 ∷ 97 ∷ 119 ∷ 32 ∷ 53 ∷ 32 ∷ 49 ∷ 32 ∷ 52 ∷ 32 ∷ 53 ∷ 10 ∷ []) ∷  -- raw 5 1 4 5
    (104 ∷ 97 ∷ 108 ∷ 108 ∷ 32 ∷ 51 ∷ 32 ∷ 118 ∷ 111 ∷ 116 ∷ 101 ∷ 115 ∷ 32 ∷ 53 ∷ 32 ∷ 51 ∷ 32 ∷ 51 ∷ 32 ∷ 48 ∷ 32 ∷ 48 ∷ 32 ∷ 48 ∷ 32 ∷ 48 ∷ 32 ∷ 48 ∷ 10 ∷ []) ∷  -- hall 3 votes 5 3 3 0 0 0 0 0
    []

unfoldable pub right_readings : List Line
right_readings =
    action (words_of 5 0 4 5)
    ∷ action (words_of 12 9 0 0)
    ∷ action (words_of 5 1 4 5)
    ∷ opening (record { size = 3; founders = 0; third = 1; words = 5 ∷ 3 ∷ 3 ∷ replicate 5 0 })
    ∷ []

pub record Cards : Type 0 where
  pub told : story_of listing_run ≡ example_text
  pub read : read_story example_text ≡ run listing_run
  pub loose : read_story loose_text ≡ run listing_run
  pub right : map line_of right_lines ≡ right_readings
  pub none : map line_of wrong_lines ≡ map wrong wrong_numbers
