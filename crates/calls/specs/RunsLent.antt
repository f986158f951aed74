-- Run files in C: what a call on a lent file returns and leaves, with its answer as words in a lent slice.
-- Assumes nothing.
use Rattle.std.specs.Prelude.{ℕ, ◌^◌, ◌/◌, ◌%◌, List, [], ◌∷◌, ◌++◌}
use Rattle.model.specs.Answers.{Plain}
use Rattle.model.specs.RunFile.{RunText, read_file, read_answer, next_at, write_file}
use Rattle.model.specs.RunFile.{ReadAnswer, opened, NextAnswer, action, end, WriteAnswer, written}
use Rattle.calls.specs.Lent.{Lent, taken, lent_call}

-- an offset has 64 bits: two words, the low one first
unfoldable pub offset_words : ℕ → List ℕ
offset_words at = at % 2 ^ 32 ∷ at / 2 ^ 32 ∷ []

-- ## The answers as words

-- N, the founders, the offset of the first action, how many actions there are, the third word, and the eight vote words
unfoldable pub read_words : ReadAnswer → Plain
read_words (opened o start count) = taken (o.size ∷ o.founders ∷ offset_words start ++ (count ∷ o.third ∷ o.words))
read_words (ReadAnswer.refused why) = record { number = why; values = [] }

-- 0, an action and the offset after it; or 1, the end
unfoldable pub next_words : NextAnswer → Plain
next_words (action w after) = taken (0 ∷ w.k ∷ w.r ∷ w.a ∷ w.b ∷ offset_words after)
next_words end = taken (1 ∷ [])

-- the length of the run
unfoldable pub written_words : WriteAnswer → Plain
written_words (written n) = taken (n ∷ [])
written_words (WriteAnswer.refused why) = record { number = why; values = [] }

-- ## The calls

-- reading the opening: 19, 16, 41, and 18 last
unfoldable pub run_read_lent : List ℕ → List ℕ → Lent
run_read_lent file out = lent_call (read_words (read_answer file (read_file file))) file file out

-- reading the action at an offset: 18 alone
unfoldable pub run_action_lent : List ℕ → ℕ → List ℕ → Lent
run_action_lent file at out = lent_call (next_words (next_at file at)) file file out

-- writing a run: 16, 41, 19, and 18 last, for either slice
unfoldable pub run_write_lent : List ℕ → RunText → List ℕ → Lent
run_write_lent file x out = let o = write_file x file in lent_call (written_words o.answer) file o.bytes out
