-- Listings with invented end counts (01, "Agreement"): which they are. Their difference is in proofs/EndCounts.
-- Assumes nothing.
use Rattle.std.specs.Prelude.{ℕ, ◌+◌, ◌≡◌, true, false, List, [], ◌∷◌, ◌++◌}
use Rattle.model.specs.Answers.{Answer, accepted}
use Rattle.model.specs.Opening.{opened}
use Rattle.model.specs.Call.{hl3}
use Rattle.model.specs.Run.{answers}
use Rattle.model.specs.RunFile.{opening_in, RunText, Reading, read_file}
use Rattle.model.specs.Listing.{line, hall-word, decimal, end_line, action_lines, refused_line}

-- how many of the answers are accepted, and how many refused
unfoldable pub accepted_count : List Answer → ℕ
accepted_count [] = 0
accepted_count (x ∷ xs) = elim (accepted x) [ true ↦ 1 | false ↦ 0 ] + accepted_count xs

unfoldable pub refused_count : List Answer → ℕ
refused_count [] = 0
refused_count (x ∷ xs) = elim (accepted x) [ true ↦ 0 | false ↦ 1 ] + refused_count xs

-- "`end` with accepted and refused counts"
abbrev pub end_of : RunText → List ℕ
end_of x = let xs = answers hl3 (opened (opening_in x.opening)) x.actions in end_line (accepted_count xs) (refused_count xs)

-- a text that closes with a line
pub record Closes (text last : List ℕ) : Type 0 where
  pub before : List ℕ
  pub joins : text ≡ before ++ last

-- "one with invented .. end counts": its listing of some run file does not close with the counts of that run's calls
pub record InventsEnd (f : List ℕ → List ℕ) : Type 0 where
  pub file : List ℕ
  pub run : RunText
  pub reads : read_file file ≡ Reading.text run
  pub other : Closes (f file) (end_of run) → ⊥

-- one of them: as `listing`, with seven accepted calls more
unfoldable pub invented_end : List ℕ → List ℕ
invented_end file =
    elim (read_file file) [
      | Reading.text x ↦
          line hall-word (decimal x.opening.size ∷ []) ++ action_lines hl3 (opened (opening_in x.opening)) 1 7 0 x.actions
      | Reading.refused k ↦ refused_line k
    ]
