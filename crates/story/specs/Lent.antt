-- Lines of text in C: what a call returns and leaves, with its answer as words in a lent slice. Assumes nothing.
use Rattle.std.specs.Prelude.{ℕ, ◌+◌, List, [], ◌∷◌, ◌++◌, ltb, length, drop}
use Rattle.std.proofs.lemmas.List.Edits.{sets}
use Rattle.base.specs.Chains.{refuse, ◌⨾◌}
use Rattle.model.specs.Call.{Words}
use Rattle.model.specs.RunFile.{FileOpening}
use Rattle.calls.specs.Lent.{Lent, taken, lent_call}
use Rattle.calls.specs.RunsLent.{offset_words}
use Rattle.story.specs.Fields.{line_length}
use Rattle.story.specs.Printing.{action_text, opening_text, tell_refusal}
use Rattle.story.specs.Parsing.{Line, blank, opening, action, wrong, line_of}

-- ## Printing

-- the line t at the start of a slice, and its length; a refusal's number, and 18 last, for either slice
unfoldable pub print_lent : ℕ → List ℕ → List ℕ → List ℕ → Lent
print_lent why t text out =
    lent_call (record { number = why ⨾ refuse (ltb (length text) (length t)) 18; values = length t ∷ [] }) text (sets text 0 t) out

unfoldable pub action_lent : Words → List ℕ → List ℕ → Lent
action_lent w text out = print_lent 0 (action_text w) text out

-- 16, 41, 19, and 18 last
unfoldable pub opening_lent : FileOpening → List ℕ → List ℕ → Lent
opening_lent o text out = print_lent (tell_refusal o) (opening_text o) text out

-- ## Reading

-- what a line says as words: which case, the offset after the line, and the words of the case
unfoldable pub line_words : Line → ℕ → List ℕ
line_words blank next = 0 ∷ offset_words next
line_words (opening o) next = 1 ∷ (offset_words next ++ (o.size ∷ o.founders ∷ o.third ∷ o.words))
line_words (action w) next = 2 ∷ (offset_words next ++ (w.k ∷ w.r ∷ w.a ∷ w.b ∷ []))
line_words (wrong k) next = 3 ∷ (offset_words next ++ (k ∷ []))

-- the line at an offset: 18 alone
unfoldable pub parse_lent : List ℕ → ℕ → List ℕ → Lent
parse_lent text at out =
    lent_call (taken (line_words (line_of (drop at text)) (at + line_length (drop at text)))) text text out
