-- A run told is read back. Assumes nothing.
use Prim.Native.Nat.{ℕ, zero, suc, ◌≤◌}
use native.Mathlib.Omega.{arith}
use mathlib.Core.Path.{◌≡◌, refl, ap, ap₂, ◌∙◌}
use mathlib.Core.Bool.{false, true≢false}
use mathlib.Core.List.{List, [], ◌∷◌, ◌++◌, map}
use lib.ListN.{length, length-append}
use borrow.Author.Tests.{eq-eqb}
use Rattle.base.specs.Lists.{Each, is_empty}
use Rattle.base.proofs.ChainsLaws.{chain-none}
use Rattle.model.specs.Call.{Words}
use Rattle.model.specs.RunFile.{RunText}
use Rattle.runfile.specs.InRange.{Small}
use Rattle.story.specs.Printing.{action_text, opening_text, tell_refusal}
use Rattle.story.specs.Parsing.{Line, opening, action}
use Rattle.story.specs.Stories.{actions_text, story_of, read_lines, lines_in, run, actions, and_then, actions_in, story_refusal, judged, story_in, read_story, Tellable}
use Rattle.story.proofs.LinesLaws.{Tells, line_read, line-dropped, line-some, tells-action}
use Rattle.story.proofs.OpeningsLaws.{told-opens, tells-opening}

-- ## Lines

read_none : (n : ℕ) → read_lines n [] ≡ []
unfolding read_lines is_empty
read_none zero = refl
read_none (suc n) = refl

-- a line told, and those after it: as many lines as there are bytes are enough
module _ (t : List ℕ) (l : Line) (h : Tells t l) (tail : List ℕ) where
  some : (t : List ℕ) → is_empty t ≡ false → (is_empty (t ++ tail) ≡ false) × (1 ≤ length t)
  unfolding is_empty
  some [] e = absurd (true≢false e)
  some (b ∷ bs) e = (refl, omega arith)

  read-line : (n : ℕ) → read_lines (suc n) (t ++ tail) ≡ l ∷ read_lines n tail
  unfolding read_lines
  read-line n =
      let e = (some t (line-some t l h)).0 in
      rw (e, read_lines) (ap₂ ◌∷◌ (line_read t l h tail) (ap (read_lines n) (line-dropped t l h tail)))

  read_told : (ls : List Line) → ((n : ℕ) → length tail ≤ n → read_lines n tail ≡ ls)
      → (n : ℕ) → length (t ++ tail) ≤ n → read_lines n (t ++ tail) ≡ l ∷ ls
  read_told ls f zero k = absurd (omega (arith, length-append t tail, (some t (line-some t l h)).1))
  read_told ls f (suc n) k =
      read-line n ∙ ap (λ (ms : List Line). l ∷ ms) (f n (omega (arith, length-append t tail, (some t (line-some t l h)).1)))

read-actions : (ws : List Words) → Each Small ws → (n : ℕ) → length (actions_text ws) ≤ n → read_lines n (actions_text ws) ≡ map action ws
unfolding actions_text
read-actions [] h n k = read_none n
read-actions (w ∷ ws) h n k =
    read_told (action_text w) (action w) (tells-action w h.0) (actions_text ws) (map action ws) (read-actions ws h.1) n k

-- ## The run

actions-back : (ws : List Words) → actions_in (map action ws) ≡ actions ws
unfolding actions_in and_then
actions-back [] = refl
actions-back (w ∷ ws) = ap (and_then w) (actions-back ws)

taken-run : (x : RunText) → story_refusal x ≡ 0 → judged x.opening (actions x.actions) ≡ run x
unfolding judged
taken-run x e = rw (eq-eqb (story_refusal x) 0 e, judged)

pub run-back : (x : RunText) → Tellable x → read_story (story_of x) ≡ run x
unfolding read_story story_of lines_in story_in story_refusal
run-back x h =
    let o = x.opening in
    let opens = told-opens o (chain-none (tell_refusal o) _ h.taken).0 in
    let told = tells-opening o opens h.eight h.unvoted in
    let t : List ℕ = opening_text o in
    let ts : List ℕ = actions_text x.actions in
    ap story_in
    (read_told t (opening o) told ts (map action x.actions) (read-actions x.actions h.words) (length (t ++ ts)) (omega arith))
    ∙ ap (judged o) (actions-back x.actions)
    ∙ taken-run x h.taken
