-- What a text is read as can be told: words of 32 bits, and eight vote words. Assumes nothing.
use Prim.Native.Nat.{ℕ, zero, suc, ◌^◌, ◌<◌}
use native.Mathlib.Omega.{arith}
use mathlib.Core.Path.{◌≡◌, refl, subst}
use mathlib.Core.Bool.{Bool, true, false, ◌&&◌, true≢false}
use mathlib.Core.List.{List, [], ◌∷◌}
use lib.Dec.{eqb, lit<}
use lib.ListN.{length, drop, replicate}
use borrow.Author.Tests.{eqb-true}
use Rattle.base.specs.Lists.{Each, rest, is_empty}
use Rattle.base.proofs.Bools.{by_cases}
use Rattle.codec.specs.Bytes.{same_bytes}
use Rattle.model.specs.Kinds.{Use, unused, word, recorder, number, set, Uses, uses, KindWord, kind, no_kind, kind_of}
use Rattle.model.specs.Call.{Words, words_of}
use Rattle.model.specs.RunFile.{FileOpening, RunText, has_votes}
use Rattle.runfile.specs.InRange.{Small}
use Rattle.story.specs.Fields.{fields_in, first_field, line_length}
use Rattle.story.specs.Numbers.{number_of}
use Rattle.story.specs.Keywords.{votes-word, raw_number, hall_number, word_number}
use Rattle.story.specs.Parsing.{Line, blank, opening, action, wrong, take_field, take_word, take_four, kind_line, raw_line, take_founders, TakenVotes, take_eight, take_votes, opening_line, line_from, line_of}
use Rattle.story.specs.Stories.{read_lines, lines_in, Story, run, refused, untold, Actions, actions, others, and_then, actions_in, story_refusal, judged, story_in, read_story, Tellable}
use Rattle.story.proofs.NumbersLaws.{number_word}
use Rattle.story.proofs.SetsLaws.{set-small}
use Rattle.story.proofs.KeywordsLaws.{kind-named}

-- ## A line

-- vote words that an opening has
record VotesOf (third : ℕ) (ws : List ℕ) : Type 0 where
  pub eight : length ws ≡ 8
  pub unvoted : has_votes third ≡ false → ws ≡ replicate 8 0

-- what can be told
abbrev InRange : Line → Type 0
InRange blank = Unit {0}
InRange (opening o) = VotesOf o.third o.words
InRange (action w) = Small w
InRange (wrong k) = Unit {0}

range-if : (t : Bool) (x y : Line) → InRange x → InRange y → InRange (elim t [ true ↦ x | false ↦ y ])
range-if true x y h k = h
range-if false x y h k = k

word-range : (u : Use) (fs : List (List ℕ)) → (take_word u fs).number < 2 ^ 32
unfolding take_word take_field
word-range unused fs = lit< tt
word-range word fs = number_word (first_field fs)
word-range recorder fs = number_word (first_field fs)
word-range number fs = number_word (first_field fs)
word-range set fs = omega (arith, set-small (first_field fs))

kind-range : (k : ℕ) (u : Uses) (fs : List (List ℕ)) → k < 2 ^ 32 → InRange (kind_line k u fs)
unfolding kind_line
kind-range k u fs h =
    let r = take_word u.r fs in
    let a = take_word u.a r.left in
    let b = take_word u.b a.left in
    range-if (r.ok && (a.ok && (b.ok && is_empty b.left))) (action (words_of k r.number a.number b.number)) (wrong k)
    (record { k = h; r = word-range u.r fs; a = word-range u.a r.left; b = word-range u.b a.left })
    tt

four-range : (fs : List (List ℕ)) → Small (take_four fs).words
unfolding take_four take_field
four-range fs = record { k = number_word _; r = number_word _; a = number_word _; b = number_word _ }

raw-range : (fs : List (List ℕ)) → InRange (raw_line fs)
unfolding raw_line
raw-range fs =
    let x = take_four fs in
    range-if (x.ok && is_empty x.left) (action x.words) (wrong raw_number) (four-range fs) tt

votes-range : (fs : List (List ℕ)) → VotesOf (take_votes fs).third (take_votes fs).words
unfolding take_votes take_eight has_votes
votes-range fs = go (same_bytes votes-word (first_field fs))
  where
    votes_if : Bool → TakenVotes
    votes_if t = elim t [ true ↦ take_eight (rest fs) | false ↦ record { ok = true; third = 0; words = replicate 8 0; left = fs } ]

    go : (t : Bool) → VotesOf (votes_if t).third (votes_if t).words
    go true = record { eight = refl; unvoted = λ e. absurd (true≢false e) }
    go false = record { eight = refl; unvoted = λ e. refl }

opening-range : (fs : List (List ℕ)) → InRange (opening_line fs)
unfolding opening_line
opening-range fs =
    let n = take_field number_of fs in
    let m = take_founders n.number n.left in
    let v = take_votes m.left in
    range-if (n.ok && (m.ok && (v.ok && is_empty v.left)))
    (opening (record { size = n.number; founders = m.number; third = v.third; words = v.words }))
    (wrong hall_number) (votes-range m.left) tt

from-range : (k : ℕ) (fs : List (List ℕ)) → InRange (line_from k fs)
unfolding line_from
from-range k fs =
    range-if (eqb k hall_number) (opening_line fs) _ (opening-range fs)
    (range-if (eqb k raw_number) (raw_line fs) _ (raw-range fs) (go (kind_of k) refl))
  where
    go : (x : KindWord) → kind_of k ≡ x → InRange (elim x [ kind κ ↦ kind_line k (uses κ) fs | no_kind ↦ wrong 0 ])
    go (kind κ) e = kind-range k (uses κ) fs (omega (arith, (kind-named k κ e).below))
    go no_kind e = tt

line-range : (bs : List ℕ) → InRange (line_of bs)
unfolding line_of
line-range bs =
    let fs = fields_in bs in
    range-if (is_empty fs) blank (line_from (word_number (first_field fs)) (rest fs)) tt (from-range (word_number (first_field fs)) (rest fs))

lines-range : (n : ℕ) (bs : List ℕ) → Each InRange (read_lines n bs)
unfolding read_lines
lines-range zero bs = tt
lines-range (suc n) bs = by_cases (is_empty bs) (λ e. rw (e, read_lines) tt) (λ e. rw (e, read_lines) (line-range bs, lines-range n (drop (line_length bs) bs)))

-- ## A run

abbrev ActionsInRange : Actions → Type 0
ActionsInRange (actions ws) = Each Small ws
ActionsInRange others = Unit {0}

then-range : (w : Words) (x : Actions) → Small w → ActionsInRange x → ActionsInRange (and_then w x)
unfolding and_then
then-range w (actions ws) h k = (h, k)
then-range w others h k = tt

actions-range : (ls : List Line) → Each InRange ls → ActionsInRange (actions_in ls)
unfolding actions_in
actions-range [] h = tt
actions-range (blank ∷ ls) h = actions-range ls h.1
actions-range (opening o ∷ ls) h = tt
actions-range (action w ∷ ls) h = then-range w (actions_in ls) h.0 (actions-range ls h.1)
actions-range (wrong k ∷ ls) h = tt

abbrev StoryInRange : Story → Type 0
StoryInRange (run x) = Tellable x
StoryInRange (refused k) = Unit {0}
StoryInRange untold = Unit {0}

judged-range : (o : FileOpening) (x : Actions) → VotesOf o.third o.words → ActionsInRange x → StoryInRange (judged o x)
unfolding judged
judged-range o others h k = tt
judged-range o (actions ws) h k = go (eqb (story_refusal x) 0) refl
  where
    x : RunText
    x = record { opening = o; actions = ws }

    go : (t : Bool) → eqb (story_refusal x) 0 ≡ t → StoryInRange (elim t [ true ↦ run x | false ↦ refused (story_refusal x) ])
    go true e = record { taken = eqb-true (story_refusal x) 0 e; eight = h.eight; unvoted = h.unvoted; words = k }
    go false e = tt

story-range : (ls : List Line) → Each InRange ls → StoryInRange (story_in ls)
unfolding story_in
story-range [] h = tt
story-range (blank ∷ ls) h = story-range ls h.1
story-range (opening o ∷ ls) h = judged-range o (actions_in ls) h.0 (actions-range ls h.1)
story-range (action w ∷ ls) h = tt
story-range (wrong k ∷ ls) h = tt

-- a run that is read can be told
pub read-tellable : (bs : List ℕ) (x : RunText) → read_story bs ≡ run x → Tellable x
unfolding read_story lines_in
read-tellable bs x e = subst StoryInRange e (story-range (lines_in bs) (lines-range (length bs) bs))
