-- Settling a hall (02, A5): the view with the greatest number, the calls that a turn tries, the run that a settle stands
-- for, and lists of calls with settles among them.
-- Assumes nothing.
use Rattle.std.specs.Prelude.{ℕ, zero, suc, ◌≡◌, Bool, true, false, not, ◌||◌, List, [], ◌∷◌, ◌++◌, map, eqb, length}
use Rattle.base.specs.Lists.{greatest, has}
use Rattle.model.specs.Hall.{Hall}
use Rattle.model.specs.Answers.{Plain, plain, accepted}
use Rattle.model.specs.Refusals.{Rules, is_primary}
use Rattle.model.specs.Call.{Words, words_of, step}
use Rattle.model.specs.Run.{run, of_items, History}

-- "the view with the greatest number": the greatest formed number, 0 for none
unfoldable pub greatest_view : Hall → ℕ
greatest_view h = greatest (λ g. g) h.service.created

-- 42: "a hall whose greatest view is missing or not primary"
unfoldable pub cannot_settle : Hall → Bool
cannot_settle h = let g = greatest_view h in eqb g 0 || not (is_primary h g)

-- "in the order of kinds 6, 4, 3, 2, 7, 8, 9, 10, 11"
unfoldable pub settle_kinds : List ℕ
settle_kinds = 6 ∷ 4 ∷ 3 ∷ 2 ∷ 7 ∷ 8 ∷ 9 ∷ 10 ∷ 11 ∷ []

-- the call of kind k at recorder r: the word A is the view in kinds 6 and 7, "only in that view"
unfoldable pub settle_call : ℕ → ℕ → ℕ → Words
settle_call g k r = words_of k r (elim (eqb k 6 || eqb k 7) [ true ↦ g | false ↦ 0 ]) 0

-- "lowest recorder first": under each kind the members ms of view g, rising
unfoldable pub calls_under : ℕ → List ℕ → List ℕ → List Words
calls_under g ms [] = []
calls_under g ms (k ∷ ks) = map (settle_call g k) ms ++ calls_under g ms ks

unfoldable pub settle_calls : ℕ → List ℕ → List Words
settle_calls g ms = calls_under g ms settle_kinds

-- "only in that view": a recorder enters it, or it is the recorder's current view
unfoldable pub is_in_view : Hall → ℕ → Words → Bool
is_in_view h g w = eqb w.k 6 || eqb (h.service.current w.r) g

-- a turn: the call that it takes, a 40 met before one, or no call left
pub data Turn : Type 0 where
  takes : Words → Turn
  full : Turn
  none : Turn

-- a call tried: its number is 0, it is taken; 40 ends the turn; after any other number the later calls are tried
unfoldable pub tried : ℕ → Words → Turn → Turn
tried n w later = elim (eqb n 0) [ true ↦ takes w | false ↦ elim (eqb n 40) [ true ↦ full | false ↦ later ] ]

-- "the first action in the order .. that is not refused"
unfoldable pub turn : Rules → Hall → ℕ → List Words → Turn
turn rules h g [] = none
turn rules h g (w ∷ ws) =
    elim (is_in_view h g w) [ true ↦ tried (plain (step rules h w).answer).number w (turn rules h g ws) | false ↦ turn rules h g ws ]

-- one turn in view g
unfoldable pub turn_of : Rules → Hall → ℕ → Turn
turn_of rules h g = turn rules h g (settle_calls g (h.service.members g))

-- what a settle gives: the calls of the run that it stands for, or a refusal's number
pub data Settling : Type 0 where
  settled : List Words → Settling
  refused : ℕ → Settling

-- one call before the others
unfoldable pub and_then : Words → Settling → Settling
and_then w (settled ws) = settled (w ∷ ws)
and_then w (refused n) = refused n

-- more turns than a settle of any hall in range takes (proofs in crates/progress)
abbrev pub max_turns : ℕ
max_turns = 3000

-- "it ends when none is left"; 40 ends it too
unfoldable pub settle_from : Rules → ℕ → ℕ → Hall → Settling
settle_from rules zero g h = settled []
settle_from rules (suc n) g h =
    elim (turn_of rules h g) [
      | takes w ↦ and_then w (settle_from rules n g (step rules h w).hall)
      | full ↦ refused 40
      | none ↦ settled []
    ]

-- settle the hall: 42, 40
unfoldable pub settle : Rules → Hall → Settling
settle rules h = elim (cannot_settle h) [ true ↦ refused 42 | false ↦ settle_from rules max_turns (greatest_view h) h ]

-- "at most 2,392 on a hall so reached" (proofs in crates/progress)
abbrev pub max_steps : ℕ
max_steps = 2392

-- the calls of the run that a settle stands for: none if it is refused
unfoldable pub calls_taken : Settling → List Words
calls_taken (settled ws) = ws
calls_taken (refused n) = []

-- each call of a run is accepted, in turn
abbrev pub AllAccepted : Rules → Hall → List Words → Type 0
AllAccepted rules h [] = Unit {0}
AllAccepted rules h (w ∷ ws) = (accepted (step rules h w).answer ≡ true) × AllAccepted rules (step rules h w).hall ws

-- "The count of accepted steps in the answer", or the refusal's number: "other answer fields 0"
unfoldable pub plain_settle : Settling → Plain
plain_settle (settled ws) = record { number = 0; values = length ws ∷ [] }
plain_settle (refused n) = record { number = n; values = 0 ∷ [] }

-- "every entry submitted at a member has then been delivered at all members": of what a run leaves, for the members ms
abbrev pub Complete : History → List ℕ → Type 0
Complete left ms = (s p : ℕ) → has ms s ≡ true → has ms p ≡ true → of_items s (left.delivered p) ≡ left.submitted s

-- ## Calls, settles among them

-- a call that changes a hall: an action's words, or a settle
pub data Call : Type 0 where
  action : Words → Call
  settling : Call

-- the calls that one call stands for: "the run it stands for, as which demand 3 counts it"
unfoldable pub stands_for : Rules → Hall → Call → List Words
stands_for rules h (action w) = w ∷ []
stands_for rules h settling = calls_taken (settle rules h)

-- the calls that a list of calls stands for
unfoldable pub calls_of : Rules → Hall → List Call → List Words
calls_of rules h [] = []
calls_of rules h (c ∷ cs) = let ws = stands_for rules h c in ws ++ calls_of rules (run rules h ws) cs

-- the hall after them
unfoldable pub run_calls : Rules → Hall → List Call → Hall
run_calls rules h [] = h
run_calls rules h (c ∷ cs) = run_calls rules (run rules h (stands_for rules h c)) cs
