-- How an opening and an action are told: one line each (docs/text-form.md).
-- Assumes nothing.
use Rattle.std.specs.Prelude.{ℕ, ◌-◌, ◌^◌, Bool, true, false, ◌&&◌, List, [], ◌∷◌, ◌++◌, map, eqb, ltb}
use Rattle.base.specs.Chains.{refuse, ◌⨾◌}
use Rattle.model.specs.Kinds.{Use, unused, word, recorder, number, set, uses, kind, no_kind, kind_of}
use Rattle.model.specs.Call.{Words}
use Rattle.model.specs.Opening.{open_refusal}
use Rattle.model.specs.RunFile.{FileOpening, has_votes, opening_in}
use Rattle.model.specs.Listing.{decimal, line, hall-word}
use Rattle.story.specs.Sets.{set_text}
use Rattle.story.specs.Keywords.{kind_word, raw_word, founders-word, whole_word, votes-word}

-- ## Actions

-- can a word be told in a line of a kind that uses it so? An unused word is 0, and a set is one of recorders 1 to 8.
unfoldable pub can_tell : Use → ℕ → Bool
can_tell unused w = eqb w 0
can_tell word w = true
can_tell recorder w = true
can_tell number w = true
can_tell set w = ltb w 256

-- has an action a line of its kind?
unfoldable pub has_line : Words → Bool
has_line w =
    elim (kind_of w.k) [
      | kind κ ↦ can_tell (uses κ).r w.r && (can_tell (uses κ).a w.a && can_tell (uses κ).b w.b)
      | no_kind ↦ false
    ]

-- a word as fields, by its use
unfoldable pub arg_fields : Use → ℕ → List (List ℕ)
arg_fields unused w = []
arg_fields word w = decimal w ∷ []
arg_fields recorder w = decimal w ∷ []
arg_fields number w = decimal w ∷ []
arg_fields set w = set_text w ∷ []

-- the fields after a kind's word: the words that it uses, in turn
unfoldable pub kind_fields : Words → List (List ℕ)
kind_fields w =
    elim (kind_of w.k) [
      | kind κ ↦ arg_fields (uses κ).r w.r ++ (arg_fields (uses κ).a w.a ++ arg_fields (uses κ).b w.b)
      | no_kind ↦ []
    ]

-- any four words, after `raw`
unfoldable pub raw_fields : Words → List (List ℕ)
raw_fields w = decimal w.k ∷ decimal w.r ∷ decimal w.a ∷ decimal w.b ∷ []

-- an action's line: that of its kind if it has one
unfoldable pub action_text : Words → List ℕ
action_text w =
    elim (has_line w) [ true ↦ line (kind_word w.k) (kind_fields w) | false ↦ line raw_word (raw_fields w) ]

-- ## Openings

-- the mask of recorders 1 to n
abbrev pub whole_mask : ℕ → ℕ
whole_mask n = 2 ^ n - 1

-- the founders of n recorders: no field for the word 0
unfoldable pub founders_fields : ℕ → ℕ → List (List ℕ)
founders_fields n m =
    elim (eqb m 0) [
      | true ↦ []
      | false ↦ founders-word ∷ elim (eqb m (whole_mask n)) [ true ↦ whole_word | false ↦ set_text m ] ∷ []
    ]

-- the vote words, where the third word is 1
unfoldable pub votes_fields : ℕ → List ℕ → List (List ℕ)
votes_fields third ws = elim (has_votes third) [ true ↦ votes-word ∷ map decimal ws | false ↦ [] ]

unfoldable pub opening_text : FileOpening → List ℕ
opening_text o =
    line hall-word (decimal o.size ∷ (founders_fields o.size o.founders ++ votes_fields o.third o.words))

-- an opening that no run file has is not told: 16, 41, and 19 for a third word above 1, as a writer refuses it
unfoldable pub tell_refusal : FileOpening → ℕ
tell_refusal o = open_refusal (opening_in o) ⨾ refuse (ltb 1 o.third) 19
