-- The lines of the text form, their parts, and what is printed. Assumes nothing.
use Rattle.std.specs.Prelude.{ℕ, ◌≡◌, true, false, List, [], ◌∷◌, ◌++◌, length, take, Option, Some, None, Result, Ok, Err}
use Rattle.model.specs.Call.{Words}
use Rattle.model.specs.Listing.{line}
use Rattle.model.specs.RefusalNumbers.{number}
use Rattle.model.specs.KindNumbers.{kind_number}
use Rattle.model.specs.declared.kinds.Kind.{Kind}
use Rattle.model.specs.declared.refusals.Refusal.{Refusal}
use Rattle.story.specs.Keywords.{kind_word, raw_word}
use Rattle.story.specs.Printing.{has_line, kind_fields, raw_fields}
use Rattle.printing.specs.declared.PrintedLine.{PrintedLine}

-- ## Parts of a line

-- fields after the first, each with the space before it
unfoldable pub spaced : List (List ℕ) → List ℕ
spaced [] = []
spaced (f ∷ fs) = 32 ∷ (f ++ spaced fs)

-- ## Lines

-- an action's line of its kind, and that of any four words
abbrev pub kind_text : Words → List ℕ
kind_text w = line (kind_word w.k) (kind_fields w)

abbrev pub raw_text : Words → List ℕ
raw_text w = line raw_word (raw_fields w)

-- the kind of the action's line, if it has one
abbrev pub TellsKind : Words → Option Kind → Type 0
TellsKind w (Some κ) = (has_line w ≡ true) × (kind_number κ ≡ w.k)
TellsKind w None = has_line w ≡ false

-- ## What is printed

-- a line that is the text t
pub record Holds (t : List ℕ) (x : PrintedLine) : Type 0 where
  pub len : x.len ≡ length t
  pub text : take x.len x.bytes ≡ t

-- the text t, and no refusal; or the number `why` of one
abbrev pub Prints : ℕ → List ℕ → Result PrintedLine Refusal → Type 0
Prints why t (Ok x) = (0 ≡ why) × Holds t x
Prints why t (Err e) = number e ≡ why
