-- Laws of specs/KindNumbers. Assumes nothing.
use mathlib.Core.Path.{◌≡◌, refl}
use Rattle.model.specs.Kinds.{kind, kinds, kind_of}
use Rattle.model.specs.declared.kinds.Kind.{Kind}
use Rattle.model.specs.declared.kinds.Kind.TheVariants.{Submit, Label, SendEntry, SendSummary, Form, Enter, Place, Receive, Notice, Confirm, Deliver}
use Rattle.model.specs.KindNumbers.{kind_meaning, kind_number}

-- the number of a kind names it
pub number-names : (κ : Kind) → kind_of (kind_number κ) ≡ kind (kind_meaning κ)
unfolding kind_of kinds
number-names Submit = refl
number-names Label = refl
number-names SendEntry = refl
number-names SendSummary = refl
number-names Form = refl
number-names Enter = refl
number-names Place = refl
number-names Receive = refl
number-names Notice = refl
number-names Confirm = refl
number-names Deliver = refl
