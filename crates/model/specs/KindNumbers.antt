-- The code's kinds: what each means, its number, and the kind that a number names.
-- Assumes nothing.
use Rattle.std.specs.Prelude.{◌≡◌, ℕ, Result, MatchResult}
use Rattle.model.specs.Kinds as model
use Rattle.model.specs.Kinds.{kind, no_kind, kind_of}
use Rattle.model.specs.declared.kinds.Kind.{Kind}
use Rattle.model.specs.declared.kinds.Kind.TheVariants.{Submit, Label, SendEntry, SendSummary, Form, Enter, Place, Receive, Notice, Confirm, Deliver}
use Rattle.model.specs.declared.refusals.Refusal.{Refusal}

-- the kind that the code's kind means
abbrev pub kind_meaning : Kind → model.Kind
kind_meaning Submit = model.submit
kind_meaning Label = model.label
kind_meaning SendEntry = model.send_entry
kind_meaning SendSummary = model.send_summary
kind_meaning Form = model.form
kind_meaning Enter = model.enter
kind_meaning Place = model.place
kind_meaning Receive = model.receive
kind_meaning Notice = model.notice
kind_meaning Confirm = model.confirm
kind_meaning Deliver = model.deliver

-- 01, "The eleven actions", 1 to 11 in turn
abbrev pub kind_number : Kind → ℕ
kind_number Submit = 1
kind_number Label = 2
kind_number SendEntry = 3
kind_number SendSummary = 4
kind_number Form = 5
kind_number Enter = 6
kind_number Place = 7
kind_number Receive = 8
kind_number Notice = 9
kind_number Confirm = 10
kind_number Deliver = 11

-- what a number k names: its kind; 11 where "K is not 1 to 11"
abbrev pub Names : ℕ → Result Kind Refusal → Type 0
Names k r = MatchResult r (λ κ. (kind_of k ≡ kind (kind_meaning κ)) × (kind_number κ ≡ k)) (λ why. (kind_of k ≡ no_kind) × (why ≡ Refusal.Kind))
