-- The numbers of the code's refusals. "A refusal gives its number."
-- Assumes nothing.
use Rattle.std.specs.Prelude.{ℕ, Result, Ok, Err}
use Rattle.model.specs.declared.refusals.Refusal.{Refusal}
use Rattle.model.specs.declared.refusals.Refusal.TheVariants.{Kind, Recorder, Unused, ViewNumber, Set, Opening, Short, File, Bytes, TooMany, NotRising, NotFormed, NoMember, NotAbove, Phase, Nothing, NotYet, Full, Votes, NotPrimary, Undo}

-- 01, "Refused because of the input", "Refused because of the state"; 02 has 41 to 43
abbrev pub number : Refusal → ℕ
number Kind = 11
number Recorder = 12
number Unused = 13
number ViewNumber = 14
number Set = 15
number Opening = 16
number Short = 18
number File = 19
number Bytes = 31
number TooMany = 32
number NotRising = 33
number NotFormed = 34
number NoMember = 35
number NotAbove = 36
number Phase = 37
number Nothing = 38
number NotYet = 39
number Full = 40
number Votes = 41
number NotPrimary = 42
number Undo = 43

-- the number of a call's refusal, 0 for none
abbrev pub refused_by : {T : Type 0} → Result T Refusal → ℕ
refused_by (Ok x) = 0
refused_by (Err why) = number why
