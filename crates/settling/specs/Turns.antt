-- What the code of a settle finds, turn by turn, and what it leaves: promises within this crate. Assumes nothing.
use Rattle.std.specs.Prelude.{ℕ, ◌≡◌, true, false, List, take, Result}
use Rattle.quorum.specs.Sets.{in_mask}
use Rattle.model.specs.Hall.{Hall}
use Rattle.model.specs.Answers.{plain}
use Rattle.model.specs.Call.{hl3, step}
use Rattle.model.specs.KindNumbers.{kind_number}
use Rattle.model.specs.Settle as model
use Rattle.model.specs.Settle.{greatest_view, settle_call, calls_taken, plain_settle, max_turns, settle_from}
use Rattle.model.specs.declared.refusals.Refusal.{Refusal}
use Rattle.store.specs.Layout.{stored_length}
use Rattle.store.specs.StoredForm.{hall_of, is_stored}
use Rattle.answer.specs.Meaning.{settled_meaning}
use Rattle.calls.specs.Calls.{run_on, settle_on}
use Rattle.hall.specs.declared.View.{View}
use Rattle.hall.specs.Parts.{ViewIs}
use Rattle.settling.specs.declared.Turn.{Turn}

-- what a turn in view g found
unfoldable pub found : ℕ → Turn → model.Turn
found g (Turn.Takes k r) = model.takes (settle_call g (kind_number k) r)
found g Turn.Full = model.full
found g Turn.Nothing = model.none

-- the number of the call of kind k at recorder r in view v, 35 for no member
unfoldable pub member_number : Hall → View → ℕ → ℕ → ℕ
member_number h v k r = elim (in_mask v.set r) [ true ↦ (plain (step hl3 h (settle_call v.number k r)).answer).number | false ↦ 35 ]

-- b holds a hall, and v is its view with the greatest number
pub record InView (b : List ℕ) (v : View) : Type 0 where
  pub holds : is_stored b ≡ true
  pub view : ViewIs (hall_of b) (greatest_view (hall_of b)) v

-- turns in v from the bytes b answered x; if they ended well, they left the bytes c of the run
pub record TurnsTaken (b : List ℕ) (v : View) (x : Result ℕ Refusal) (c : List ℕ) : Type 0 where
  pub answer : settled_meaning x ≡ plain_settle (settle_from hl3 max_turns v.number (hall_of b))
  pub bytes : (settled_meaning x).number ≡ 0 → c ≡ run_on b (calls_taken (settle_from hl3 max_turns v.number (hall_of b)))

-- a settle of the bytes b answered x on a copy c; if it is taken, the copy has the bytes that it leaves
pub record SettledCopy (b : List ℕ) (x : Result ℕ Refusal) (c : List ℕ) : Type 0 where
  pub answer : settled_meaning x ≡ (settle_on b).answer
  pub bytes : (settled_meaning x).number ≡ 0 → c ≡ take stored_length (settle_on b).bytes
