-- What a list of calls leaves (01, "What a run leaves"), read off the calls: what each was lent, returned and left.
-- Assumes nothing.
use Rattle.std.specs.Prelude.{ℕ, ◌*◌, ◌≡◌, Bool, true, false, ◌&&◌, List, [], ◌∷◌, ◌++◌, eqb, Result}
use Rattle.model.specs.Answers as model
use Rattle.model.specs.Answers.{from, accepted}
use Rattle.model.specs.Actions.{payload_of}
use Rattle.model.specs.Opening.{Opening}
use Rattle.model.specs.Call.{Words}
use Rattle.model.specs.Settle.{calls_taken}
use Rattle.model.specs.Run.{first_waiting, at_report, items_from, History}
use Rattle.codec.specs.Bytes.{part}
use Rattle.codec.specs.Number.{value}
use Rattle.store.specs.StoredForm.{hall_of}
use Rattle.model.specs.declared.refusals.Refusal.{Refusal}
use Rattle.answer.specs.declared.Answer.{Answer}
use Rattle.answer.specs.Meaning.{meaning}
use Rattle.calls.specs.Calls.{open_on, step_on, run_on, settling_on}
use Rattle.calls.specs.Steps.{Steps, Settles}
use Rattle.calls.specs.Lent.{step_lent, settle_lent, Leaves}

-- A call that was made: its words, the hall's bytes that it was lent, whether it was accepted, what it answered, and the
-- hall's bytes that it left.
pub record Made : Type 0 where
  pub words : Words
  pub before : List ℕ
  pub taken : Bool
  pub answer : model.Answer
  pub after : List ℕ

-- what each accepted call of kind k at recorder r gives, in turn
unfoldable pub gathered : {A : Type 0} → ℕ → ℕ → (Made → A) → List Made → List A
gathered k r f [] = []
gathered k r f (m ∷ ms) =
    let later = gathered k r f ms in
    elim (eqb m.words.k k && (eqb m.words.r r && m.taken)) [ true ↦ f m ∷ later | false ↦ later ]

-- The lists of each recorder, each entry read off the bytes before its call, and the hall in the last bytes.
abbrev pub history_of : List Made → List ℕ → History
history_of ms last =
    record {
      submitted = λ s. items_from s 1 (gathered 1 s (λ m. payload_of m.words.a) ms);
      labelled = λ s. gathered 2 s (λ m. first_waiting (hall_of m.before) s) ms;
      delivered = λ r. gathered 11 r (λ m. at_report (hall_of m.before) r) ms;
      deliver_answers = λ r. gathered 11 r (λ m. m.answer) ms;
      last = hall_of last;
    }

-- ## Opening

-- the number n and the bytes c are those of the opening's definition on the bytes b: the contract of `open` and `hall_open`
pub record Opens (b : List ℕ) (o : Opening) (n : ℕ) (c : List ℕ) : Type 0 where
  pub number : n ≡ (open_on b o).number
  pub bytes : c ≡ (open_on b o).bytes

-- ## Steps by the definition

unfoldable pub made_on : List ℕ → List Words → List Made
made_on b [] = []
made_on b (w ∷ ws) =
    let o = step_on b w in
    record { words = w; before = b; taken = accepted o.answer; answer = o.answer; after = o.bytes } ∷ made_on o.bytes ws

abbrev pub history_on : List ℕ → List Words → History
history_on b ws = history_of (made_on b ws) (run_on b ws)

-- ## Calls of `step` and `settle`

-- the calls that a settle on the bytes b stands for, each as a step: "as which demand 3 counts it" (02, A5)
unfoldable pub settle_made : List ℕ → List Made
settle_made b = made_on b (calls_taken (settling_on b))

-- a call of `step`: its words, the answer that it returned, the bytes that it left
pub record StepCall : Type 0 where
  pub words : Words
  pub answer : Result Answer Refusal
  pub bytes : List ℕ

-- a call of `settle`: the answer that it returned, the bytes that it left
pub record SettleCall : Type 0 where
  pub answer : Result ℕ Refusal
  pub bytes : List ℕ

pub data HallCall : Type 0 where
  steps : StepCall → HallCall
  settles : SettleCall → HallCall

-- each call meets the contract of `step` or `settle` on the bytes that the one before left
abbrev pub StepsMet : List ℕ → List HallCall → Type 0
StepsMet b [] = Unit {0}
StepsMet b (steps c ∷ cs) =
    Steps b c.words.k c.words.r c.words.a c.words.b c.answer c.bytes × StepsMet c.bytes cs
StepsMet b (settles c ∷ cs) = Settles b c.answer c.bytes × StepsMet c.bytes cs

-- the words of the steps
unfoldable pub step_words : List HallCall → List Words
step_words [] = []
step_words (steps c ∷ cs) = c.words ∷ step_words cs
step_words (settles c ∷ cs) = step_words cs

-- the bytes after the last call
unfoldable pub steps_left : List ℕ → List HallCall → List ℕ
steps_left b [] = b
steps_left b (steps c ∷ cs) = steps_left c.bytes cs
steps_left b (settles c ∷ cs) = steps_left c.bytes cs

unfoldable pub steps_made : List ℕ → List HallCall → List Made
steps_made b [] = []
steps_made b (steps c ∷ cs) =
    record { words = c.words; before = b; taken = accepted (meaning c.answer); answer = meaning c.answer; after = c.bytes }
    ∷ steps_made c.bytes cs
steps_made b (settles c ∷ cs) = settle_made b ++ steps_made c.bytes cs

-- ## Calls of `hall_step` and `hall_settle`, the C interface

-- a call of `hall_step`: its words, the slice lent for its answer, the number that it returned, and the two slices that it left
pub record LentStep : Type 0 where
  pub words : Words
  pub out : List ℕ
  pub number : ℕ
  pub hall : List ℕ
  pub answer : List ℕ

-- a call of `hall_settle`
pub record LentSettle : Type 0 where
  pub out : List ℕ
  pub number : ℕ
  pub hall : List ℕ
  pub answer : List ℕ

pub data LentCall : Type 0 where
  steps : LentStep → LentCall
  settles : LentSettle → LentCall

-- each call meets the contract of `hall_step` or `hall_settle` on the bytes that the one before left
abbrev pub LentMet : List ℕ → List LentCall → Type 0
LentMet b [] = Unit {0}
LentMet b (LentCall.steps c ∷ cs) =
    Leaves (step_lent b c.words c.out) c.number c.hall c.answer × LentMet c.hall cs
LentMet b (LentCall.settles c ∷ cs) = Leaves (settle_lent b c.out) c.number c.hall c.answer × LentMet c.hall cs

-- the words of the steps
unfoldable pub lent_words : List LentCall → List Words
lent_words [] = []
lent_words (LentCall.steps c ∷ cs) = c.words ∷ lent_words cs
lent_words (LentCall.settles c ∷ cs) = lent_words cs

-- the hall's bytes after the last call
unfoldable pub lent_left : List ℕ → List LentCall → List ℕ
lent_left b [] = b
lent_left b (LentCall.steps c ∷ cs) = lent_left c.hall cs
lent_left b (LentCall.settles c ∷ cs) = lent_left c.hall cs

-- word i of an answer slice
unfoldable pub word_in : ℕ → List ℕ → ℕ
word_in i x = value (part (4 * i) 4 x)

-- the deliver answer of an answer slice: its sender is word 1, its value word 2
unfoldable pub deliver_in : List ℕ → model.Answer
deliver_in x = from (word_in 1 x) (record { value = word_in 2 x })

-- A call is accepted if it returned 0; a settle that did stands for its run, another for no call.
unfoldable pub lent_made : List ℕ → List LentCall → List Made
lent_made b [] = []
lent_made b (LentCall.steps c ∷ cs) =
    record {
      words = c.words;
      before = b;
      taken = eqb c.number 0;
      answer = deliver_in c.answer;
      after = c.hall;
    }
    ∷ lent_made c.hall cs
lent_made b (LentCall.settles c ∷ cs) = elim (eqb c.number 0) [ true ↦ settle_made b | false ↦ [] ] ++ lent_made c.hall cs
