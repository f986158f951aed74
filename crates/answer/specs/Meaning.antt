-- What an answer of the code means, by cases. "For an answer that is an enum, a definition gives this paper's number and
-- values for each of its cases." Assumes nothing.
use Rattle.std.specs.Prelude.{◌≡◌, ℕ, [], ◌∷◌, Result, Ok, Err}
use Rattle.model.specs.Payloads.{payload_meaning}
use Rattle.model.specs.Answers as model
use Rattle.model.specs.Answers.{plain}
use Rattle.model.specs.Page as model_page
use Rattle.model.specs.Page.{plain_page}
use Rattle.model.specs.declared.refusals.Refusal.{Refusal}
use Rattle.model.specs.RefusalNumbers.{number}
use Rattle.answer.specs.declared.Content.{Content}
use Rattle.answer.specs.declared.Answer.{Answer}
use Rattle.answer.specs.declared.Page.{Page}
use Rattle.answer.specs.declared.Numbers.{Numbers}

unfoldable pub content_meaning : Content → model.Content
content_meaning (Content.Entry e) = model.entry e.view e.seq e.sender (payload_meaning e.payload)
content_meaning (Content.Summary s) = model.summary s.known s.order s.confirm s.high

-- an answer of a call that is taken
abbrev pub taken : Answer → model.Answer
taken Answer.Done = model.done
taken (Answer.Message m) = model.message m.source (content_meaning m.content)
taken (Answer.From s) = model.from s.sender (payload_meaning s.payload)

-- an answer of a call, which anything that has a number may refuse
abbrev pub meaning_by : {E : Type 0} → (E → ℕ) → Result Answer E → model.Answer
meaning_by as_number (Ok a) = taken a
meaning_by as_number (Err why) = model.refused (as_number why)

-- the same of the code's refusals
abbrev pub meaning : Result Answer Refusal → model.Answer
meaning a = meaning_by number a

-- the plain numbers are those of the meaning
pub record SaysAnswer {E : Type 0} (as_number : E → ℕ) (a : Result Answer E) (p : Numbers 6) : Type 0 where
  pub number : p.number ≡ (plain (meaning_by as_number a)).number
  pub values : p.values ≡ (plain (meaning_by as_number a)).values

unfoldable pub page_of : Page → model_page.Page
page_of x =
    record {
      view = x.view;
      set = x.set;
      phase = x.phase;
      margin = x.margin;
      high = x.high;
      order_length = x.order_length;
      buffer_length = x.buffer_length;
      confirm = x.confirm;
      report = x.report;
      label_view = x.label_view;
      label_seq = x.label_seq;
      label_sender = x.label_sender;
      value = x.value;
    }

-- a page's answer, likewise
abbrev pub page_meaning_by : {E : Type 0} → (E → ℕ) → Result Page E → model_page.PageAnswer
page_meaning_by as_number (Ok x) = model_page.shown (page_of x)
page_meaning_by as_number (Err why) = model_page.refused (as_number why)

-- of the code's refusals
abbrev pub page_meaning : Result Page Refusal → model_page.PageAnswer
page_meaning a = page_meaning_by number a

pub record SaysPage {E : Type 0} (as_number : E → ℕ) (a : Result Page E) (p : Numbers 13) : Type 0 where
  pub number : p.number ≡ (plain_page (page_meaning_by as_number a)).number
  pub values : p.values ≡ (plain_page (page_meaning_by as_number a)).values

-- a settle's answer, likewise
abbrev pub settled_meaning_by : {E : Type 0} → (E → ℕ) → Result ℕ E → model.Plain
settled_meaning_by as_number (Ok n) = record { number = 0; values = n ∷ [] }
settled_meaning_by as_number (Err why) = record { number = as_number why; values = 0 ∷ [] }

-- of the code's refusals
abbrev pub settled_meaning : Result ℕ Refusal → model.Plain
settled_meaning a = settled_meaning_by number a

pub record SaysSettled {E : Type 0} (as_number : E → ℕ) (a : Result ℕ E) (p : Numbers 1) : Type 0 where
  pub number : p.number ≡ (settled_meaning_by as_number a).number
  pub values : p.values ≡ (settled_meaning_by as_number a).values
