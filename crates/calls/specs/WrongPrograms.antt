-- The halls that break the promise (01, "Agreement") as sorts of programs, and where the programs of each sort differ from
-- the definitions. One list; its proof is in proofs/WrongPrograms.
-- Assumes nothing.
use Rattle.std.specs.Prelude.{ℕ, ◌≤◌, ◌<◌, ◌≡◌, ◌⊎◌, true, false, List, [], ◌∷◌, length}
use Rattle.base.specs.Lists.{Each}
use Rattle.model.specs.Answers.{refused, accepted}
use Rattle.model.specs.Refusals.{none_to_receive}
use Rattle.model.specs.Opening.{Opening, built_in_opening}
use Rattle.model.specs.Page.{Page, PageAnswer, shown}
use Rattle.model.specs.Call.{Words, words_of, WordsIn}
use Rattle.store.specs.Layout.{stored_length}
use Rattle.store.specs.StoredForm.{hall_of, is_stored}
use Rattle.calls.specs.Calls.{Outcome, step_on, open_on, page_on, run_on}

-- anything that answers steps on lent bytes, and shows pages of them by recorder and place
pub record Program : Type 0 where
  pub step : List ℕ → Words → Outcome
  pub page : List ℕ → ℕ → ℕ → PageAnswer

-- what a program may be asked: a step on a slice, a page of a slice
pub data Asked : Type 0 where
  step_at : List ℕ → Words → Asked
  page_at : List ℕ → ℕ → ℕ → Asked

-- it answers, and leaves, what the definition gives
abbrev pub Agrees : Program → Asked → Type 0
Agrees p (step_at c w) = p.step c w ≡ step_on c w
Agrees p (page_at c r k) = p.page c r k ≡ page_on c r k

-- a sort of programs, and what shows a program of the sort wrong, for each slice b that is long enough for a hall
pub record Sort : Type 1 where
  pub has : Program → Type 0
  pub asks : (p : Program) → has p → (b : List ℕ) → List Asked

-- no program of the sort agrees with the definitions on all that it is asked
abbrev pub Differs : Sort → Type 0
Differs s = (p : Program) (x : s.has p) (b : List ℕ) → stored_length ≤ length b → Each (Agrees p) (s.asks p x b) → ⊥

-- some program is of the sort
pub record Inhabited (s : Sort) : Type 0 where
  pub program : Program
  pub is_one : s.has program

abbrev pub EachSort : (Sort → Type 0) → List Sort → Type 0
EachSort P [] = Unit {0}
EachSort P (s ∷ ss) = P s × EachSort P ss

-- a hall of two recorders, both founders
abbrev pub two_founders : Opening
two_founders = built_in_opening 2 3

-- the bytes of a slice in which it was opened, and then these calls were made
abbrev pub opened_in : List ℕ → List Words → List ℕ
opened_in b ws = run_on (open_on b two_founders).bytes ws

-- ## The sorts, in the words of 01, and after the colon what the definition does

-- "one that turns down all": a submit is accepted
abbrev pub turns_down_all : Sort
turns_down_all =
    record {
      has = λ p. (c : List ℕ) (w : Words) → accepted (p.step c w).answer ≡ false;
      asks = λ p x b. step_at (opened_in b []) (words_of 1 1 5 0) ∷ [];
    }

-- "one that says ok to all": nothing waits for a label
abbrev pub ok_to_all : Sort
ok_to_all =
    record {
      has = λ p. (c : List ℕ) (w : Words) → accepted (p.step c w).answer ≡ true;
      asks = λ p x b. step_at (opened_in b []) (words_of 2 1 0 0) ∷ [];
    }

-- "one whose bytes never move": a submit is stored
abbrev pub never_moves : Sort
never_moves =
    record {
      has = λ p. (c : List ℕ) (w : Words) → (p.step c w).bytes ≡ c;
      asks = λ p x b. step_at (opened_in b []) (words_of 1 1 5 0) ∷ [];
    }

-- "one that works in view 1 and afterwards only says ok": view 2 is formed, and nothing waits for a label
abbrev pub ok_afterwards : Sort
ok_afterwards =
    record {
      has = λ p. (c : List ℕ) (w : Words) → is_stored c ≡ true → 2 ≤ length (hall_of c).service.created
          → accepted (p.step c w).answer ≡ true;
      asks = λ p x b. step_at (opened_in b (words_of 5 0 2 1 ∷ [])) (words_of 2 1 0 0) ∷ [];
    }

-- the bytes after calls of p, each lent the bytes that the one before left
unfoldable pub run_of : Program → List ℕ → List Words → List ℕ
run_of p c [] = c
run_of p c (w ∷ ws) = run_of p (p.step c w).bytes ws

-- along these calls p accepts nothing but submits
abbrev pub OnlySubmits : Program → List ℕ → List Words → Type 0
OnlySubmits p c [] = Unit {0}
OnlySubmits p c (w ∷ ws) = (accepted (p.step c w).answer ≡ true → w.k ≡ 1) × OnlySubmits p (p.step c w).bytes ws

-- an opened hall, calls of p on it of which it accepted nothing but submits, and its page then, with a mark above 1
pub record MarkAbove (p : Program) : Type 0 where
  pub slice : List ℕ
  pub opening : Opening
  pub taken : (open_on slice opening).number ≡ 0
  pub calls : List Words
  pub words : WordsIn calls
  pub submits : OnlySubmits p (open_on slice opening).bytes calls
  pub recorder : ℕ
  pub place : ℕ
  pub seen : Page
  pub shows : p.page (run_of p (open_on slice opening).bytes calls) recorder place ≡ shown seen
  pub above : (1 < seen.confirm) ⊎ (1 < seen.report)

-- the calls of a run, each on the bytes that the definition gives, and a page at its end
unfoldable pub along_run : List ℕ → List Words → ℕ → ℕ → List Asked
along_run c [] r k = page_at c r k ∷ []
along_run c (w ∷ ws) r k = step_at c w ∷ along_run (step_on c w).bytes ws r k

-- "one with invented marks": one of these calls, or the page
abbrev pub invents_marks : Sort
invents_marks =
    record {
      has = MarkAbove;
      asks = λ p x b. along_run (open_on x.slice x.opening).bytes x.calls x.recorder x.place;
    }

-- submit 5 at recorder 1, label, send, place
abbrev pub sent_one : List Words
sent_one = words_of 1 1 5 0 ∷ words_of 2 1 0 0 ∷ words_of 3 1 0 0 ∷ words_of 7 1 1 0 ∷ []

-- "one that says 38 to a first receive with a message at its mark", to every one: recorder 1's own entry is there
abbrev pub refuses_first : Sort
refuses_first =
    record {
      has = λ p. (c : List ℕ) (r : ℕ) → is_stored c ≡ true → none_to_receive (hall_of c) r ≡ false
          → (hall_of c).service.next r ((hall_of c).service.current r) ≡ 1 → (p.step c (words_of 8 r 0 0)).answer ≡ refused 38;
      asks = λ p x b. step_at (opened_in b sent_one) (words_of 8 1 0 0) ∷ [];
    }

-- a slice that holds a hall with a message at the recorder's receive mark, and to the receive p says 38
pub record ReceiveRefused (p : Program) : Type 0 where
  pub slice : List ℕ
  pub recorder : ℕ
  pub stored : is_stored slice ≡ true
  pub there : none_to_receive (hall_of slice) recorder ≡ false
  pub says : (p.step slice (words_of 8 recorder 0 0)).answer ≡ refused 38

-- the same said once, at any mark: that receive
abbrev pub refuses_once : Sort
refuses_once =
    record {
      has = ReceiveRefused;
      asks = λ p x b. step_at x.slice (words_of 8 x.recorder 0 0) ∷ [];
    }

abbrev pub wrong_sorts : List Sort
wrong_sorts =
    turns_down_all ∷ ok_to_all ∷ never_moves ∷ ok_afterwards ∷ invents_marks ∷ refuses_first ∷ refuses_once ∷ []
