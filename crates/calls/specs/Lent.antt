-- A call that returns its number and writes its answer's values as words into a lent slice. Assumes nothing.
use Rattle.std.specs.Prelude.{ℕ, ◌-◌, ◌*◌, ◌≡◌, true, false, List, [], ◌∷◌, ◌++◌, eqb, ltb, length}
use Rattle.std.proofs.lemmas.List.Edits.{sets}
use Rattle.base.specs.Chains.{refuse, ◌⨾◌}
use Rattle.model.specs.Answers.{Plain, plain}
use Rattle.model.specs.Page.{plain_page}
use Rattle.model.specs.Call.{Words}
use Rattle.codec.specs.Bytes.{zeros}
use Rattle.codec.specs.Number.{digits}
use Rattle.calls.specs.Calls.{step_on, page_on, settle_on}

-- an answer slice has sixteen words of four bytes
abbrev pub answer_length : ℕ
answer_length = 64

-- words one after another, little-endian
unfoldable pub words_bytes : List ℕ → List ℕ
words_bytes [] = []
words_bytes (v ∷ vs) = digits 4 v ++ words_bytes vs

-- the values, then zeros
unfoldable pub answer_bytes : List ℕ → List ℕ
answer_bytes vs = words_bytes vs ++ zeros (answer_length - 4 * length vs)

-- the slice with an answer's values in its first 64 bytes, its rest as it was
unfoldable pub with_answer : List ℕ → List ℕ → List ℕ
with_answer out vs = sets out 0 (answer_bytes vs)

-- what a call leaves: the number that it returns, the bytes lent to it, a hall's or a run file's, and the answer's slice
pub record Lent : Type 0 where
  pub number : ℕ
  pub bytes : List ℕ
  pub answer : List ℕ

-- the plain answer of a call that is taken
abbrev pub taken : List ℕ → Plain
taken vs = record { number = 0; values = vs }

-- "18: the slice to .. write into is too short", last
unfoldable pub lent_number : ℕ → List ℕ → ℕ
lent_number why out = why ⨾ refuse (ltb (length out) answer_length) 18

-- a call with the plain answer x that leaves the lent bytes as `next`: "all lent bytes keep their contents" if refused
unfoldable pub lent_call : Plain → List ℕ → List ℕ → List ℕ → Lent
lent_call x bytes next out =
    let why = lent_number x.number out in
    elim (eqb why 0) [
      | true ↦ record { number = 0; bytes = next; answer = with_answer out x.values }
      | false ↦ record { number = why; bytes = bytes; answer = out }
    ]

-- a step
unfoldable pub step_lent : List ℕ → Words → List ℕ → Lent
step_lent hall w out = let o = step_on hall w in lent_call (plain o.answer) hall o.bytes out

-- a page
unfoldable pub page_lent : List ℕ → ℕ → ℕ → List ℕ → Lent
page_lent hall r k out = lent_call (plain_page (page_on hall r k)) hall hall out

-- a settle: 31, 42, 40, and 18 last
unfoldable pub settle_lent : List ℕ → List ℕ → Lent
settle_lent hall out = let o = settle_on hall in lent_call o.answer hall o.bytes out

-- What a call returns and leaves, number n and slices b and x, is what the definition says.
pub record Leaves (l : Lent) (n : ℕ) (b x : List ℕ) : Type 0 where
  pub number : n ≡ l.number
  pub bytes : b ≡ l.bytes
  pub answer : x ≡ l.answer
