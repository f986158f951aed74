-- The P card "kind 12 on broken bytes: 11" on bytes, and kind 1 there: 31. One list; its proof is in proofs/ByteCards.
-- Assumes nothing.
use Rattle.std.specs.Prelude.{ℕ, ◌-◌, ◌≡◌, List, [], ◌∷◌, take}
use Rattle.codec.specs.Bytes.{zeros}
use Rattle.model.specs.Answers.{refused}
use Rattle.model.specs.Opening.{built_in_opening, opened}
use Rattle.model.specs.Call.{words_of}
use Rattle.store.specs.Layout.{stored_length}
use Rattle.store.specs.StoredForm.{stored}
use Rattle.calls.specs.Calls.{Outcome, step_on}

-- what a call on bytes gives, and what 01 says
pub record ByteCard : Type 0 where
  pub given : Outcome
  pub wanted : Outcome

abbrev pub CardHolds : ByteCard → Type 0
CardHolds x = x.given ≡ x.wanted

-- "kind 12 ..: 11", the bytes as they were
abbrev pub kind_twelve : List ℕ → ByteCard
kind_twelve b = record { given = step_on b (words_of 12 0 0 0); wanted = record { answer = refused 11; bytes = b } }

-- 31 before 12, the bytes as they were
abbrev pub kind_one : List ℕ → ByteCard
kind_one b = record { given = step_on b (words_of 1 0 0 0); wanted = record { answer = refused 31; bytes = b } }

-- a hall's form without its last byte
abbrev pub cut_short : List ℕ
cut_short = take (stored_length - 1) (stored (opened (built_in_opening 2 0)))

-- no bytes, too few bytes, zero bytes alone (N is 0)
unfoldable pub broken_cards : List ByteCard
broken_cards =
    kind_twelve []
    ∷ kind_one []
    ∷ kind_twelve cut_short
    ∷ kind_one cut_short
    ∷ kind_twelve (zeros stored_length)
    ∷ kind_one (zeros stored_length)
    ∷ []
