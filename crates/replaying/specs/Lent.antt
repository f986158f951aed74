-- A listing in C: what the call returns and leaves, with the listing's length as a word in a lent slice. Assumes nothing.
use Rattle.std.specs.Prelude.{ℕ, ◌≡◌, List, [], ◌∷◌}
use Rattle.model.specs.Answers.{Plain}
use Rattle.calls.specs.Lent.{lent_call}
use Rattle.replaying.specs.Listings.{Outcome, list_on}

-- the number that the call returns, and the slices that it leaves: the hall's, the text's and the answer's
pub record ListLent : Type 0 where
  pub number : ℕ
  pub hall : List ℕ
  pub text : List ℕ
  pub answer : List ℕ

-- the answer's one value: the length
abbrev pub listed_words : Outcome → Plain
listed_words o = record { number = o.number; values = o.len ∷ [] }

-- one call on each of the two slices: 18 alone, if any of the three is too short
unfoldable pub list_lent : List ℕ → List ℕ → List ℕ → List ℕ → ListLent
list_lent file hall text out =
    let o = list_on file hall text in
    let h = lent_call (listed_words o) hall o.hall out in
    let t = lent_call (listed_words o) text o.text out in
    record { number = h.number; hall = h.bytes; text = t.bytes; answer = h.answer }

-- What the call returns and leaves, number n and slices b, t and y, is what the definition says.
pub record LeavesList (l : ListLent) (n : ℕ) (b t y : List ℕ) : Type 0 where
  pub number : n ≡ l.number
  pub hall : b ≡ l.hall
  pub text : t ≡ l.text
  pub answer : y ≡ l.answer
