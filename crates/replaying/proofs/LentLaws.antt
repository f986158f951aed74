-- What a listing with its length in a lent slice returns and leaves, case by case. Assumes nothing.
use Prim.Native.Nat.{ℕ, ◌^◌, ◌≤◌, ◌<◌}
use native.Mathlib.Omega.{arith}
use mathlib.Core.Path.{◌≡◌, refl, sym, ap, ◌∙◌}
use mathlib.Core.List.{List, [], ◌∷◌}
use lib.Dec.{eqb}
use lib.ListN.{length}
use borrow.Author.Tests.{eqb-false}
use Rattle.std.proofs.Common.{◌≢◌}
use Rattle.model.specs.declared.refusals.Refusal.{Refusal}
use Rattle.model.specs.RefusalNumbers.{number}
use Rattle.model.proofs.RefusalNumbersLaws.{has-number}
use Rattle.base.specs.Chains.{◌⨾◌}
use Rattle.base.proofs.Bools.{by_cases}
use Rattle.calls.specs.Lent.{answer_length, with_answer, lent_call, Leaves}
use Rattle.calls.proofs.Refused.{lent-refused, lent-tried, lent-done}
use Rattle.runfile.specs.InRange.{Bytes}
use Rattle.std.specs.Prelude.{Ok, Err}
use Rattle.replaying.specs.Listings.{Outcome, list_on, Gives}
use Rattle.replaying.specs.Lent.{listed_words, list_lent, LeavesList}
use Rattle.replaying.proofs.Whole.{only-short, listed-most, always-most}

module _ (f hall text out : List ℕ) where
  abbrev o : Outcome
  o = list_on f hall text

  both : {n : ℕ} {b t y : List ℕ} → Leaves (lent_call (listed_words o) hall o.hall out) n b y
      → Leaves (lent_call (listed_words o) text o.text out) n t y → LeavesList (list_lent f hall text out) n b t y
  unfolding list_lent
  both k l = record { number = k.number; hall = k.bytes; text = l.bytes; answer = k.answer }

  -- there is no room for the answer: 18 is the only number
  pub list-no-room : length out < answer_length → LeavesList (list_lent f hall text out) 18 hall text out
  unfolding ◌⨾◌
  list-no-room l =
      let e : 18 ≡ o.number ⨾ 18 =
      by_cases (eqb o.number 0) (λ t. rw (t, ◌⨾◌) refl)
      (λ t. rw (t, ◌⨾◌) (sym (ap (λ (x : Outcome). x.number) (only-short f hall text (eqb-false o.number 0 t))))) in
      both (lent-tried (listed_words o) hall o.hall out 18 e l) (lent-tried (listed_words o) text o.text out 18 e l)

  -- refused
  pub list-refused : {why : Refusal} {b t : List ℕ} → Gives o (Err why) b t → LeavesList (list_lent f hall text out) (number why) b t out
  list-refused {why} g =
      let ne : number why ≢ 0 = has-number why in
      let same = only-short f hall text (λ z. ne (g.number ∙ z)) in
      let l =
      both (lent-refused (listed_words o) hall o.hall out (number why) g.number ne)
      (lent-refused (listed_words o) text o.text out (number why) g.number ne) in
      record {
        number = l.number;
        hall = g.hall ∙ ap (λ (z : Outcome). z.hall) same ∙ l.hall;
        text = g.text ∙ ap (λ (z : Outcome). z.text) same ∙ l.text;
        answer = l.answer;
      }

  module _ {n : ℕ} {b t : List ℕ} (g : Gives o (Ok n) b t) where
    -- taken
    pub list_done : answer_length ≤ length out → {y : List ℕ} → y ≡ with_answer out (n ∷ [])
        → LeavesList (list_lent f hall text out) 0 b t y
    list_done l w =
        let z : o.number ≡ 0 = sym g.number in
        let d = both (lent-done (listed_words o) hall o.hall out z l) (lent-done (listed_words o) text o.text out z l) in
        record {
          number = d.number;
          hall = g.hall ∙ d.hall;
          text = g.text ∙ d.text;
          answer = w ∙ ap (λ (n : ℕ). with_answer out (n ∷ [])) g.len ∙ d.answer;
        }

    -- the length is one word
    pub list_length : Bytes f → n < 2 ^ 32
    list_length bytes = omega (arith, g.len, listed-most f hall text, always-most f bytes)
