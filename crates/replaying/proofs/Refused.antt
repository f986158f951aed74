-- A refused listing leaves every lent slice. Assumes nothing.
use Prim.Native.Nat.{ℕ}
use mathlib.Core.Path.{◌≡◌, refl, ap}
use mathlib.Core.Bool.{Bool, true, false}
use mathlib.Core.List.{List}
use lib.Dec.{eqb}
use Rattle.model.specs.Answers.{Plain}
use Rattle.calls.specs.Lent.{with_answer, Lent, lent_number, lent_call}
use Rattle.replaying.specs.Listings.{Outcome, list_on}
use Rattle.replaying.specs.Lent.{listed_words, list_lent}
use Rattle.replaying.specs.Kept.{ListKeeps}
use Rattle.replaying.proofs.Whole.{only-short}

-- one call on the slice b and on the slice c: refused it leaves c, and the answer's
lent-keeps : (x : Plain) (b after c next out : List ℕ) → ((lent_call x b after out).number ≡ 0 → ⊥)
    → ((lent_call x c next out).bytes ≡ c) × ((lent_call x b after out).answer ≡ out)
unfolding lent_call
lent-keeps x b after c next out = go (eqb (lent_number x.number out) 0)
  where
    left : List ℕ → List ℕ → Bool → Lent
    left d e t = elim t [ true ↦ record { number = 0; bytes = e; answer = with_answer out x.values } | false ↦ record { number = lent_number x.number out; bytes = d; answer = out } ]

    go : (t : Bool) → ((left b after t).number ≡ 0 → ⊥) → ((left c next t).bytes ≡ c) × ((left b after t).answer ≡ out)
    go true ne = absurd (ne refl)
    go false ne = (refl, refl)

pub list-keeps : ListKeeps
unfolding list_lent
list-keeps =
    record {
      hall = λ f h t ne. ap (λ (o : Outcome). o.hall) (only-short f h t ne);
      text = λ f h t ne. ap (λ (o : Outcome). o.text) (only-short f h t ne);
      lent_hall = λ f h t out ne. (lent-keeps (listed_words (list_on f h t)) h (list_on f h t).hall h (list_on f h t).hall out ne).0;
      lent_text = λ f h t out ne. (lent-keeps (listed_words (list_on f h t)) h (list_on f h t).hall t (list_on f h t).text out ne).0;
      lent_answer = λ f h t out ne. (lent-keeps (listed_words (list_on f h t)) h (list_on f h t).hall h (list_on f h t).hall out ne).1;
    }
