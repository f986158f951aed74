-- Demand 3, stated. Its proof is in proofs/Agreement.
-- Assumes nothing.
use Rattle.std.specs.Prelude.{ℕ, ◌-◌, ◌≤◌, ◌≡◌, ◌⊎◌, true, List, ◌∷◌, map, length}
use Rattle.base.specs.Lists.{has, Begins}
use Rattle.model.specs.Hall.{Summary}
use Rattle.model.specs.Ordering.{Choice}
use Rattle.model.specs.Answers.{from}
use Rattle.model.specs.Refusals.{Rules}
use Rattle.model.specs.Run.{Item, of_items, order_of, confirmed_of, History}

-- What is asked of the choice of a representative: it is one of the sources, with the greatest highest primary. The rest is
-- left open: "a fact that holds for whichever of these sources is taken" (02, A3).
pub record Fair (chosenrep : Choice) : Type 0 where
  pub is_source : (q : ℕ) (qs : List ℕ) (y : ℕ → Summary) → has (q ∷ qs) (chosenrep (q ∷ qs) y) ≡ true
  pub is_highest : (q : ℕ) (qs : List ℕ) (y : ℕ → Summary) (x : ℕ) → has (q ∷ qs) x ≡ true
      → (y x).high ≤ (y (chosenrep (q ∷ qs) y)).high

-- "the same one by every member of a view": the view's number, its sources and their summaries decide, and nothing of the
-- member that applies the choice. In another view the choice may be another.
abbrev pub FairRules : Rules → Type 0
FairRules rules = (g : ℕ) → Fair (rules.chosenrep g)

-- Demand 3 of what a run leaves.
pub record Agreed (left : History) : Type 0 where
  -- of any two recorders' delivered lists one begins the other
  pub one_log : (p q : ℕ)
      → Begins (left.delivered p) (left.delivered q) ⊎ Begins (left.delivered q) (left.delivered p)
  -- in each delivered list the entries of each sender are the first ones it submitted, in its order
  pub first_ones : (r s : ℕ) → Begins (of_items s (left.delivered r)) (left.submitted s)
  -- the k-th accepted label at s labels the k-th entry submitted there
  pub labelled_in_turn : (s : ℕ) → Begins (left.labelled s) (left.submitted s)
  -- each accepted deliver answered the sender and payload of the entry that joined the delivered list
  pub answered : (r : ℕ) → left.deliver_answers r ≡ map (λ (i : Item). from i.sender i.payload) (left.delivered r)
  -- the confirmed list of the recorder with the lower or equal highest primary begins the other's order
  pub confirmed_begin : (p q : ℕ) → left.last.recorders.high p ≤ left.last.recorders.high q
      → Begins (confirmed_of left.last p) (order_of left.last q)
  -- the confirmed list is the labels of the first places, one fewer than the confirm mark: the order has that many
  pub confirmed_places : (p : ℕ) → length (confirmed_of left.last p) ≡ left.last.recorders.confirm p - 1
