-- A refused listing leaves every lent slice. Assumes nothing.
use Rattle.std.specs.Prelude.{ℕ, List}
use Rattle.calls.specs.Kept.{Keeps}
use Rattle.replaying.specs.Listings.{list_on}
use Rattle.replaying.specs.Lent.{list_lent}

pub record ListKeeps : Type 0 where
  -- `list_run`: the hall's slice and the text's
  pub hall : (f h t : List ℕ) → Keeps (list_on f h t).number h (list_on f h t).hall
  pub text : (f h t : List ℕ) → Keeps (list_on f h t).number t (list_on f h t).text
  -- `hall_run_list`: these and the answer's
  pub lent_hall : (f h t out : List ℕ) → Keeps (list_lent f h t out).number h (list_lent f h t out).hall
  pub lent_text : (f h t out : List ℕ) → Keeps (list_lent f h t out).number t (list_lent f h t out).text
  pub lent_answer : (f h t out : List ℕ) → Keeps (list_lent f h t out).number out (list_lent f h t out).answer
