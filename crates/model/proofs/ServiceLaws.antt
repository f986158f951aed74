-- Laws of the group service's actions.
-- Assumes nothing.
use Prim.Native.Nat.{ℕ}
use mathlib.Core.Path.{◌≡◌, ap}
use mathlib.Core.List.{List, [], ◌∷◌, ◌++◌}
use Rattle.base.specs.Lists.{nth, rest}
use Rattle.base.specs.Update.{upd, upd₂}
use Rattle.model.specs.Hall.{Message, Service}
use Rattle.model.specs.Service.{vs_order}

-- placing the head m of r's pending list of a
module _ (s : Service) (r a : ℕ) (m : Message) (others : List Message) (head : s.pending r a ≡ m ∷ others) where
  pub order-queue : (vs_order r a s).queue ≡ upd s.queue a (s.queue a ++ (record { source = r; message = m } ∷ []))
  unfolding vs_order nth
  order-queue =
      ap (λ l. upd s.queue a (s.queue a ++ (record { source = r; message = nth l 1 (Message.entry 0) } ∷ []))) head

  pub order-pending : (vs_order r a s).pending ≡ upd₂ s.pending r a others
  unfolding vs_order rest
  order-pending = ap (λ l. upd₂ s.pending r a (rest l)) head
