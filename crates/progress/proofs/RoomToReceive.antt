-- Room to receive: kind 8 never meets 40 in a reached hall. An order names no entry twice, so it has at most 64 places, and so
-- has the order after the receipt.
-- Assumes nothing.
use Prim.Native.Nat.{ℕ, ◌≤◌}
use native.Mathlib.Omega.{arith}
use mathlib.Core.Path.{◌≡◌, refl, ap}
use mathlib.Core.Bool.{Bool, true, false, ◌&&◌}
use mathlib.Core.List.{List, [], ◌∷◌, ◌++◌}
use lib.Dec.{ltb}
use lib.ListN.{length, length-append}
use borrow.Author.Tests.{lt-leb, le-ltb}
use Rattle.base.proofs.UpdateLaws.{upd_same}
use Rattle.model.specs.Hall.{max_order, Message, Hall}
use Rattle.model.specs.Ordering.{completes, heard_summary, built_order, established}
use Rattle.model.specs.Refusals.{Rules, is_primary, summaries_of, order_full, built_too_long, no_room_to_receive}
use Rattle.model.specs.Agreed.{FairRules}
use Rattle.model.proofs.Accepting.Moves.{receives_primary, hears_last, CanReceive, queued, current, members_of, told, joined, built_at, after_receive}
use Rattle.model.proofs.Agreement.Invariants.{Inv}
use Rattle.model.proofs.Agreement.Reached.{inv-keep}
use Rattle.progress.proofs.Distinct.{distinct-length, tidy-distinct}
use Rattle.progress.proofs.Reached.{Reached}

-- an order has at most as many places as there are entries
pub order-short : (rules : Rules) (h : Hall) → Inv rules h → (p : ℕ) → length (h.recorders.order p) ≤ h.entries.count
order-short rules h inv p =
    distinct-length h.entries.count (h.recorders.order p) (tidy-distinct h.entries (λ e. false) (h.recorders.order p) (inv.known.tidy p))
    (λ e t. inv.labels.numbered e (inv.known.known_labelled p e (inv.known.ordered p e t)))

module _ (rules : Rules) (fair : FairRules rules) (h : Hall) (x : Reached rules h) where
  entry-fits : (r q e : ℕ) → CanReceive h r q (Message.entry e) → is_primary h (current h r) ≡ true → order_full h r ≡ false
  unfolding order_full
  entry-fits r q e c p =
      let h' = after_receive h r (joined h r e) in
      let long = order-short rules h' (inv-keep rules fair h h' (receives_primary r q e c p) x.inv) r in
      let order = h.recorders.order r in
      let same = ap length (upd_same h.recorders.order r (order ++ (e ∷ []))) in
      lt-leb max_order (length order) (omega (arith, long, same, length-append order (e ∷ []), x.sizes.entries))

  -- the order that r builds when it has heard every member
  abbrev order_built : ℕ → List ℕ
  order_built r =
      let g = current h r in
      built_order (rules.chosenrep g) h.entries (is_primary h g) (members_of h g) (summaries_of h g)

  built-fits : (r q : ℕ) → CanReceive h r q Message.summary → completes r (members_of h (current h r)) (told h r q) ≡ true
      → ltb max_order (length (order_built r)) ≡ false
  unfolding established heard_summary
  built-fits r q c t =
      let h' = after_receive h r (built_at rules h r (told h r q) (current h r)) in
      let long = order-short rules h' (inv-keep rules fair h h' (hears_last r q c t) x.inv) r in
      let same = ap length (upd_same h.recorders.order r (order_built r)) in
      le-ltb max_order (length (order_built r)) (omega (arith, long, same, x.sizes.entries))

  -- 8
  pub room-to-receive : (r q : ℕ) (m : Message) → CanReceive h r q m → no_room_to_receive rules h r (queued q m) ≡ false
  unfolding no_room_to_receive built_too_long summaries_of
  room-to-receive r q (Message.entry e) c = go (is_primary h (current h r)) refl
    where
      go : (t : Bool) → is_primary h (current h r) ≡ t → (t && order_full h r) ≡ false
      go true t = entry-fits r q e c t
      go false t = refl
  room-to-receive r q Message.summary c = go (completes r (members_of h (current h r)) (told h r q)) refl
    where
      go : (t : Bool) → completes r (members_of h (current h r)) (told h r q) ≡ t → (t && ltb max_order (length (order_built r))) ≡ false
      go true t = built-fits r q c t
      go false t = refl
