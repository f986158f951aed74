-- With the longest order as the representative's no entry in a recorder's order shifts, but where another member knows of a
-- higher primary: of the orders with one highest primary the shorter begins the longer.
-- Assumes nothing.
use Prim.Native.Nat.{ℕ, ◌-◌, ◌≤◌, ◌<◌}
use native.Mathlib.Omega.{arith}
use mathlib.Core.Path.{◌≡◌, sym, ap, ◌∙◌, subst}
use mathlib.Core.Logic.{◌⊎◌, inl, inr}
use mathlib.Core.Bool.{true, false}
use mathlib.Core.List.{List, [], ◌∷◌}
use lib.Dec.{eqb, leb}
use lib.ListN.{length}
use borrow.Author.Tests.{eqb-true, eqb-false, leb-true, leb-false}
use Rattle.base.specs.Lists.{has, greatest, Begins}
use Rattle.base.proofs.ListsLaws.{has-none, in-filter}
use Rattle.base.proofs.Greatest.{greatest-above, tops-in}
use Rattle.base.proofs.Bools.{by_cases, not-both}
use Rattle.base.proofs.Begins.{begins-refl, begins-trans, begins-append, begins-both, begins-nil, begins-more, begins-whole}
use Rattle.model.specs.Hall.{Message, Summary, Hall}
use Rattle.model.specs.Ordering.{completes, maxprimary, reps, longest_order, chosen}
use Rattle.model.specs.Answers.{accepted}
use Rattle.model.specs.Refusals.{Rules, rules_of, summaries_of}
use Rattle.model.specs.Opening.{Opening, open_refusal, opened}
use Rattle.model.specs.Call.{Words, hl3, step}
use Rattle.model.specs.Run.{run}
use Rattle.model.specs.Unshifted.{Overtaken, Unshifted}
use Rattle.model.proofs.Ordering.Representatives.{longest-rep, longest-most, longest-fair}
use Rattle.model.proofs.Accepting.Moves.{Move, CanReceive, told}
use Rattle.model.proofs.Accepting.Orders.{taken_order, order-by}
use Rattle.model.proofs.Accepting.Accepted.{accepted-moves, refused-same}
use Rattle.model.proofs.Agreement.State.{received, full, built}
use Rattle.model.proofs.Agreement.Invariants.{Origin, Inv}
use Rattle.model.proofs.Agreement.Traffic.{entries_in-begins}
use Rattle.model.proofs.Agreement.KeepOrders.{last-collects}
use Rattle.model.proofs.Agreement.KeepInfos.{OriginOf, all-sent, order-begins}
use Rattle.model.proofs.Agreement.Reached.{inv-run, inv-opened}

-- ## Two orders with one highest primary

module _ (rules : Rules) (h : Hall) where
  -- what two members have of a view's order, by their receive marks
  built-more : (p q v : ℕ) → h.service.next p v ≤ h.service.next q v → Begins (built rules h p v) (built rules h q v)
  unfolding built received
  built-more p q v le =
      begins-both (full rules h v)
      (entries_in-begins (begins-more (h.service.next p v - 1) (h.service.next q v - 1) (h.service.queue v) (omega arith)))

  built-longer : (p q v : ℕ) → length (built rules h p v) ≤ length (built rules h q v) → Begins (built rules h p v) (built rules h q v)
  built-longer p q v le =
      by_cases (leb (h.service.next p v) (h.service.next q v))
      (λ t. built-more p q v (leb-true _ _ t))
      (λ f. begins-whole (built-more q p v (let lt = leb-false (h.service.next p v) (h.service.next q v) f in omega arith)) le)

  longer-begins : (a b : List ℕ) (v : ℕ) → OriginOf rules h a v → OriginOf rules h b v → length a ≤ length b → Begins a b
  longer-begins a b v (Origin.nowhere np e) from le = subst (λ l. Begins l b) (sym e) (begins-nil b)
  longer-begins a b v (Origin.left pr p m x lt e) (Origin.nowhere np f) le = absurd (not-both pr np)
  longer-begins a b v (Origin.left pr p m x lt e) (Origin.left pr' q m' x' lt' f) le =
      subst (λ l. Begins l b) (sym e)
      (subst (Begins (built rules h p v)) (sym f)
      (built-longer p q v (subst (λ l. l ≤ length (built rules h q v)) (ap length e) (subst (λ l. length a ≤ length l) f le))))

-- ## The last summary

module _ (h : Hall) (inv : Inv (rules_of longest_order) h) (r q : ℕ) (c : CanReceive h r q Message.summary)
    (t : completes r (h.service.members (h.service.current r)) (told h r q) ≡ true) where
  abbrev rules : Rules
  rules = rules_of longest_order

  abbrev g : ℕ
  g = h.service.current r

  abbrev ms : List ℕ
  ms = h.service.members g

  abbrev y : ℕ → Summary
  y = summaries_of h g

  abbrev z : ℕ
  z = longest_order ms y

  mine : has ms r ≡ true
  mine = inv.views.here r c.in_view

  sent : (p : ℕ) → has ms p ≡ true → h.summaries.sent p g ≡ true
  sent = all-sent rules h inv (λ g. longest-fair) r q c t

  -- the representative is a source with the greatest highest primary
  z-rep : (has ms z ≡ true) × ((y z).high ≡ maxprimary ms y)
  unfolding reps maxprimary
  z-rep = go ms mine
    where
      go : (qs : List ℕ) → has qs r ≡ true
          → (has qs (longest_order qs y) ≡ true) × ((y (longest_order qs y)).high ≡ greatest (λ q. (y q).high) qs)
      go [] m = absurd (has-none r m)
      go (q ∷ qs) m = tops-in (λ q. (y q).high) (q ∷ qs) (longest_order (q ∷ qs) y) (longest-rep q qs y).0

  -- r's own order is that of its summary
  own-order : (y r).order ≡ h.recorders.order r
  unfolding summaries_of
  own-order = inv.own.sum_order r (last-collects rules h inv r q t)

  own-high : (y r).high ≡ h.recorders.high r
  unfolding summaries_of
  own-high = inv.own.sum_high r (last-collects rules h inv r q t)

  -- as high as the representative: r's order begins the representative's
  last-same : eqb (y r).high (maxprimary ms y) ≡ true → Begins (y r).order (y z).order
  unfolding summaries_of reps
  last-same t =
      let rep = (in-filter (λ q. eqb (y q).high (maxprimary ms y)) ms r).1 (mine, t) in
      longer-begins rules h (y r).order (y z).order (y r).high (inv.infos.sum_origin r g (sent r mine))
      (subst (OriginOf rules h (y z).order) (z-rep.1 ∙ sym (eqb-true (y r).high (maxprimary ms y) t)) (inv.infos.sum_origin z g (sent z z-rep.0)))
      (longest-most ms y r rep)

  -- else the representative has overtaken it
  last-higher : eqb (y r).high (maxprimary ms y) ≡ false → (y r).high < (y z).high
  unfolding maxprimary
  last-higher f =
      let ne : (y r).high ≡ maxprimary ms y → ⊥ = eqb-false (y r).high (maxprimary ms y) f in
      let le = greatest-above (λ q. (y q).high) ms r mine in
      omega (arith, z-rep.1)

  last-unshifted : Begins (h.recorders.order r) (taken_order rules h r) ⊎ Overtaken h r
  unfolding summaries_of
  last-unshifted =
      by_cases (eqb (y r).high (maxprimary ms y))
      (λ t'. inl (subst (λ l. Begins l (taken_order rules h r)) own-order (begins-trans (last-same t') (order-begins rules h inv (λ g. longest-fair) r q c t))))
      (λ f.
      let lt = last-higher f in
      inr (record { source = z; member = z-rep.0; sent = sent z z-rep.0; higher = omega (arith, own-high) }))

-- ## Every call

still : (h : Hall) (p : ℕ) → Unshifted h h p
still h p = inl (begins-refl (h.recorders.order p))

move-unshifted : (h h' : Hall) → Move (rules_of longest_order) h h' → Inv (rules_of longest_order) h → (p : ℕ) → Unshifted h h' p
move-unshifted h h' mv inv =
    order-by (rules_of longest_order) h h' mv (λ p l. Begins (h.recorders.order p) l ⊎ Overtaken h p) (still h)
    (λ r e. inl (begins-append (h.recorders.order r) (e ∷ []))) (last-unshifted h inv)

-- from any opening that is taken, after any list of calls, one call more
pub unshifted : (o : Opening) → open_refusal o ≡ 0 → (ws : List Words) (w : Words) (p : ℕ)
    → Unshifted (run hl3 (opened o) ws) (step hl3 (run hl3 (opened o) ws) w).hall p
unfolding hl3 chosen
unshifted o none-refused ws w p =
    let rules = rules_of longest_order in
    let h = run rules (opened o) ws in
    let inv : Inv rules h = inv-run rules (λ g. longest-fair) (opened o) ws (inv-opened rules o) in
    by_cases (accepted (step rules h w).answer)
    (λ t. move-unshifted h (step rules h w).hall (accepted-moves rules h w (inv.marks.low, inv.marks.low_safe) t) inv p)
    (λ f. subst (λ h'. Unshifted h h' p) (sym (refused-same rules h w f)) (still h p))
