-- How much work and how many reports a hall in range can have left, and how much work it has when the first group is passed over.
-- Assumes nothing.
use Prim.Native.Nat.{ℕ, ◌+◌, ◌*◌, ◌≤◌}
use native.Mathlib.Omega.{arith}
use mathlib.Core.Path.{◌≡◌, refl, sym, ap, ◌∙◌, subst}
use mathlib.Core.Bool.{Bool, true, false, not, true≢false}
use mathlib.Core.List.{List, [], ◌∷◌}
use lib.Dec.{eqb}
use lib.ListN.{length}
use borrow.Author.Tests.{eq-eqb}
use Rattle.base.specs.Lists.{has, is_empty}
use Rattle.base.specs.Numbers.{up_to}
use Rattle.base.specs.Chains.{refuse, ◌⨾◌}
use Rattle.base.proofs.ListsLaws.{bit-small}
use Rattle.base.proofs.NumbersLaws.{up_to-range, rising-up_to}
use Rattle.base.proofs.ChainsLaws.{first_passes}
use Rattle.model.specs.Hall.{max_recorders, max_number, Hall}
use Rattle.model.specs.Service.{has_pending, is_created, is_member}
use Rattle.model.specs.Ordering.{is_labelled, numbers}
use Rattle.model.specs.Kinds.{place, uses}
use Rattle.model.specs.Refusals.{Rules, not_formed, not_member, none_pending, queue_full, state_refusal}
use Rattle.model.specs.Actions.{refusal}
use Rattle.model.specs.Settle.{settle_call, is_in_view}
use Rattle.model.proofs.Accepting.Performed.{number_of}
use Rattle.model.proofs.Settling.TurnLaws.{number_at, Passed}
use Rattle.store.proofs.KeepFacts.{Facts}
use Rattle.store.proofs.KeepRules.{facts-of}
use Rattle.progress.proofs.GreatestView.{rising-length, formed-low, greatest-number, member-formed, members-in, members-few}
use Rattle.progress.proofs.AllEntered.{number_is, view-word, all-entered}
use Rattle.progress.proofs.Sums.{sum, sum-most, sum-least}
use Rattle.progress.proofs.Measure.{bare, left, work, unreported, reports}
use Rattle.progress.proofs.SettleSteps.{Stands, work_of, first_kinds}
use Rattle.progress.proofs.Quiet.{Quiet}

module _ (g : ℕ) (ms : List ℕ) (h : Hall) (s : Stands g ms h) where
  facts : Facts h
  facts = facts-of h s.valid

  -- at most 8 members
  pub few : length ms ≤ max_recorders
  few = subst (λ (l : List ℕ). length l ≤ max_recorders) s.set (members-few h s.valid g)

  -- at most 64 entries without a label
  entries-most : sum (bare h.entries) (numbers h.entries) ≤ 64
  unfolding numbers
  entries-most =
      let n = h.entries.count in
      let short = rising-length 0 n (up_to n) (rising-up_to n) (omega arith) (λ x m. (up_to-range n x m).1) in
      omega (arith, short, facts.entries.in_range.at_most, sum-most (bare h.entries) 1 (up_to n) (λ e m. bit-small (not (is_labelled h.entries e))))

  -- 1 to enter, 65 to send, 72 to receive and 72 to take notice at each member; 64 entries to label, and twice 72 to place
  pub work-most : work_of g ms h ≤ length ms * 210 + 208
  unfolding work
  work-most =
      let v = h.service in
      let most = sum-most (left g v) 210 ms (λ r m.
      omega (arith, bit-small (not (eqb (v.current r) g)), (facts.next r g).between.0, (facts.next_safe r g).between.0)) in
      omega (arith, most, entries-most)

  -- 64 to confirm and 64 to deliver at each member
  pub reports-most : reports ms h.recorders ≤ length ms * 128
  unfolding reports
  reports-most =
      sum-most (unreported h.recorders) 128 ms (λ r m.
      omega (arith, (facts.recorders.confirm.holds r).0, (facts.recorders.report.holds r).0))

-- ## Nothing is pending

is-empty : {A : Type 0} (xs : List A) → is_empty xs ≡ true → length xs ≡ 0
unfolding is_empty
is-empty [] e = refl
is-empty (x ∷ xs) e = absurd (true≢false (sym e))

module _ (rules : Rules) (g : ℕ) (ms : List ℕ) (h : Hall) (s : Stands g ms h) where
  member : (r : ℕ) → has ms r ≡ true → has (h.service.members g) r ≡ true
  member r m = ap (λ (l : List ℕ). has l r) s.set ∙ m

  -- once kind 6 is passed over at each member, all are in the view
  pub entered : ((r : ℕ) → has ms r ≡ true → Passed rules h g (settle_call g 6 r)) → (r : ℕ) → has ms r ≡ true → h.service.current r ≡ g
  entered passed r m =
      subst
      (λ g. ((r : ℕ) → has (h.service.members g) r ≡ true → Passed rules h g (settle_call g 6 r)) → (r : ℕ) → has (h.service.members g) r ≡ true
      → h.service.current r ≡ g)
      s.view (all-entered rules h s.valid) (λ q n. passed q (ap (λ (l : List ℕ). has l q) (sym s.set) ∙ n)) r (member r m)

  -- a member that has a message pending: kind 7 is accepted, or meets 40
  place-number : (r : ℕ) → has ms r ≡ true → is_empty (h.service.pending r g) ≡ false → number_at rules h (settle_call g 7 r) ≡ refuse (queue_full h g) 40
  unfolding settle_call number_of uses refusal state_refusal not_formed not_member none_pending has_pending is_created is_member refuse ◌⨾◌
  place-number r m e =
      let n = member r m in
      let formed = member-formed h s.valid g r n in
      let inside = members-in h s.valid g r n in
      let most : g ≤ max_number = subst (λ g. g ≤ max_number) s.view (greatest-number h s.valid) in
      number_is rules h place r g 0
      ∙ first_passes _ _ (view-word h.size r inside.0 inside.1 place refl g (formed-low h s.valid g formed) most)
      ∙ rw (formed, n, e)

  -- so where the first group is passed over nothing is pending
  pub none-pending : Quiet rules g ms h → (r : ℕ) → has ms r ≡ true → length (h.service.pending r g) ≡ 0
  unfolding first_kinds is_in_view settle_call refuse has
  none-pending q r m = go (is_empty (h.service.pending r g)) refl
    where
      here : h.service.current r ≡ g
      here = entered (λ p n. q 6 p refl n) r m

      full? : (t : Bool) → queue_full h g ≡ t → number_at rules h (settle_call g 7 r) ≡ refuse (queue_full h g) 40 → ⊥
      full? true t e = (q 7 r refl m (eq-eqb _ _ here)).1 (e ∙ ap (λ b. refuse b 40) t)
      full? false t e = (q 7 r refl m (eq-eqb _ _ here)).0 (e ∙ ap (λ b. refuse b 40) t)

      go : (t : Bool) → is_empty (h.service.pending r g) ≡ t → length (h.service.pending r g) ≡ 0
      go true t = is-empty _ t
      go false t = absurd (full? (queue_full h g) refl (place-number r m t))

  -- and the places of the pending lists are left of the work
  pub work-least : Quiet rules g ms h → length ms * 65 ≤ work_of g ms h
  unfolding work
  work-least q = omega (arith, sum-least (left g h.service) 65 ms (λ r m. omega (arith, none-pending q r m)))
