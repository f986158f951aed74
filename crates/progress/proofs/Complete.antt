-- After a settle the log is complete (02, A5): every entry submitted at a member of the greatest view has been delivered at all
-- members.
-- Assumes nothing.
use Prim.Native.Nat.{ℕ}
use native.Mathlib.Omega.{arith}
use mathlib.Core.Path.{◌≡◌, refl, sym, ap, ap₂, ◌∙◌, subst}
use mathlib.Core.Logic.{⊎_elim}
use mathlib.Core.Bool.{Bool, true, false, not, ◌||◌}
use mathlib.Core.List.{List, [], ◌∷◌, ◌++◌, map, append-nil}
use lib.Dec.{eqb}
use borrow.Author.Tests.{eq-eqb}
use Rattle.base.specs.Lists.{has, filter, rising, Begins}
use Rattle.base.specs.Numbers.{up_to}
use Rattle.base.proofs.ListsLaws.{has-none, has-head, has-cons, has_right, in-filter, rising-cons, rising-above, rising-filter}
use Rattle.base.proofs.NumbersLaws.{rising-up_to}
use Rattle.model.specs.Hall.{Hall}
use Rattle.model.specs.Ordering.{numbers}
use Rattle.model.specs.Refusals.{Rules, holds_quorum, is_primary}
use Rattle.model.specs.Opening.{Opening, open_refusal, opened}
use Rattle.model.specs.Call.{Words, WordsIn}
use Rattle.model.specs.Run.{run, item_of, of_items, history}
use Rattle.model.specs.Agreed.{FairRules}
use Rattle.model.specs.Settle.{greatest_view, cannot_settle, none, turn_of, settled, refused, max_turns, settle_from, settle, Complete}
use Rattle.model.proofs.Agreement.EntryLaws.{of_sender, of-sender-in}
use Rattle.model.proofs.Agreement.RunLists.{listed-opened, opened-none, submitted-are}
use Rattle.model.proofs.Agreement.Delivered.{reported_entries, delivered-are}
use Rattle.model.proofs.Agreement.Claims.{items_of, reported-sender}
use Rattle.model.proofs.Agreement.Invariants.{Inv}
use Rattle.model.proofs.Agreement.Reached.{inv-keep, inv-run, inv-opened}
use Rattle.model.proofs.Accepting.Accepted.{run-keeps}
use Rattle.model.proofs.Kept.{size-kept, votes-run}
use Rattle.model.proofs.Settling.SettleRun.{run-append}
use Rattle.store.specs.Valid.{ValidHall}
use Rattle.store.proofs.KeepValid.{run-valid, open-valid}
use Rattle.progress.proofs.Once.{once-run}
use Rattle.progress.proofs.SafeExactly.{safe-run}
use Rattle.progress.proofs.Ends.{not-refused, settle-ends, settle-stands}
use Rattle.progress.proofs.End.{end-has}

-- ## Lists

-- what stands in a rising list stands there once
rising-apart : (a : ℕ) (xs : List ℕ) (y : ℕ) (ys : List ℕ) → rising a (xs ++ (y ∷ ys)) ≡ true → has xs y ≡ true → ⊥
rising-apart a [] y ys r t = has-none y t
rising-apart a (x ∷ xs) y ys r t =
    let both = (rising-cons a x (xs ++ (y ∷ ys))).0 r in
    ⊎_elim
    (λ e. omega (arith, rising-above x (xs ++ (y ∷ ys)) both.1 y (has_right xs (y ∷ ys) y (has-head y ys))))
    (rising-apart x xs y ys both.1)
    (has-cons x xs y t)

-- a beginning of a rising list that has all of it is the whole
begins-all : (a : ℕ) (xs ys : List ℕ) → rising a ys ≡ true → Begins xs ys → ((e : ℕ) → has ys e ≡ true → has xs e ≡ true) → xs ≡ ys
begins-all a xs ys r b f = go b.more b.joins
  where
    go : (more : List ℕ) → ys ≡ xs ++ more → xs ≡ ys
    go [] e = sym (e ∙ append-nil xs)
    go (y ∷ more) e =
        absurd
        (rising-apart a xs y more (ap (rising a) (sym e) ∙ r)
        (f y (ap (λ l. has l y) e ∙ has_right xs (y ∷ more) y (has-head y more))))

-- ## A run whose last hall has no call left in its greatest view

module _ (rules : Rules) (fair : FairRules rules) (o : Opening) (ws : List Words) where
  abbrev left : Hall
  left = run rules (opened o) ws

  abbrev g : ℕ
  g = greatest_view left

  module _ (valid : ValidHall left) (ended : turn_of rules left g ≡ none) (primary : is_primary left g ≡ true) where
    -- p has reported all entries of s, in the order of their submission
    all-reported : (s p : ℕ) → has (left.service.members g) s ≡ true → has (left.service.members g) p ≡ true
        → filter (λ e. eqb (left.entries.sender e) s) (reported_entries left p) ≡ of_sender left.entries s
    unfolding of_sender numbers
    all-reported s p i j =
        let inv = inv-run rules fair (opened o) ws (inv-opened rules o) in
        let es = left.entries in
        let by-s : ℕ → Bool = λ e. eqb (es.sender e) s in
        begins-all 0 (filter by-s (reported_entries left p)) (of_sender es s)
        (rising-filter by-s 0 (up_to es.count) (rising-up_to es.count))
        (reported-sender rules left inv p s)
        (λ e t.
        (in-filter by-s (reported_entries left p) e).1 (
          end-has rules left valid ended inv (once-run rules fair o ws) fair primary (safe-run rules fair o ws) s p e i j t,
          eq-eqb (es.sender e) s (of-sender-in es s e t).2,
        ))

    pub ended-complete : Complete (history rules (opened o) ws) (left.service.members g)
    ended-complete s p i j =
        ap (of_items s) (delivered-are rules fair o ws p)
        ∙ items_of left.entries s (reported_entries left p)
        ∙ ap (map (item_of left.entries)) (all-reported s p i j)
        ∙ sym (submitted-are rules (opened o) ws (listed-opened o) (opened-none o) s)

-- ## A run and a settle

-- a settle that is not refused has a primary greatest view
settled-primary : (rules : Rules) (h : Hall) (ws : List Words) → settle rules h ≡ settled ws → is_primary h (greatest_view h) ≡ true
unfolding settle cannot_settle
settled-primary rules h ws done = go (eqb g 0) (is_primary h g) done
  where
    g : ℕ
    g = greatest_view h

    go : (t u : Bool) → elim (t || not u) [ true ↦ refused 42 | false ↦ settle_from rules max_turns g h ] ≡ settled ws → u ≡ true
    go true u e = absurd (not-refused 42 ws e)
    go false true e = refl
    go false false e = absurd (not-refused 42 ws e)

-- a view that keeps its members is primary or not as it was
primary-run : (rules : Rules) → FairRules rules → (h : Hall) (ws : List Words) → Inv rules h → (g : ℕ)
    → (run rules h ws).service.members g ≡ h.service.members g → is_primary (run rules h ws) g ≡ is_primary h g
unfolding is_primary
primary-run rules fair h ws inv g same =
    let size : (run rules h ws).size ≡ h.size =
    (run-keeps rules (λ x. Inv rules x × (x.size ≡ h.size)) (λ x p. (p.0.marks.low, p.0.marks.low_safe))
    (λ x y m p. (inv-keep rules fair x y m p.0, size-kept rules x y m ∙ p.1)) h ws (inv, refl)).1 in
    λ i. holds_quorum (votes-run rules h ws i) (size i) (same i)

-- "On a hall reached from opening, every entry submitted at a member has then been delivered at all members."
pub settle-complete : (rules : Rules) → FairRules rules → (o : Opening) → open_refusal o ≡ 0 → (ws : List Words) → WordsIn ws
    → (ss : List Words) → settle rules (run rules (opened o) ws) ≡ settled ss
    → Complete (history rules (opened o) (ws ++ ss)) ((run rules (opened o) ws).service.members (greatest_view (run rules (opened o) ws)))
settle-complete rules fair o taken ws words ss done =
    let h = run rules (opened o) ws in
    let g = greatest_view h in
    let valid = run-valid rules (opened o) ws words (open-valid o taken) in
    let after = settle-stands rules h valid ss done in
    let e : run rules (opened o) (ws ++ ss) ≡ run rules h ss = run-append rules (opened o) ws ss in
    let view : greatest_view (run rules (opened o) (ws ++ ss)) ≡ g = ap greatest_view e ∙ after.view in
    subst (Complete (history rules (opened o) (ws ++ ss)))
    (ap₂ (λ (x : Hall) (v : ℕ). x.service.members v) e view ∙ after.set)
    (ended-complete rules fair o (ws ++ ss) (subst ValidHall (sym e) after.valid)
    (ap₂ (turn_of rules) e view ∙ settle-ends rules h valid ss done)
    (ap₂ is_primary e view
    ∙ primary-run rules fair h ss (inv-run rules fair (opened o) ws (inv-opened rules o)) g after.set
    ∙ settled-primary rules h ss done))
