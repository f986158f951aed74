-- Room to place: kind 7 never meets 40 in a reached hall. A queue has each member's summary at most once and each entry
-- labelled in its view at most once, and what is still pending is not among them.
-- Assumes nothing.
use Prim.Native.Nat.{ℕ, suc, ◌+◌, ◌≤◌}
use native.Mathlib.Omega.{arith}
use mathlib.Core.Path.{◌≡◌, refl, sym, ap, ◌∙◌, subst}
use mathlib.Core.Logic.{⊎_elim}
use mathlib.Core.Bool.{Bool, true, false, ◌&&◌}
use mathlib.Core.List.{List, [], ◌∷◌, ◌++◌}
use lib.Dec.{eqb}
use lib.ListN.{length}
use borrow.Author.Tests.{eq-eqb, ne_eqb, lt-leb}
use Rattle.base.specs.Lists.{has, bit}
use Rattle.base.proofs.Bools.{true-or-false}
use Rattle.base.proofs.ListsLaws.{has-none, has-cons, bit-small}
use Rattle.base.proofs.UpdateLaws.{same?}
use Rattle.model.specs.Hall.{max_queue, max_recorders, Entries, Message, Queued, Hall}
use Rattle.model.specs.Refusals.{Rules, queue_full}
use Rattle.model.proofs.Accepting.Moves.{current, members_of}
use Rattle.model.proofs.Agreement.State.{entry_of, is_summary, entries_in, entries_from, entries_of}
use Rattle.model.proofs.Agreement.Arrival.{row_at, row_in, in-from, row_of}
use Rattle.model.proofs.Ordering.Labels.{Labelled, InRow}
use Rattle.progress.proofs.Distinct.{Distinct, distinct-length}
use Rattle.progress.proofs.Once.{queued_count, pending_count, counted-in}
use Rattle.progress.proofs.Reached.{Reached}

-- ## Entries

-- the entries of p in a message x of source q, and then
abbrev from_first : ℕ → ℕ → Message → List Queued → List ℕ
from_first p q x ms = elim (eqb q p) [ true ↦ entry_of x | false ↦ [] ] ++ entries_from p ms

from-summary : (p q : ℕ) (ms : List Queued) → from_first p q Message.summary ms ≡ entries_from p ms
unfolding entry_of
from-summary p q ms = go (eqb q p)
  where
    go : (t : Bool) → elim t [ true ↦ [] | false ↦ [] ] ++ entries_from p ms ≡ entries_from p ms
    go true = refl
    go false = refl

from-here : (q e : ℕ) (ms : List Queued) → from_first q q (Message.entry e) ms ≡ e ∷ entries_from q ms
unfolding entry_of
from-here q e ms = ap (λ t. elim t [ true ↦ e ∷ [] | false ↦ [] ] ++ entries_from q ms) (eq-eqb q q refl)

from-other : (p q e : ℕ) (ms : List Queued) → (p ≡ q → ⊥) → from_first p q (Message.entry e) ms ≡ entries_from p ms
unfolding entry_of
from-other p q e ms ne = ap (λ t. elim t [ true ↦ e ∷ [] | false ↦ [] ] ++ entries_from p ms) (ne_eqb q p (λ s. ne (sym s)))

-- each source's entries stand in a row, from some number on
abbrev Row : Entries → ℕ → ℕ → List ℕ → Type 0
Row es g p xs = (k : ℕ) × InRow es p g k xs

module _ (es : Entries) (g : ℕ) where
  -- after a first message e of source q the later ones still stand in rows
  rows-later : (q e : ℕ) (ms : List Queued) → ((p : ℕ) → Row es g p (from_first p q (Message.entry e) ms)) → (p : ℕ) → Row es g p (entries_from p ms)
  rows-later q e ms rows p =
      ⊎_elim
      (λ s.
      let mine : Row es g q (e ∷ entries_from q ms) = subst (Row es g q) (from-here q e ms) (rows q) in
      subst (λ p. Row es g p (entries_from p ms)) (sym s) (suc mine.0, mine.1.1))
      (λ ne. subst (Row es g p) (from-other p q e ms ne) (rows p))
      (same? p q)

  -- and do not name e
  later-new : (q e : ℕ) (ms : List Queued) → ((p : ℕ) → Row es g p (from_first p q (Message.entry e) ms)) → has (entries_in ms) e ≡ false
  later-new q e ms rows =
      let mine : Row es g q (e ∷ entries_from q ms) = subst (Row es g q) (from-here q e ms) (rows q) in
      ⊎_elim
      (λ m.
      let from = in-from ms e m in
      let row = rows-later q e ms rows from.0 in
      let who : from.0 ≡ q = sym (row_in es from.0 g row.0 (entries_from from.0 ms) e row.1 from.1).0 ∙ mine.1.0.0 in
      let at = row_in es q g (suc mine.0) (entries_from q ms) e mine.1.1 (subst (λ p. has (entries_from p ms) e ≡ true) who from.1) in
      absurd (omega (arith, at.2, mine.1.0.2)))
      (λ f. f)
      (true-or-false (has (entries_in ms) e))

  -- a queue whose entries stand in a row for each source names each entry once
  entries-distinct : (ms : List Queued) → ((p : ℕ) → Row es g p (entries_from p ms)) → Distinct (entries_in ms)
  unfolding entries_in entries_from entry_of
  entries-distinct [] rows = tt
  entries-distinct (m ∷ ms) rows = go m.source m.message rows (entries-distinct ms)
    where
      go : (q : ℕ) (x : Message) → ((p : ℕ) → Row es g p (from_first p q x ms))
          → (((p : ℕ) → Row es g p (entries_from p ms)) → Distinct (entries_in ms)) → Distinct (entry_of x ++ entries_in ms)
      go q Message.summary rows ih = ih (λ p. subst (Row es g p) (from-summary p q ms) (rows p))
      go q (Message.entry e) rows ih = (later-new q e ms rows, ih (rows-later q e ms rows))

-- ## Summaries

-- the sources of a queue's summaries
tellers : List Queued → List ℕ
tellers [] = []
tellers (m ∷ ms) = elim (is_summary m.message) [ true ↦ m.source ∷ tellers ms | false ↦ tellers ms ]

-- a queue is its entries and its summaries
queue-length : (ms : List Queued) → length ms ≡ length (entries_in ms) + length (tellers ms)
unfolding entries_in entry_of is_summary tellers
queue-length [] = omega arith
queue-length (m ∷ ms) = go m.message (queue-length ms)
  where
    go : (x : Message) → length ms ≡ length (entries_in ms) + length (tellers ms)
        → suc (length ms)
        ≡ length (entry_of x ++ entries_in ms) + length {A = ℕ} (elim (is_summary x) [ true ↦ m.source ∷ tellers ms | false ↦ tellers ms ])
    go (Message.entry e) ih = omega arith
    go Message.summary ih = omega arith

-- a source is counted
teller-counted : (q : ℕ) (ms : List Queued) → has (tellers ms) q ≡ true → 1 ≤ queued_count q ms
unfolding tellers queued_count
teller-counted q [] t = absurd (has-none q t)
teller-counted q (m ∷ ms) t = go (is_summary m.message) (teller-counted q ms) t
  where
    go : (b : Bool) → (has (tellers ms) q ≡ true → 1 ≤ queued_count q ms)
        → has (elim b [ true ↦ m.source ∷ tellers ms | false ↦ tellers ms ]) q ≡ true
        → 1 ≤ bit (b && eqb q m.source) + queued_count q ms
    go true ih t =
        ⊎_elim (λ e. omega (arith, ap bit (eq-eqb q m.source e))) (λ l. omega (arith, ih l)) (has-cons m.source (tellers ms) q t)
    go false ih t = omega (arith, ih t)

-- if each is counted at most once, none is named twice
tellers-distinct : (ms : List Queued) → ((q : ℕ) → queued_count q ms ≤ 1) → Distinct (tellers ms)
unfolding tellers queued_count
tellers-distinct [] most = tt
tellers-distinct (m ∷ ms) most =
    go (is_summary m.message) most (tellers-distinct ms (λ q. omega (arith, most q)))
  where
    go : (b : Bool) → ((q : ℕ) → bit (b && eqb q m.source) + queued_count q ms ≤ 1) → Distinct (tellers ms)
        → Distinct (elim b [ true ↦ m.source ∷ tellers ms | false ↦ tellers ms ])
    go true most ih = (
      ⊎_elim
          (λ t. absurd (omega (arith, most m.source, ap bit (eq-eqb m.source m.source refl), teller-counted m.source ms t)))
          (λ f. f)
          (true-or-false (has (tellers ms) m.source)),
      ih,
    )
    go false most ih = ih

-- ## Kind 7

module _ (rules : Rules) (h : Hall) (x : Reached rules h) (r a : ℕ) (formed : 1 ≤ a) (member : has (members_of h a) r ≡ true) where
  abbrev queue : List Queued
  queue = h.service.queue a

  row : (p : ℕ) → InRow h.entries p a 1 (entries_from p queue)
  row p = row_of rules h x.inv p a formed

  entries-inside : (e : ℕ) → has (entries_in queue) e ≡ true → (1 ≤ e) × (e ≤ h.entries.count)
  entries-inside e m =
      let from = in-from queue e m in
      x.inv.labels.numbered e (row_in h.entries from.0 a 1 (entries_from from.0 queue) e (row from.0) from.1).2

  tellers-inside : (q : ℕ) → has (tellers queue) q ≡ true → (1 ≤ q) × (q ≤ max_recorders)
  tellers-inside q t =
      let told = counted-in q queue (teller-counted q queue t) in
      let at = x.sizes.inside a q (x.inv.exchange.sent_member q a (x.inv.exchange.queued_sent q a told)) in
      (at.0, omega (arith, at.1, x.sizes.size))

  entries-once : Distinct (entries_in queue)
  entries-once = entries-distinct h.entries a queue (λ p. (1, row p))

  tellers-once : Distinct (tellers queue)
  tellers-once = tellers-distinct queue (λ q. omega (arith, x.once q a, bit-small (h.summaries.sent q a)))

  entries-few : length (entries_in queue) ≤ h.entries.count
  entries-few = distinct-length h.entries.count (entries_in queue) entries-once entries-inside

  tellers-few : length (tellers queue) ≤ max_recorders
  tellers-few = distinct-length max_recorders (tellers queue) tellers-once tellers-inside

  -- the head of r's pending entries comes after r's queued ones
  head-label : (e : ℕ) (others : List Message) → h.service.pending r a ≡ Message.entry e ∷ others
      → (h.entries.sender e ≡ r) × (h.entries.label_seq e ≡ 1 + length (entries_from r queue))
  unfolding entries_of entry_of
  head-label e others head =
      let es = h.entries in
      let mine = entries_from r queue in
      let buffer = h.recorders.buffer r in
      let pending : entries_of (h.service.pending r a) ≡ e ∷ entries_of others = ap entries_of head in
      ⊎_elim
      (λ s.
      let current-row : InRow es r a 1 (mine ++ (entries_of (h.service.pending r a) ++ buffer)) =
      subst (λ g. InRow es r g 1 (entries_from r (h.service.queue g) ++ (entries_of (h.service.pending r g) ++ buffer))) s
      (x.inv.labels.current_row r (omega arith)) in
      let at = row_at es r a 1 mine e (entries_of others ++ buffer) (subst (λ l. InRow es r a 1 (mine ++ (l ++ buffer))) pending current-row) in
      (at.0, at.2))
      (λ ne.
      let at = row_at es r a 1 mine e (entries_of others) (subst (λ l. InRow es r a 1 (mine ++ l)) pending (x.inv.labels.queued_row r a ne)) in
      (at.0, at.2))
      (same? (current h r) a)

  -- so it is not queued yet: with it they are still at most the entries of the hall
  entry_more : (e : ℕ) → (h.entries.sender e ≡ r) × (h.entries.label_seq e ≡ 1 + length (entries_from r queue))
      → length (e ∷ entries_in queue) ≤ h.entries.count
  entry_more e label =
      let es = h.entries in
      let new : has (entries_in queue) e ≡ false =
      ⊎_elim
      (λ m.
      let from = in-from queue e m in
      let at = row_in es from.0 a 1 (entries_from from.0 queue) e (row from.0) from.1 in
      let same = ap (λ p. length (entries_from p queue)) (sym at.0 ∙ label.0) in
      absurd (omega (arith, at.2, label.1)))
      (λ f. f)
      (true-or-false (has (entries_in queue) e)) in
      let labelled : Labelled es e = omega (arith, label.1) in
      distinct-length es.count (e ∷ entries_in queue) (new, entries-once)
      (λ d m.
      ⊎_elim (λ s. subst (λ d. (1 ≤ d) × (d ≤ es.count)) (sym s) (x.inv.labels.numbered e labelled)) (entries-inside d)
      (has-cons e (entries_in queue) d m))

  -- a member whose summary is not queued is one more of the recorders
  summary-more : queued_count r queue ≡ 0 → length (r ∷ tellers queue) ≤ max_recorders
  summary-more none =
      let new : has (tellers queue) r ≡ false =
      ⊎_elim (λ m. absurd (omega (arith, teller-counted r queue m))) (λ f. f) (true-or-false (has (tellers queue) r)) in
      let at = x.sizes.inside a r member in
      let fits : (1 ≤ r) × (r ≤ max_recorders) = (at.0, omega (arith, at.1, x.sizes.size)) in
      distinct-length max_recorders (r ∷ tellers queue) (new, tellers-once)
      (λ q m.
      ⊎_elim (λ s. subst (λ q. (1 ≤ q) × (q ≤ max_recorders)) (sym s) fits) (tellers-inside q) (has-cons r (tellers queue) q m))

  -- 7
  pub room-to-place : (m : Message) (others : List Message) → h.service.pending r a ≡ m ∷ others → queue_full h a ≡ false
  unfolding queue_full pending_count is_summary
  room-to-place Message.summary others head =
      let none : queued_count r queue ≡ 0 = omega (arith, x.once r a, bit-small (h.summaries.sent r a), ap pending_count head) in
      lt-leb max_queue (length queue) (omega (arith, queue-length queue, entries-few, x.sizes.entries, summary-more none))
  room-to-place (Message.entry e) others head =
      lt-leb max_queue (length queue)
      (omega (arith, queue-length queue, entry_more e (head-label e others head), x.sizes.entries, tellers-few))
