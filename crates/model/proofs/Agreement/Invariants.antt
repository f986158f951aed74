-- The invariants of a hall reached from opening, in groups over just the functions they speak of. The letters are those
-- of docs/agreement.md.
-- Assumes nothing.
use Prim.Native.Nat.{ℕ, ◌+◌, ◌-◌, ◌≤◌, ◌<◌}
use mathlib.Core.Path.{◌≡◌}
use mathlib.Core.Logic.{◌⊎◌}
use mathlib.Core.Bool.{Bool, true, false}
use mathlib.Core.List.{List, [], ◌++◌}
use lib.ListN.{length, take}
use Rattle.base.specs.Lists.{has, Begins}
use Rattle.model.specs.Hall.{Entries, Message, Queued, Summary, Phase, normal, send, collect, Hall}
use Rattle.model.specs.Refusals.{Rules, is_primary}
use Rattle.model.proofs.Agreement.State.{entries_in, entries_from, summary_in, entries_of, has_summary, received, noticed, Est, full, built}
use Rattle.model.proofs.Ordering.Labels.{Labelled, Before, InRow, Tidy}

-- V: formed views and current views
pub record Views (created : List ℕ) (S : ℕ → List ℕ) (cur : ℕ → ℕ) : Type 0 where
  pub listed : (g p : ℕ) → has (S g) p ≡ true → has created g ≡ true
  pub counted : (g : ℕ) → has created g ≡ true → 1 ≤ g
  pub first : has created 1 ≡ true
  pub here : (p : ℕ) → 1 ≤ cur p → has (S (cur p)) p ≡ true
  pub began : (p : ℕ) → has (S 1) p ≡ true → 1 ≤ cur p

-- M: receive and safe marks
pub record Marks (S : ℕ → List ℕ) (cur : ℕ → ℕ) (queue : ℕ → List Queued) (next next_safe : ℕ → ℕ → ℕ) : Type 0 where
  pub low : (p g : ℕ) → 1 ≤ next p g
  pub high : (p g : ℕ) → next p g ≤ length (queue g) + 1
  pub low_safe : (p g : ℕ) → 1 ≤ next_safe p g
  pub high_safe : (p g : ℕ) → next_safe p g ≤ length (queue g) + 1
  pub behind : (p q g : ℕ) → has (S g) q ≡ true → next_safe p g ≤ next q g
  pub fresh : (p g : ℕ) → cur p < g → (next p g ≡ 1) × (next_safe p g ≡ 1)

-- X: the exchange of summaries
pub record Exchange (S : ℕ → List ℕ) (cur : ℕ → ℕ) (queue : ℕ → List Queued) (pending : ℕ → ℕ → List Message)
    (rcv : ℕ → ℕ → List Queued) (sent : ℕ → ℕ → Bool) (phase : ℕ → Phase) (heard : ℕ → ℕ → Bool) : Type 0 where
  -- each beginning of a later view's queue has no entry or has every member's summary
  pub settled : (g : ℕ) → (g ≡ 1 → ⊥) → (k : ℕ)
      → (entries_in (take k (queue g)) ≡ []) ⊎ ((q : ℕ) → has (S g) q ≡ true → summary_in (take k (queue g)) q ≡ true)
  pub quiet : (g : ℕ) → S g ≡ [] → queue g ≡ []
  -- whose entry is pending or queued in g has established g
  pub pending_est : (p g e : ℕ) → has (entries_of (pending p g)) e ≡ true → Est S rcv p g
  pub queued_est : (p g e : ℕ) → has (entries_from p (queue g)) e ≡ true → Est S rcv p g
  pub heard_is : (p q : ℕ) → 1 ≤ cur p → heard p q ≡ summary_in (rcv p (cur p)) q
  pub normal_est : (p : ℕ) → 1 ≤ cur p → phase p ≡ normal → Est S rcv p (cur p)
  pub est_normal : (p : ℕ) → Est S rcv p (cur p) → phase p ≡ normal
  pub queued_sent : (q g : ℕ) → summary_in (queue g) q ≡ true → sent q g ≡ true
  pub pending_sent : (q g : ℕ) → has_summary (pending q g) ≡ true → sent q g ≡ true
  pub sent_later : (q g : ℕ) → sent q g ≡ true → g ≡ 1 → ⊥
  pub sent_member : (q g : ℕ) → sent q g ≡ true → has (S g) q ≡ true
  pub sent_entered : (q g : ℕ) → sent q g ≡ true → g ≤ cur q
  pub send_unsent : (p : ℕ) → phase p ≡ send → sent p (cur p) ≡ false
  pub collect_sent : (p : ℕ) → phase p ≡ collect → sent p (cur p) ≡ true

-- N: labels
pub record Labels (S : ℕ → List ℕ) (cur : ℕ → ℕ) (queue : ℕ → List Queued) (pending : ℕ → ℕ → List Message)
    (rcv : ℕ → ℕ → List Queued) (es : Entries) (next_seq : ℕ → ℕ) (buffer : ℕ → List ℕ) : Type 0 where
  pub numbered : (e : ℕ) → Labelled es e → (1 ≤ e) × (e ≤ es.count)
  pub viewed : (e : ℕ) → Labelled es e → (1 ≤ es.label_view e) × (es.label_view e ≤ cur (es.sender e))
  pub view_est : (e : ℕ) → Labelled es e → Est S rcv (es.sender e) (es.label_view e)
  pub unique : (d e : ℕ) → Labelled es d → es.label_view d ≡ es.label_view e → es.label_seq d ≡ es.label_seq e
      → es.sender d ≡ es.sender e → d ≡ e
  -- labels rise with the submission, and the labelled entries of a sender come first
  pub rises : (d e : ℕ) → 1 ≤ d → d < e → es.sender d ≡ es.sender e → Labelled es e → Before es d e
  -- p's entries in g's queue, then those pending in g, then p's buffer if g is its current view, are labelled in a row
  pub queued_row : (p g : ℕ) → (cur p ≡ g → ⊥) → InRow es p g 1 (entries_from p (queue g) ++ entries_of (pending p g))
  pub current_row : (p : ℕ) → 1 ≤ cur p
      → InRow es p (cur p) 1 (entries_from p (queue (cur p)) ++ (entries_of (pending p (cur p)) ++ buffer p))
  pub next_is : (p : ℕ) → 1 ≤ cur p
      → next_seq p ≡ 1 + length (entries_from p (queue (cur p)) ++ (entries_of (pending p (cur p)) ++ buffer p))
  pub below : (e : ℕ) → Labelled es e → es.label_view e ≡ cur (es.sender e) → es.label_seq e < next_seq (es.sender e)
  -- nothing of p is in a view that it has not reached
  pub ahead : (p g : ℕ) → cur p < g → (entries_from p (queue g) ≡ []) × (entries_of (pending p g) ≡ [])

-- K: known entries, and orders
pub record Known (es : Entries) (cur : ℕ → ℕ) (rcv : ℕ → ℕ → List Queued) (sent : ℕ → ℕ → Bool)
    (sum : ℕ → ℕ → Summary) (phase : ℕ → Phase) (known : ℕ → ℕ → Bool) (order : ℕ → List ℕ) : Type 0 where
  pub own : (e : ℕ) → Labelled es e → known (es.sender e) e ≡ true
  pub known_labelled : (p e : ℕ) → known p e ≡ true → Labelled es e
  pub known_view : (p e : ℕ) → known p e ≡ true → es.label_view e ≤ cur p
  pub known_current : (p e : ℕ) → known p e ≡ true → es.label_view e ≡ cur p → phase p ≡ normal
  pub sum_labelled : (p g e : ℕ) → sent p g ≡ true → (sum p g).known e ≡ true → Labelled es e × (es.label_view e < g)
  pub sum_own : (p g e : ℕ) → sent p g ≡ true → Labelled es e → es.sender e ≡ p → es.label_view e < g
      → (sum p g).known e ≡ true
  pub heard_entries : (p e : ℕ) → has (entries_in (rcv p (cur p))) e ≡ true → known p e ≡ true
  pub heard_known : (p q e : ℕ) → summary_in (rcv p (cur p)) q ≡ true → (sum q (cur p)).known e ≡ true → known p e ≡ true
  pub closed : (p d e : ℕ) → known p e ≡ true → Before es d e → known p d ≡ true
  pub sum_closed : (p g d e : ℕ) → sent p g ≡ true → (sum p g).known e ≡ true → Before es d e → (sum p g).known d ≡ true
  pub ordered : (p e : ℕ) → has (order p) e ≡ true → known p e ≡ true
  pub sum_ordered : (p g e : ℕ) → sent p g ≡ true → has (sum p g).order e ≡ true → (sum p g).known e ≡ true
  pub tidy : (p : ℕ) → Tidy es (order p)
  pub sum_tidy : (p g : ℕ) → sent p g ≡ true → Tidy es (sum p g).order

-- O: in an established primary view the order is the view's order
pub record Orders (S : ℕ → List ℕ) (prim : ℕ → Bool) (cur : ℕ → ℕ) (rcv : ℕ → ℕ → List Queued) (bo : ℕ → ℕ → List ℕ)
    (order : ℕ → List ℕ) (high : ℕ → ℕ) : Type 0 where
  pub order_is : (p : ℕ) → Est S rcv p (cur p) → prim (cur p) ≡ true → order p ≡ bo p (cur p)
  pub high_is : (p : ℕ) → Est S rcv p (cur p) → prim (cur p) ≡ true → high p ≡ cur p

-- D: safe labels
pub record Safes (S : ℕ → List ℕ) (prim : ℕ → Bool) (cur : ℕ → ℕ) (rcv ntc : ℕ → ℕ → List Queued) (fo : ℕ → List ℕ)
    (safe safe_sources : ℕ → ℕ → Bool) : Type 0 where
  pub safe_in : (p e : ℕ) → safe p e ≡ true → has (fo (cur p) ++ entries_in (ntc p (cur p))) e ≡ true
  pub safe_primary : (p e : ℕ) → safe p e ≡ true → prim (cur p) ≡ true
  pub safe_est : (p e : ℕ) → safe p e ≡ true → (q : ℕ) → has (S (cur p)) q ≡ true → Est S rcv q (cur p)
  pub source_in : (p q : ℕ) → safe_sources p q ≡ true → summary_in (ntc p (cur p)) q ≡ true

-- P: phases and marks of a recorder's own log
pub record Own (cur : ℕ → ℕ) (sum : ℕ → ℕ → Summary) (phase : ℕ → Phase) (order : ℕ → List ℕ)
    (confirm report high : ℕ → ℕ) : Type 0 where
  pub sum_order : (p : ℕ) → phase p ≡ collect → (sum p (cur p)).order ≡ order p
  pub sum_confirm : (p : ℕ) → phase p ≡ collect → (sum p (cur p)).confirm ≡ confirm p
  pub sum_high : (p : ℕ) → phase p ≡ collect → (sum p (cur p)).high ≡ high p
  -- a recorder that has not established its current view has its order from an earlier one
  pub high_below : (p : ℕ) → (phase p ≡ normal → ⊥) → high p < cur p
  pub report_low : (p : ℕ) → 1 ≤ report p
  pub reported : (p : ℕ) → report p ≤ confirm p

-- B and E: where orders come from, and what is confirmed. S, prim, cur, est and bo are as above.
module _ (S : ℕ → List ℕ) (prim : ℕ → Bool) (cur : ℕ → ℕ) (est : ℕ → ℕ → Type 0) (bo : ℕ → ℕ → List ℕ) where
  -- the order comes from the view `high`: from a member that established it and has left it
  pub data Origin (order : List ℕ) (high : ℕ) : Type 0 where
    nowhere : prim high ≡ false → order ≡ [] → Origin order high
    left : prim high ≡ true → (q : ℕ) → has (S high) q ≡ true → est q high → high < cur q → order ≡ bo q high
        → Origin order high

  -- every member of the primary view v that has left it had established it, with σ at the beginning of its order
  pub record Held (v : ℕ) (σ : List ℕ) : Type 0 where
    pub primary : prim v ≡ true
    pub est_there : (q : ℕ) → has (S v) q ≡ true → v < cur q → est q v
    pub begins : (q : ℕ) → has (S v) q ≡ true → v < cur q → Begins σ (bo q v)

  -- every member of the primary view v has established it, with σ at the beginning of its order
  pub record Stable (v : ℕ) (σ : List ℕ) : Type 0 where
    pub primary : prim v ≡ true
    pub est_there : (q : ℕ) → has (S v) q ≡ true → est q v
    pub begins : (q : ℕ) → has (S v) q ≡ true → Begins σ (bo q v)

  -- what holds of the order, confirm mark and highest primary of a recorder or a sent summary
  pub record Sound (order : List ℕ) (confirm high : ℕ) : Type 0 where
    pub above : (v : ℕ) (σ : List ℕ) → Held v σ → v < high → Begins σ order
    pub marked : 1 ≤ confirm
    pub in_order : confirm ≤ length order + 1
    pub stable : (confirm ≡ 1) ⊎ ((v : ℕ) × (v ≤ high) × Stable v (take (confirm - 1) order))

  pub record Infos (sent : ℕ → ℕ → Bool) (sum : ℕ → ℕ → Summary) (order : ℕ → List ℕ) (confirm high : ℕ → ℕ) : Type 0 where
    pub sound : (p : ℕ) → Sound (order p) (confirm p) (high p)
    pub sum_sound : (p g : ℕ) → sent p g ≡ true → Sound (sum p g).order (sum p g).confirm (sum p g).high
    -- a recorder's order comes from its current view, established and primary, or as a summary's does
    pub origin : (p : ℕ) → (est p (cur p) × (prim (cur p) ≡ true)) ⊎ Origin (order p) (high p)
    pub sum_origin : (p g : ℕ) → sent p g ≡ true → Origin (sum p g).order (sum p g).high
    pub high_current : (p : ℕ) → high p ≤ cur p
    pub sum_high_below : (p g : ℕ) → sent p g ≡ true → (sum p g).high < g
    -- who established a primary view and left it knows of it
    pub kept : (p v : ℕ) → est p v → prim v ≡ true → v < cur p → v ≤ high p
    pub sum_kept : (p v g : ℕ) → est p v → prim v ≡ true → v < g → sent p g ≡ true → v ≤ (sum p g).high

-- ## The groups of a hall

abbrev pub est_of : Hall → ℕ → ℕ → Type 0
est_of h = Est h.service.members (received h.service)

abbrev pub ViewsOf : Hall → Type 0
ViewsOf h = Views h.service.created h.service.members h.service.current

abbrev pub MarksOf : Hall → Type 0
MarksOf h =
    Marks h.service.members h.service.current h.service.queue h.service.next h.service.next_safe

abbrev pub ExchangeOf : Hall → Type 0
ExchangeOf h =
    Exchange h.service.members h.service.current h.service.queue h.service.pending (received h.service)
    h.summaries.sent h.recorders.phase h.recorders.heard

abbrev pub LabelsOf : Hall → Type 0
LabelsOf h =
    Labels h.service.members h.service.current h.service.queue h.service.pending (received h.service)
    h.entries h.recorders.next_seq h.recorders.buffer

abbrev pub KnownOf : Hall → Type 0
KnownOf h =
    Known h.entries h.service.current (received h.service) h.summaries.sent h.summaries.summary
    h.recorders.phase h.recorders.known h.recorders.order

abbrev pub OrdersOf : Rules → Hall → Type 0
OrdersOf rules h =
    Orders h.service.members (is_primary h) h.service.current (received h.service) (built rules h)
    h.recorders.order h.recorders.high

abbrev pub SafesOf : Rules → Hall → Type 0
SafesOf rules h =
    Safes h.service.members (is_primary h) h.service.current (received h.service) (noticed h.service)
    (full rules h) h.recorders.safe h.recorders.safe_sources

abbrev pub OwnOf : Hall → Type 0
OwnOf h =
    Own h.service.current h.summaries.summary h.recorders.phase h.recorders.order h.recorders.confirm
    h.recorders.report h.recorders.high

abbrev pub InfosOf : Rules → Hall → Type 0
InfosOf rules h =
    Infos h.service.members (is_primary h) h.service.current (est_of h) (built rules h) h.summaries.sent
    h.summaries.summary h.recorders.order h.recorders.confirm h.recorders.high

-- all of them
pub record Inv (rules : Rules) (h : Hall) : Type 0 where
  pub views : ViewsOf h
  pub marks : MarksOf h
  pub exchange : ExchangeOf h
  pub labels : LabelsOf h
  pub known : KnownOf h
  pub orders : OrdersOf rules h
  pub safes : SafesOf rules h
  pub own : OwnOf h
  pub infos : InfosOf rules h
