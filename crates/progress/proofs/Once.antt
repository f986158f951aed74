-- A sent summary stands once among its source's queued and pending messages, an unsent one nowhere.
-- Assumes nothing.
use Prim.Native.Nat.{ℕ, ◌+◌, ◌≤◌}
use native.Mathlib.Omega.{arith}
use mathlib.Core.Path.{◌≡◌, refl, ap, ap₂, ◌∙◌}
use mathlib.Core.Bool.{Bool, true, false, ◌&&◌, ◌||◌}
use mathlib.Core.List.{List, [], ◌∷◌, ◌++◌}
use lib.Dec.{eqb}
use borrow.Author.Tests.{eq-eqb, ne_eqb}
use Rattle.base.specs.Lists.{bit}
use Rattle.base.specs.Update.{upd, upd₂}
use Rattle.base.proofs.Bools.{or-none}
use Rattle.base.proofs.UpdateLaws.{at_place, at-place₂, upd_same, upd_other, upd₂-same, upd₂-other, upd₂-at}
use Rattle.model.specs.Hall.{Message, Queued, Hall}
use Rattle.model.specs.Service.{createview, newview, gpsnd, gprcv, safe}
use Rattle.model.specs.Refusals.{Rules}
use Rattle.model.specs.Actions.{do_submit, do_form}
use Rattle.model.specs.Opening.{Opening, open_hall, open_service, no_summaries, opened, founder_set}
use Rattle.model.specs.Call.{Words}
use Rattle.model.specs.Run.{run}
use Rattle.model.specs.Agreed.{FairRules}
use Rattle.model.proofs.ServiceLaws.{order-queue, order-pending}
use Rattle.model.proofs.Accepting.Moves.{current, CanPlace, after_place, Move, submits, labels, sends_entry, sends_summary, forms, enters, places, receives, receives_primary, hears, hears_last, notices, notices_primary, notices_summary, notices_last, confirms, delivers}
use Rattle.model.proofs.Accepting.Accepted.{run-keeps}
use Rattle.model.proofs.Agreement.State.{is_summary, summary_in, has_summary}
use Rattle.model.proofs.Agreement.Invariants.{Inv}
use Rattle.model.proofs.Agreement.Reached.{inv-opened, inv-keep}

-- how many of the queued messages are q's summary
unfoldable pub queued_count : ℕ → List Queued → ℕ
queued_count q [] = 0
queued_count q (m ∷ ms) = bit (is_summary m.message && eqb q m.source) + queued_count q ms

-- how many of the messages of a pending list are summaries
unfoldable pub pending_count : List Message → ℕ
pending_count [] = 0
pending_count (m ∷ ms) = bit (is_summary m) + pending_count ms

-- p's summaries in g's queue and in its pending list of g are one if it was sent, else none
abbrev Once : (ℕ → List Queued) → (ℕ → ℕ → List Message) → (ℕ → ℕ → Bool) → Type 0
Once queue pending sent = (p g : ℕ) → queued_count p (queue g) + pending_count (pending p g) ≡ bit (sent p g)

abbrev pub OnceOf : Hall → Type 0
OnceOf h = Once h.service.queue h.service.pending h.summaries.sent

-- ## Counts

queued-append : (q : ℕ) (xs ys : List Queued) → queued_count q (xs ++ ys) ≡ queued_count q xs + queued_count q ys
unfolding queued_count
queued-append q [] ys = omega arith
queued-append q (x ∷ xs) ys = omega (arith, queued-append q xs ys)

pending-append : (xs ys : List Message) → pending_count (xs ++ ys) ≡ pending_count xs + pending_count ys
unfolding pending_count
pending-append [] ys = omega arith
pending-append (x ∷ xs) ys = omega (arith, pending-append xs ys)

-- a summary that is counted stands in the queue
pub counted-in : (q : ℕ) (ms : List Queued) → 1 ≤ queued_count q ms → summary_in ms q ≡ true
unfolding queued_count summary_in
counted-in q [] some = absurd (omega arith)
counted-in q (m ∷ ms) some = go (is_summary m.message && eqb q m.source) (counted-in q ms) some
  where
    go : (t : Bool) → (1 ≤ queued_count q ms → summary_in ms q ≡ true) → 1 ≤ bit t + queued_count q ms → (t || summary_in ms q) ≡ true
    go true ih some = refl
    go false ih some = ih (omega arith)

none-pending : (ms : List Message) → has_summary ms ≡ false → pending_count ms ≡ 0
unfolding has_summary pending_count
none-pending [] e = refl
none-pending (m ∷ ms) e =
    let both = or-none (is_summary m) (has_summary ms) e in
    omega (arith, ap bit both.0, none-pending ms both.1)

-- ## The opened hall

once-open : (n : ℕ) (votes : ℕ → ℕ) (founders : List ℕ) → OnceOf (open_hall n votes founders)
unfolding open_hall open_service no_summaries queued_count pending_count
once-open n votes founders p g = refl

-- ## Moves

-- one message more is pending at r, a summary just if `sent` turns true there
pushed : (queue : ℕ → List Queued) (pending : ℕ → ℕ → List Message) (sent : ℕ → ℕ → Bool) (r g : ℕ) (m : Message) (t : Bool)
    → Once queue pending sent → bit (sent r g) + bit (is_summary m) ≡ bit t
    → Once queue (upd₂ pending r g (pending r g ++ (m ∷ []))) (upd₂ sent r g t)
unfolding pending_count
pushed queue pending sent r g m t o e =
    let more = pending r g ++ (m ∷ []) in
    at-place₂ (λ p v. queued_count p (queue v) + pending_count (upd₂ pending r g more p v) ≡ bit (upd₂ sent r g t p v)) r g
    (rw (upd₂-same pending r g more, upd₂-same sent r g t) (omega (arith, o r g, pending-append (pending r g) (m ∷ []))))
    (λ p v ne. rw (upd₂-other pending r g more p v ne, upd₂-other sent r g t p v ne) (o p v))

same_sent : (sent : ℕ → ℕ → Bool) (r g p v : ℕ) → upd₂ sent r g (sent r g) p v ≡ sent p v
same_sent sent r g = upd₂-at (λ p v x. x ≡ sent p v) sent r g (sent r g) refl (λ p v ne. refl)

one-own : (r : ℕ) (m : Message) → bit (is_summary m && eqb r r) ≡ bit (is_summary m)
one-own r m = rw (eq-eqb r r refl) (go (is_summary m))
  where
    go : (t : Bool) → bit (t && true) ≡ bit t
    go true = refl
    go false = refl

one-other : (p r : ℕ) (m : Message) → (p ≡ r → ⊥) → bit (is_summary m && eqb p r) ≡ 0
one-other p r m ne = rw (ne_eqb p r ne) (go (is_summary m))
  where
    go : (t : Bool) → bit (t && false) ≡ 0
    go true = refl
    go false = refl

-- a placed message goes from its source's pending list to the queue
once-place : (h : Hall) (r a : ℕ) (m : Message) → CanPlace h r a m → OnceOf h → OnceOf (after_place h r a)
unfolding pending_count queued_count
once-place h r a m c o p g =
    let q : Queued = record { source = r; message = m } in
    let queue = h.service.queue in
    let pending = h.service.pending in
    let sent = h.summaries.sent in
    let more = queue a ++ (q ∷ []) in
    ap₂ (λ (x : ℕ → List Queued) (y : ℕ → ℕ → List Message). queued_count p (x g) + pending_count (y p g))
    (order-queue h.service r a m c.others c.head) (order-pending h.service r a m c.others c.head)
    ∙ at_place (λ g. queued_count p (upd queue a more g) + pending_count (upd₂ pending r a c.others p g) ≡ bit (sent p g)) a
    (at_place (λ p. queued_count p (upd queue a more a) + pending_count (upd₂ pending r a c.others p a) ≡ bit (sent p a)) r
    (rw (upd_same queue a more, upd₂-same pending r a c.others)
    (omega (arith, queued-append r (queue a) (q ∷ []), one-own r m, o r a, ap pending_count c.head)))
    (λ p ne.
    rw (upd_same queue a more, upd₂-other pending r a c.others p a (λ e e'. ne e))
    (omega (arith, queued-append p (queue a) (q ∷ []), one-other p r m ne, o p a))) p)
    (λ g ne. rw (upd_other queue a more g ne, upd₂-other pending r a c.others p g (λ e e'. ne e')) (o p g)) g

pub once-keep : (rules : Rules) (h h' : Hall) → Move rules h h' → OnceOf h → OnceOf h'
unfolding do_submit do_form createview newview gpsnd gprcv safe is_summary
once-keep rules h _ (submits r a x y z) o = o
once-keep rules h _ (labels r e c) o = o
once-keep rules h _ (sends_entry r e c) o =
    let sent = h.summaries.sent in
    let g = current h r in
    λ p v. pushed h.service.queue h.service.pending sent r g (Message.entry e) (sent r g) o (omega arith) p v
    ∙ ap bit (same_sent sent r g p v)
once-keep rules h _ (sends_summary r c) o =
    pushed h.service.queue h.service.pending h.summaries.sent r (current h r) Message.summary true o
    (omega (arith, ap bit c.not_sent))
once-keep rules h _ (forms a b c) o = o
once-keep rules h _ (enters r a c) o = o
once-keep rules h _ (places r a m c) o = once-place h r a m c o
once-keep rules h _ (receives r q e c t) o = o
once-keep rules h _ (receives_primary r q e c t) o = o
once-keep rules h _ (hears r q c t) o = o
once-keep rules h _ (hears_last r q c t) o = o
once-keep rules h _ (notices r q e c t) o = o
once-keep rules h _ (notices_primary r q e c t) o = o
once-keep rules h _ (notices_summary r q c t) o = o
once-keep rules h _ (notices_last r q c t s) o = o
once-keep rules h _ (confirms r c) o = o
once-keep rules h _ (delivers r c) o = o

-- ## Reached halls

pub once-opened : (o : Opening) → OnceOf (opened o)
unfolding opened
once-opened o = once-open o.size _ (founder_set o)

pub once-run : (rules : Rules) → FairRules rules → (o : Opening) (ws : List Words) → OnceOf (run rules (opened o) ws)
once-run rules fair o ws =
    (run-keeps rules (λ h. Inv rules h × OnceOf h) (λ h p. (p.0.marks.low, p.0.marks.low_safe))
    (λ h h' m p. (inv-keep rules fair h h' m p.0, once-keep rules h h' m p.1))
    (opened o) ws (inv-opened rules o, once-opened o)).1

-- a sent summary that is not pending stands in the queue
pub sent-queued : (h : Hall) → OnceOf h → (p g : ℕ) → h.summaries.sent p g ≡ true → has_summary (h.service.pending p g) ≡ false
    → summary_in (h.service.queue g) p ≡ true
sent-queued h o p g s none =
    counted-in p (h.service.queue g) (omega (arith, o p g, ap bit s, none-pending (h.service.pending p g) none))
