-- Every move keeps the facts of a hall that has a stored form, from any such hall.
-- Assumes nothing.
use Prim.Native.Nat.{ℕ, ◌+◌, ◌≤◌, ◌<◌}
use native.Mathlib.Omega.{arith}
use mathlib.Core.Path.{◌≡◌, refl, sym, ap, ◌∙◌, subst, subst₂}
use mathlib.Core.Logic.{◌⊎◌, inr, ⊎_elim}
use mathlib.Core.Bool.{Bool, true, false, ◌&&◌, ◌||◌, true≢false, false≢true}
use mathlib.Core.List.{List, [], ◌∷◌}
use borrow.Author.Tests.{leb-false, ltb-false}
use lib.ListN.{length}
use Rattle.base.specs.Lists.{has}
use Rattle.base.specs.Update.{upd, upd₂}
use Rattle.base.proofs.ListsLaws.{has-head, has-none}
use Rattle.base.proofs.Greatest.{greatest-above, greatest-least}
use Rattle.base.proofs.UpdateLaws.{at-place₂, upd-at, upd-at-both, upd₂-same, upd₂-other, upd₂-at, upd_same}
use Rattle.base.proofs.Bools.{not-both, and-true, or-none}
use Rattle.quorum.specs.Sets.{members}
use Rattle.model.specs.Hall.{max_entries, max_sequence, max_buffer, max_order, max_number, Payload, Entries, Message, Message.entry, Message.summary, Queued, Service, Summary, Summaries, normal, send, collect, Recorders, Hall}
use Rattle.model.specs.Fields.{set_pending, set_queue, set_next, set_next_safe, set_safe, set_entries, set_service, set_summaries, set_recorders}
use Rattle.model.specs.Service.{exceeds_created, createview, newview, gpsnd, vs_order, gprcv, safe}
use Rattle.model.specs.Ordering.{Choice, shortorder, fullorder, built_order, built_high, maxprimary, maxnextconfirm, labelled, sent_entry, summary_of, sent_summary, entered, heard_summary, established, completes, heard_sources, confirmed, reported}
use Rattle.model.specs.Refusals.{Rules, is_primary, summaries_of, order_full, built_too_long, no_room_to_receive, sequence_full, buffer_full, new_label_exists, summary_place_full, pending_full, queue_full}
use Rattle.model.specs.Actions.{do_submit, do_form}
use Rattle.model.proofs.Accepting.Room.{is_full, Fits}
use Rattle.model.proofs.Accepting.Moves.{current, members_of, At, queued, CanLabel, after_label, CanSendEntry, after_send_entry, CanSendSummary, after_send_summary, CanForm, CanEnter, after_enter, CanPlace, after_place, CanReceive, after_receive, learnt, joined, told, CanNotice, after_notice, safe_from, built_at, heard_order, CanConfirm, CanDeliver, Move, submits, labels, sends_entry, sends_summary, forms, enters, places, receives, receives_primary, hears, hears_last, notices, notices_primary, notices_summary, notices_last, confirms, delivers}
use Rattle.model.proofs.ServiceLaws.{order-queue, order-pending}
use Rattle.model.proofs.Ordering.Waiting.{first-waiting}
use Rattle.model.proofs.Ordering.FullOrder.{known_from, full-in}
use Rattle.codec.proofs.BoundedLaws.{within-nil, within-push}
use Rattle.store.specs.Valid.{PayloadIn}
use Rattle.store.proofs.KeepFacts.{Between, none, Named, Names, EntryFacts, ViewFacts, RecorderFacts, SourceFacts, SummaryFacts, SentFacts, QueuedOf, TrafficFacts, MarkIn, Facts, inside?, member-in, listed-names, names-listed}
use Rattle.store.proofs.KeepParts.{names_more, names-join, listed-rest, at-phase, at-known, at-next_seq, at-buffer, at-order, at-safe, at-confirm, at-report, at_high, at-heard, at-safe_sources, Grows, recorders-grow, sources-grow, sums-grow, traffic-grow, each_at, at-pending, at-queue, at_mark, mark-grow}
use Rattle.store.proofs.KeepEntries.{submit-keeps, label-keeps, form-keeps}

-- ## Parts of a hall replaced

-- entries grow, the rest left alone
entries-grow : (es es' : Entries) (S : ℕ → List ℕ) (sent : ℕ → ℕ → Bool) → ((e : ℕ) → Named es e → Named es' e)
    → Grows es es' S S sent sent
entries-grow es es' S sent named = record { named = named; member = λ g p t. t; sent = λ p g t. t }

module _ (h : Hall) (f : Facts h) where
  -- other entries, group service, summaries and recorders
  with-parts : (es : Entries) (v : Service) (x : Summaries) (s : Recorders)
      → EntryFacts h.size es
      → ViewFacts h.size v.created v.members v.current
      → RecorderFacts h.size es s
      → SourceFacts v.members v.current x.sent s.heard s.safe_sources
      → SentFacts es v.members x
      → TrafficFacts es v.members x.sent v.pending v.queue
      → ((p g : ℕ) → MarkIn h.size v.created p g (v.next p g))
      → ((p g : ℕ) → MarkIn h.size v.created p g (v.next_safe p g))
      → Facts (set_entries es (set_service v (set_summaries x (set_recorders s h))))
  with-parts es v x s entries views recorders sources sums traffic next next_safe =
      record {
        size = f.size;
        votes = f.votes;
        entries = entries;
        views = views;
        recorders = recorders;
        sources = sources;
        sums = sums;
        traffic = traffic;
        next = next;
        next_safe = next_safe;
      }

  with-recorders : (s : Recorders) → RecorderFacts h.size h.entries s
      → SourceFacts (members_of h) (current h) h.summaries.sent s.heard s.safe_sources → Facts (set_recorders s h)
  with-recorders s rs ss =
      with-parts h.entries h.service h.summaries s f.entries f.views rs ss f.sums f.traffic f.next f.next_safe

  with-service : (pending : ℕ → ℕ → List Message) (queue : ℕ → List Queued) (next next_safe : ℕ → ℕ → ℕ)
      → TrafficFacts h.entries (members_of h) h.summaries.sent pending queue
      → ((p g : ℕ) → MarkIn h.size h.service.created p g (next p g))
      → ((p g : ℕ) → MarkIn h.size h.service.created p g (next_safe p g))
      → Facts (set_service (set_pending pending (set_queue queue (set_next next (set_next_safe next_safe h.service)))) h)
  with-service pending queue next next_safe t a b =
      with-parts h.entries (set_pending pending (set_queue queue (set_next next (set_next_safe next_safe h.service)))) h.summaries
      h.recorders f.entries f.views f.recorders f.sources f.sums t a b

  -- other entries, which name what the old ones named, and recorders
  with_entries : (es : Entries) (s : Recorders) → EntryFacts h.size es → ((e : ℕ) → Named h.entries e → Named es e)
      → RecorderFacts h.size es s
      → SourceFacts (members_of h) (current h) h.summaries.sent s.heard s.safe_sources
      → Facts (set_entries es (set_recorders s h))
  with_entries es s ef named rs ss =
      let gr = entries-grow h.entries es (members_of h) h.summaries.sent named in
      with-parts es h.service h.summaries s ef f.views rs ss (sums-grow gr f.sums) (traffic-grow gr f.traffic) f.next f.next_safe

  -- a recorder with a view is a member of it, and the view is formed
  here-member : (r : ℕ) → 1 ≤ current h r → has (members_of h (current h r)) r ≡ true
  here-member r low = ⊎_elim (λ z. absurd (omega arith)) (λ m. m) (f.views.current r)

  here_in : (r : ℕ) → 1 ≤ current h r → Between 1 h.size r × (has h.service.created (current h r) ≡ true)
  here_in r low = member-in f.views.in_range (current h r) r (here-member r low)

  view_in : (r : ℕ) → 1 ≤ current h r → current h r ≤ max_number
  view_in r low = f.views.in_range.number_in (current h r) (here_in r low).1

  -- a message at a mark is one of a member, and says what is there
  arrived : (g k : ℕ) (m : Queued) → At (h.service.queue g) k m → QueuedOf h.entries (members_of h) h.summaries.sent g m
  arrived g k m here =
      each_at (QueuedOf h.entries (members_of h) h.summaries.sent g) (h.service.queue g) k m here (f.traffic.queue g).1

-- ## Orders built from summaries

module _ (chosenrep : Choice) (es : Entries) (qs : List ℕ) (y : ℕ → Summary) (ok : (q : ℕ) → SummaryFacts es (y q)) where
  short-names : Names es (has (shortorder chosenrep qs y))
  unfolding shortorder
  short-names = go qs
    where
      go : (qs : List ℕ) → Names es (has (shortorder chosenrep qs y))
      go [] e t = absurd (has-none e t)
      go (q ∷ qs) e t = listed-names es _ (ok (chosenrep (q ∷ qs) y)).order e t

  full-names : Names es (has (fullorder chosenrep es qs y))
  full-names e t =
      ⊎_elim (short-names e) (λ k. let from = known_from qs y e k in (ok from.0).known e from.2) (full-in chosenrep es qs y e t)

  built-names : (primary : Bool) → Names es (has (built_order chosenrep es primary qs y))
  unfolding built_order
  built-names true = full-names
  built-names false = short-names

  built-high : (primary : Bool) (g : ℕ) → g ≤ max_number → built_high primary g qs y ≤ max_number
  unfolding built_high maxprimary
  built-high true g le = le
  built-high false g le = greatest-least (λ q. (y q).high) qs max_number (λ q t. (ok q).high)

  built-confirm : (r : ℕ) → has qs r ≡ true → Between 1 (max_order + 1) (maxnextconfirm qs y)
  unfolding maxnextconfirm
  built-confirm r m = (
    omega (arith, (ok r).confirm.0, greatest-above (λ q. (y q).confirm) qs r m),
    greatest-least (λ q. (y q).confirm) qs (max_order + 1) (λ q t. (ok q).confirm.1),
  )

-- ## The moves

-- the second of two does not hold, if the first does
second : (a b : Bool) → (a && b) ≡ false → a ≡ true → b ≡ false
second true b f t = f
second false b f t = absurd (true≢false (sym t))

module _ (h : Hall) (f : Facts h) where
  keep-submit : (r : ℕ) (a : Payload) → Between 1 h.size r → h.entries.count < max_entries → PayloadIn a → Facts (do_submit h r a).hall
  unfolding do_submit
  keep-submit r a i room carried =
      let es = submit-keeps h.size h.entries f.entries r a i room carried in
      let gr = entries-grow h.entries _ (members_of h) h.summaries.sent es.1 in
      with_entries h f _ h.recorders es.0 es.1 (recorders-grow gr f.recorders) f.sources

  keep-label : (r e : ℕ) → CanLabel h r e → (sequence_full h r || (buffer_full h r || new_label_exists h r)) ≡ false
      → Facts (after_label h r e)
  unfolding labelled upd₂ sequence_full buffer_full new_label_exists
  keep-label r e c room =
      let free = or-none (sequence_full h r) (buffer_full h r || new_label_exists h r) room in
      let more = or-none (buffer_full h r) (new_label_exists h r) free.1 in
      let g = current h r in
      let k = h.recorders.next_seq r in
      let i = (here_in h f r c.in_view).0 in
      let first = first-waiting h.entries r e c.others c.first in
      let view : Between 1 max_number g = (c.in_view, view_in h f r c.in_view) in
      let seq : Between 1 max_sequence k = ((f.recorders.next_seq.holds r).0, ltb-false _ _ free.0) in
      let es = label-keeps h.size h.entries f.entries r e g k first view seq more.1 in
      let rs = recorders-grow (entries-grow h.entries _ (members_of h) h.summaries.sent es.1) f.recorders in
      with_entries h f _ _ es.0 es.1
      (at-known
      (at-buffer (at-next_seq rs i (k + 1) (omega (arith, seq))) i _
      (within-push _ max_buffer (h.recorders.buffer r) e (leb-false _ _ more.0) (rs.buffer.holds r) es.2))
      i _ (names_more _ (h.recorders.known r) e (rs.known.holds r) es.2))
      f.sources

  keep-send-entry : (r e : ℕ) → CanSendEntry h r e → pending_full h r ≡ false → Facts (after_send_entry h r e)
  unfolding gpsnd sent_entry pending_full
  keep-send-entry r e c room =
      let listed = f.recorders.buffer.holds r in
      with-service _
      (with-recorders h f _
      (at-buffer f.recorders (here_in h f r c.in_view).0 _ (listed-rest _ (h.recorders.buffer r) listed)) f.sources)
      _ _ _ _
      (at-pending f.traffic r (current h r) (entry e)
      (here-member h f r c.in_view, listed-names _ (h.recorders.buffer r) listed e (ap (λ l. has l e) c.head ∙ has-head e c.others)) (leb-false _ _ room))
      f.next f.next_safe

  keep-send-summary : (r : ℕ) → CanSendSummary h r → (summary_place_full h r || pending_full h r) ≡ false → Facts (after_send_summary h r)
  unfolding gpsnd sent_summary summary_of pending_full
  keep-send-summary r c room =
      let g = current h r in
      let x = h.summaries in
      let rs = f.recorders in
      let gr : Grows h.entries h.entries (members_of h) (members_of h) x.sent (upd₂ x.sent r g true) =
      record {
        named = λ e t. t;
        member = λ v p t. t;
        sent = upd₂-at (λ p v b. x.sent p v ≡ true → b ≡ true) x.sent r g true (λ t. refl) (λ p v ne t. t);
      } in
      let mine = here-member h f r c.in_view in
      with-parts h f h.entries _ _ _ f.entries f.views (at-phase rs (here_in h f r c.in_view).0 collect)
      (sources-grow gr f.sources)
      (record {
        sent = upd₂-at (λ p v b. b ≡ true → has (members_of h v) p ≡ true) x.sent r g true
            (λ t. mine) (λ p v ne. f.sums.sent p v);
        unsent = at-place₂ _ r g
            (λ t. absurd (not-both (upd₂-same x.sent r g true) t))
            (λ p v ne t.
            upd₂-other x.summary r g _ p v ne ∙ f.sums.unsent p v (sym (upd₂-other x.sent r g true p v ne) ∙ t));
        summary = upd₂-at (λ p v. SummaryFacts h.entries) x.summary r g _
            (record {
              known = rs.known.holds r;
              order = rs.order.holds r;
              confirm = rs.confirm.holds r;
              high = rs.high.holds r;
            })
            (λ p v ne. f.sums.summary p v);
      })
      (at-pending (traffic-grow gr f.traffic) r g summary (mine, upd₂-same x.sent r g true)
      (leb-false _ _ (or-none (summary_place_full h r) (pending_full h r) room).1))
      f.next f.next_safe

  keep-form : (a b : ℕ) → CanForm h a b → Facts (do_form h a b).hall
  unfolding do_form createview exceeds_created
  keep-form a b c =
      let S = members_of h in
      let vs =
      form-keeps h.size h.service.created S (current h) f.views a b c.views_fit (c.counted, c.numbered) c.above
      c.someone c.fits in
      let gr : Grows h.entries h.entries S (upd S a (members h.size b)) h.summaries.sent h.summaries.sent =
      record { named = λ e t. t; member = vs.1; sent = λ p g t. t } in
      with-parts h f h.entries _ h.summaries h.recorders f.entries vs.0 f.recorders (sources-grow gr f.sources)
      (sums-grow gr f.sums) (traffic-grow gr f.traffic) (λ p g. mark-grow vs.2 (f.next p g))
      (λ p g. mark-grow vs.2 (f.next_safe p g))

  keep-enter : (r a : ℕ) → CanEnter h r a → Facts (after_enter h r a)
  unfolding newview entered
  keep-enter r a c =
      let i = (member-in f.views.in_range a r c.member).0 in
      let sent = h.summaries.sent in
      with-parts h f h.entries _ h.summaries _ f.entries
      (record {
        in_range = f.views.in_range;
        current = upd-at (λ p g. (g ≡ 0) ⊎ (has (members_of h g) p ≡ true)) (current h) r a
            (inr c.member) (λ p ne. f.views.current p);
      })
      (at-next_seq
      (at-buffer
      (at-heard (at-safe_sources (at-safe (at-phase f.recorders i send) i none (λ e t. absurd (false≢true t))) _) _)
      i [] (within-nil (Named h.entries) _))
      i 1 (omega arith))
      (record {
        heard = upd-at-both (λ p g s. (q : ℕ) → s q ≡ true → (has (members_of h g) q && sent q g) ≡ true)
            (current h) h.recorders.heard r a none (λ q t. absurd (false≢true t)) (λ p ne. f.sources.heard p);
        safe = upd-at-both (λ p g s. (q : ℕ) → s q ≡ true → has (members_of h g) q ≡ true)
            (current h) h.recorders.safe_sources r a none (λ q t. absurd (false≢true t)) (λ p ne. f.sources.safe p);
      })
      f.sums f.traffic f.next f.next_safe

  keep-order : (r a : ℕ) (m : Message) → CanPlace h r a m → queue_full h a ≡ false → Facts (after_place h r a)
  unfolding vs_order queue_full
  keep-order r a m c room =
      with-service h f _ _ _ _
      (subst₂ (TrafficFacts h.entries (members_of h) h.summaries.sent)
      (sym (order-pending h.service r a m c.others c.head))
      (sym (order-queue h.service r a m c.others c.head))
      (at-queue f.traffic r a m c.others c.head (leb-false _ _ room)))
      f.next f.next_safe

  -- what r receives, or has notice of, is at its mark
  module _ (r : ℕ) (m : Queued) (low : 1 ≤ current h r) (s : Recorders) (rs : RecorderFacts h.size h.entries s)
      (ss : SourceFacts (members_of h) (current h) h.summaries.sent s.heard s.safe_sources) where
    keep-receive : At (h.service.queue (current h r)) (h.service.next r (current h r)) m → Facts (after_receive h r s)
    unfolding gprcv
    keep-receive here =
        with-service _ (with-recorders h f s rs ss) _ _ _ _ f.traffic
        (at_mark f.next r (current h r) (here_in h f r low) _ m here (f.traffic.queue (current h r)).0) f.next_safe

    keep-notice : At (h.service.queue (current h r)) (h.service.next_safe r (current h r)) m → Facts (after_notice h r s)
    unfolding safe
    keep-notice here =
        with-service _ (with-recorders h f s rs ss) _ _ _ _ f.traffic f.next
        (at_mark f.next_safe r (current h r) (here_in h f r low) _ m here (f.traffic.queue (current h r)).0)

  -- a confirm or report mark within the order rises
  mark-up : (r k : ℕ) → 1 ≤ k → k ≤ length (h.recorders.order r) → Between 1 h.size r × Between 1 (max_order + 1) (k + 1)
  mark-up r k low high =
      let o = f.recorders.order in (
        ⊎_elim (λ i. i) (λ out. absurd (omega (arith, ap length (o.blank r out)))) (inside? h.size r),
        omega (arith, (o.holds r).0),
      )

  keep-confirm : (r : ℕ) → CanConfirm h r → Facts (set_recorders (confirmed r h.recorders) h)
  unfolding confirmed
  keep-confirm r c =
      let up = mark-up r _ (f.recorders.confirm.holds r).0 c.in_order in
      with-recorders h f _ (at-confirm f.recorders up.0 _ up.1) f.sources

  keep-deliver : (r : ℕ) → CanDeliver h r → Facts (set_recorders (reported r h.recorders) h)
  unfolding reported
  keep-deliver r c =
      let up = mark-up r _ (f.recorders.report.holds r).0 c.in_order in
      with-recorders h f _ (at-report f.recorders up.0 _ up.1) f.sources

-- receive and safe notices, by what they bring
module _ (rules : Rules) (h : Hall) (f : Facts h) (r q : ℕ) where
  -- an entry becomes known
  learnt-facts : (e : ℕ) → Between 1 h.size r → Named h.entries e → RecorderFacts h.size h.entries (learnt h r e)
  unfolding upd₂
  learnt-facts e i n =
      at-known f.recorders i _ (names_more _ (h.recorders.known r) e (f.recorders.known.holds r) n)

  keep-learnt : (e : ℕ) → CanReceive h r q (entry e) → Facts (after_receive h r (learnt h r e))
  keep-learnt e c =
      keep-receive h f r (queued q (entry e)) c.in_view _
      (learnt-facts e (here_in h f r c.in_view).0 (arrived h f _ _ _ c.here).1) f.sources c.here

  -- and joins the order of a primary view
  keep-joined : (e : ℕ) → CanReceive h r q (entry e) → is_primary h (current h r) ≡ true
      → no_room_to_receive rules h r (queued q (entry e)) ≡ false → Facts (after_receive h r (joined h r e))
  unfolding no_room_to_receive order_full
  keep-joined e c primary room =
      let i = (here_in h f r c.in_view).0 in
      let n = (arrived h f _ _ (queued q (entry e)) c.here).1 in
      keep-receive h f r (queued q (entry e)) c.in_view _
      (at-order (learnt-facts e i n) i _
      (within-push _ max_order (h.recorders.order r) e
      (leb-false _ _ (second (is_primary h (current h r)) _ room primary)) (f.recorders.order.holds r) n))
      f.sources c.here

  -- a summary is heard
  module _ (c : CanReceive h r q summary) where
    abbrev at : Between 1 h.size r
    at = (here_in h f r c.in_view).0

    told-facts : RecorderFacts h.size h.entries (told h r q)
    unfolding heard_summary
    told-facts =
        at-known (at-heard f.recorders _) at _
        (names-join _ (h.recorders.known r) (h.summaries.summary q (current h r)).known (f.recorders.known.holds r)
        (f.sums.summary q (current h r)).known)

    told-sources : SourceFacts (members_of h) (current h) h.summaries.sent (told h r q).heard h.recorders.safe_sources
    unfolding heard_summary
    told-sources =
        let from = arrived h f (current h r) _ (queued q summary) c.here in
        record {
          heard = upd₂-at (λ p x b. b ≡ true → (has (members_of h (current h p)) x && h.summaries.sent x (current h p)) ≡ true)
              h.recorders.heard r q true (λ t. and-true _ _ from.0 from.1) (λ p x ne. f.sources.heard p x);
          safe = f.sources.safe;
        }

    keep-told : Facts (after_receive h r (told h r q))
    unfolding heard_summary
    keep-told = keep-receive h f r (queued q summary) c.in_view _ told-facts told-sources c.here

    -- the last one: the order is built
    keep-built : completes r (members_of h (current h r)) (told h r q) ≡ true
        → no_room_to_receive rules h r (queued q summary) ≡ false
        → Facts (after_receive h r (built_at rules h r (told h r q) (current h r)))
    unfolding established heard_summary no_room_to_receive built_too_long summaries_of
    keep-built last room =
        let g = current h r in
        let y = summaries_of h g in
        let ok : (q : ℕ) → SummaryFacts h.entries (y q) = λ q. f.sums.summary q g in
        let rep = rules.chosenrep g in
        let ms = members_of h g in
        let primary = is_primary h g in
        keep-receive h f r (queued q summary) c.in_view _
        (at-confirm
        (at-order
        (at_high (at-phase told-facts at normal) at _ (built-high rep h.entries ms y ok primary g (view_in h f r c.in_view)))
        at _ (
          ltb-false _ _ (second (completes r ms (told h r q)) _ room last),
          names-listed h.entries _ (built-names rep h.entries ms y ok primary),
        ))
        at _ (built-confirm rep h.entries ms y ok r (here-member h f r c.in_view)))
        told-sources c.here

  -- a notice of an entry in a primary view
  keep-safe : (e : ℕ) → CanNotice h r q (entry e) → Facts (after_notice h r (set_safe (upd₂ h.recorders.safe r e true) h.recorders))
  unfolding upd₂
  keep-safe e c =
      keep-notice h f r (queued q (entry e)) c.in_view _
      (at-safe f.recorders (here_in h f r c.in_view).0 _
      (names_more _ (h.recorders.safe r) e (f.recorders.safe.holds r) (arrived h f _ _ (queued q (entry e)) c.here).1))
      f.sources c.here

  -- a notice of a summary
  module _ (c : CanNotice h r q summary) where
    safe-sources : SourceFacts (members_of h) (current h) h.summaries.sent h.recorders.heard (safe_from h r q).safe_sources
    safe-sources =
        record {
          heard = f.sources.heard;
          safe = upd₂-at (λ p x b. b ≡ true → has (members_of h (current h p)) x ≡ true) h.recorders.safe_sources r q true
              (λ t. (arrived h f (current h r) _ (queued q summary) c.here).0) (λ p x ne. f.sources.safe p x);
        }

    keep-source : Facts (after_notice h r (safe_from h r q))
    keep-source =
        keep-notice h f r (queued q summary) c.in_view _ (at-safe_sources f.recorders _) safe-sources c.here

    keep-all-safe : Facts
        (after_notice h r
        (set_safe (upd h.recorders.safe r (λ e. h.recorders.safe r e || has (heard_order rules h r (current h r)) e))
        (safe_from h r q)))
    unfolding summaries_of
    keep-all-safe =
        let g = current h r in
        keep-notice h f r (queued q summary) c.in_view _
        (at-safe (at-safe_sources f.recorders _) (here_in h f r c.in_view).0 _
        (names-join _ (h.recorders.safe r) (has (heard_order rules h r g)) (f.recorders.safe.holds r)
        (full-names (rules.chosenrep g) h.entries (heard_sources r (members_of h g) h.recorders) (summaries_of h g)
        (λ q. f.sums.summary q g))))
        safe-sources c.here

-- every move for which there is room keeps the facts, if payloads stay in range
pub facts-keep : (rules : Rules) (h h' : Hall) (m : Move rules h h') → Fits m → ((e : ℕ) → PayloadIn (h'.entries.payload e))
    → Facts h → Facts h'
unfolding do_submit Fits is_full
facts-keep rules h _ (submits r a low high more) room carried f =
    let n = h.entries.count + 1 in
    keep-submit h f r a (low, high) more (subst PayloadIn (upd_same h.entries.payload n a) (carried n))
facts-keep rules h _ (labels r e c) room carried f = keep-label h f r e c room
facts-keep rules h _ (sends_entry r e c) room carried f = keep-send-entry h f r e c room
facts-keep rules h _ (sends_summary r c) room carried f = keep-send-summary h f r c room
facts-keep rules h _ (forms a b c) room carried f = keep-form h f a b c
facts-keep rules h _ (enters r a c) room carried f = keep-enter h f r a c
facts-keep rules h _ (places r a m c) room carried f = keep-order h f r a m c room
facts-keep rules h _ (receives r q e c t) room carried f = keep-learnt rules h f r q e c
facts-keep rules h _ (receives_primary r q e c t) room carried f = keep-joined rules h f r q e c t room
facts-keep rules h _ (hears r q c t) room carried f = keep-told rules h f r q c
facts-keep rules h _ (hears_last r q c t) room carried f = keep-built rules h f r q c t room
facts-keep rules h _ (notices r q e c t) room carried f =
    keep-notice h f r (queued q (entry e)) c.in_view h.recorders f.recorders f.sources c.here
facts-keep rules h _ (notices_primary r q e c t) room carried f = keep-safe rules h f r q e c
facts-keep rules h _ (notices_summary r q c t) room carried f = keep-source rules h f r q c
facts-keep rules h _ (notices_last r q c t u) room carried f = keep-all-safe rules h f r q c
facts-keep rules h _ (confirms r c) room carried f = keep-confirm h f r c
facts-keep rules h _ (delivers r c) room carried f = keep-deliver h f r c
