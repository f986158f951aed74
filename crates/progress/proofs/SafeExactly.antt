-- What a recorder has had notice of in its primary current view is safe: the entries noticed, and the order of the view once
-- every member's summary is noticed. Of the opened hall, over each move, hence of every reached hall.
-- Assumes nothing.
use Prim.Native.Nat.{ℕ, ◌≤◌, ◌-◌}
use native.Mathlib.Omega.{arith}
use mathlib.Core.Path.{◌≡◌, refl, sym, ap, ◌∙◌}
use mathlib.Core.Logic.{◌⊎◌, inl, inr, ⊎_elim}
use mathlib.Core.Bool.{Bool, true, false, true≢false, ◌&&◌, ◌||◌}
use mathlib.Core.List.{List, [], ◌∷◌, ◌++◌, append-nil}
use lib.ListN.{take}
use Rattle.base.specs.Lists.{has, all}
use Rattle.base.specs.Update.{upd, upd₂}
use Rattle.base.proofs.Bools.{not-both, and-true, or_left, or_right}
use Rattle.base.proofs.ListsLaws.{has-none, has-cons, has_either, has_all}
use Rattle.base.proofs.UpdateLaws.{at_place, upd_same, upd_other, upd-at, upd₂-same, upd₂-other, upd₂-at}
use Rattle.model.specs.Hall.{Message, Queued, Service, Recorders, Hall}
use Rattle.model.specs.Fields
use Rattle.model.specs.Service.{createview, newview, gpsnd, vs_order, gprcv, safe}
use Rattle.model.specs.Ordering.{labelled, sent_entry, sent_summary, entered, heard_summary, heard_sources, fullorder, established, confirmed, reported}
use Rattle.model.specs.Refusals.{Rules, holds_quorum, is_primary, summaries_of}
use Rattle.model.specs.Actions.{do_submit, do_form}
use Rattle.model.specs.Opening.{Opening, open_hall, open_service, opened, founder_set}
use Rattle.model.specs.Call.{Words}
use Rattle.model.specs.Run.{run}
use Rattle.model.specs.Agreed.{FairRules}
use Rattle.quorum.specs.Sets.{members}
use Rattle.model.proofs.Accepting.Moves
use Rattle.model.proofs.Accepting.Moves.{current, members_of, queued, Move, submits, labels, sends_entry, sends_summary, forms, enters, places, receives, receives_primary, hears, hears_last, notices, notices_primary, notices_summary, notices_last, confirms, delivers, CanForm, CanEnter, CanNotice, safe_from, heard_order}
use Rattle.model.proofs.Accepting.Accepted.{run-keeps}
use Rattle.model.proofs.Agreement.State.{entry_of, entries_in, is_summary, summary_in, received, noticed, full}
use Rattle.model.proofs.Agreement.Invariants.{est_of, Inv}
use Rattle.model.proofs.Agreement.Traffic.{entries_in-append, summary-either, summary_in-begins, summary-one, summary-at, noticed-here, noticed-safe, noticed-order}
use Rattle.model.proofs.Agreement.Evolve.{noticed-begins}
use Rattle.model.proofs.Agreement.Growth.{grows, full-later}
use Rattle.model.proofs.Agreement.KeepViews.{formed_below}
use Rattle.model.proofs.Agreement.KeepOrders.{primary-member}
use Rattle.model.proofs.Agreement.KeepSafes.{filter-all}
use Rattle.model.proofs.Agreement.Reached.{inv-keep, inv-opened}

-- what p has had notice of in its current view
abbrev pub noticed_at : Hall → ℕ → List Queued
noticed_at h p = noticed h.service p (current h p)

-- each member's summary is among it
abbrev pub AllNoticed : Hall → ℕ → Type 0
AllNoticed h p = (q : ℕ) → has (members_of h (current h p)) q ≡ true → summary_in (noticed_at h p) q ≡ true

pub record ExactAt (rules : Rules) (h : Hall) (p : ℕ) : Type 0 where
  pub entries_safe : is_primary h (current h p) ≡ true → (e : ℕ) → has (entries_in (noticed_at h p)) e ≡ true
      → h.recorders.safe p e ≡ true
  pub sources_safe : (q : ℕ) → summary_in (noticed_at h p) q ≡ true → h.recorders.safe_sources p q ≡ true
  pub full_safe : is_primary h (current h p) ≡ true → AllNoticed h p → (e : ℕ) → has (full rules h (current h p)) e ≡ true
      → h.recorders.safe p e ≡ true

abbrev pub SafeExactly : Rules → Hall → Type 0
SafeExactly rules h = (p : ℕ) → ExactAt rules h p

-- ## The opened hall

-- nothing is noticed there
nothing-noticed : (rules : Rules) (h : Hall) (p : ℕ) → noticed_at h p ≡ [] → ExactAt rules h p
unfolding entries_in summary_in
nothing-noticed rules h p none =
    record {
      entries_safe = λ t e m. absurd (has-none e (ap (λ l. has (entries_in l) e) (sym none) ∙ m));
      sources_safe = λ q m. absurd (not-both m (ap (λ l. summary_in l q) none));
      full_safe = λ t f e m.
          let q = primary-member rules h (current h p) t in
          absurd (not-both (f q.0 q.1) (ap (λ l. summary_in l q.0) none));
    }

safe-open : (rules : Rules) (n : ℕ) (votes : ℕ → ℕ) (founders : List ℕ) → SafeExactly rules (open_hall n votes founders)
unfolding open_hall open_service noticed
safe-open rules n votes founders p = nothing-noticed rules (open_hall n votes founders) p refl

-- ## Moves

-- a primary current view is a view, and p is in it
in-primary : (rules : Rules) (h : Hall) → Inv rules h → (p : ℕ) → is_primary h (current h p) ≡ true → 1 ≤ current h p
in-primary rules h inv p t =
    let g = current h p in
    let m = primary-member rules h g t in
    inv.views.counted g (inv.views.listed g m.0 m.1)

-- who has had notice of all summaries has established the view
all-est : (rules : Rules) (h : Hall) → Inv rules h → (p : ℕ) → 1 ≤ current h p → AllNoticed h p → est_of h p (current h p)
all-est rules h inv p low f =
    let g = current h p in
    let here = inv.views.here p low in
    record {
      member = here;
      told = inr (λ q m. summary_in-begins q (noticed-begins h inv.views inv.marks p p g here) (f q m));
    }

module _ (rules : Rules) (h h' : Hall) (mv : Move rules h h') (inv : Inv rules h) where
  -- p's view and its notices stay
  at-still : (p : ℕ) → current h' p ≡ current h p → noticed h'.service p (current h p) ≡ noticed_at h p
      → members_of h' (current h p) ≡ members_of h (current h p)
      → is_primary h' (current h p) ≡ is_primary h (current h p)
      → ((e : ℕ) → h.recorders.safe p e ≡ true → h'.recorders.safe p e ≡ true)
      → ((q : ℕ) → h.recorders.safe_sources p q ≡ true → h'.recorders.safe_sources p q ≡ true)
      → ExactAt rules h p → ExactAt rules h' p
  at-still p cur ntc mem prim safes sources was =
      let g = current h p in
      let now : noticed_at h' p ≡ noticed_at h p = ap (noticed h'.service p) cur ∙ ntc in
      let primary : is_primary h' (current h' p) ≡ true → is_primary h g ≡ true = λ t. sym prim ∙ ap (is_primary h') (sym cur) ∙ t in
      record {
        entries_safe = λ t e m. safes e (was.entries_safe (primary t) e (ap (λ l. has (entries_in l) e) (sym now) ∙ m));
        sources_safe = λ q m. sources q (was.sources_safe q (ap (λ l. summary_in l q) (sym now) ∙ m));
        full_safe = λ t f e m.
            let prev : AllNoticed h p = λ q k.
            ap (λ l. summary_in l q) (sym now) ∙ f q (ap (λ l. has l q) (ap (members_of h') cur ∙ mem) ∙ k) in
            let est = all-est rules h inv p (in-primary rules h inv p (primary t)) prev in
            safes e
            (was.full_safe (primary t) prev e
            (ap (λ l. has l e) (sym (ap (full rules h') cur ∙ (grows rules h h' mv inv).full_same p g est)) ∙ m));
      }

  -- a move that forms no view, and leaves all that is spoken of here alone
  quiet : current h' ≡ current h → noticed h'.service ≡ noticed h.service → members_of h' ≡ members_of h
      → is_primary h' ≡ is_primary h → h'.recorders.safe ≡ h.recorders.safe
      → h'.recorders.safe_sources ≡ h.recorders.safe_sources → SafeExactly rules h → SafeExactly rules h'
  quiet cur ntc mem prim safes sources was p =
      at-still p (ap (λ f. f p) cur) (ap (λ f. f p (current h p)) ntc) (ap (λ f. f (current h p)) mem)
      (ap (λ f. f (current h p)) prim) (λ e t. ap (λ f. f p e) safes ∙ t) (λ q t. ap (λ f. f p q) sources ∙ t) (was p)

module _ (rules : Rules) (h : Hall) (inv : Inv rules h) where
  abbrev sv : Service
  sv = h.service

  safe-form : (a b : ℕ) → CanForm h a b → SafeExactly rules h → SafeExactly rules (do_form h a b).hall
  unfolding do_form createview noticed is_primary
  safe-form a b c was p =
      let g = current h p in
      let ms = members h.size b in
      let other : g ≡ a → ⊥ = λ e.
      let low = c.counted in
      let lt = formed_below h inv.views a c.above g (inv.views.listed g p (inv.views.here p (omega arith))) in
      omega arith in
      let same : upd sv.members a ms g ≡ sv.members g = upd_other sv.members a ms g other in
      at-still rules h (do_form h a b).hall (forms a b c) inv p refl refl same (ap (holds_quorum h.votes h.size) same)
      (λ e t. t) (λ q t. t) (was p)

  safe-enter : (r a : ℕ) → CanEnter h r a → SafeExactly rules h → SafeExactly rules (Moves.after_enter h r a)
  unfolding newview entered noticed is_primary
  safe-enter r a c was =
      let h₁ = Moves.after_enter h r a in
      at_place (ExactAt rules h₁) r
      (nothing-noticed rules h₁ r
      (ap (λ g. noticed sv r g) (upd_same sv.current r a) ∙ ap (λ k. take (k - 1) (sv.queue a)) (inv.marks.fresh r a c.above).1))
      (λ p ne.
      at-still rules h h₁ (enters r a c) inv p (upd_other sv.current r a p ne) refl refl refl
      (λ e t. ap (λ f. f e) (upd_other h.recorders.safe r (λ e. false) p ne) ∙ t)
      (λ q t. ap (λ f. f q) (upd_other h.recorders.safe_sources r (λ q. false) p ne) ∙ t) (was p))

  -- safe sources only grow
  source_more : (r q p x : ℕ) → h.recorders.safe_sources p x ≡ true → (safe_from h r q).safe_sources p x ≡ true
  source_more r q =
      upd₂-at (λ p x b. h.recorders.safe_sources p x ≡ true → b ≡ true) h.recorders.safe_sources r q true (λ t. refl) (λ p x ne t. t)

  -- a notice of m from q at r: what r has had notice of is m more, and nothing else changes
  module _ (r q : ℕ) (m : Message) (c : CanNotice h r q m) (s : Recorders) (mv : Move rules h (Moves.after_notice h r s))
      (was : SafeExactly rules h) where
    abbrev next : Hall
    next = Moves.after_notice h r s

    now : noticed_at next r ≡ noticed_at h r ++ (queued q m ∷ [])
    unfolding safe
    now = noticed-here sv r (queued q m) c.here

    -- the others' safe labels and sources stay
    others : ((p e : ℕ) → (p ≡ r → ⊥) → h.recorders.safe p e ≡ true → s.safe p e ≡ true)
        → ((p x : ℕ) → (p ≡ r → ⊥) → h.recorders.safe_sources p x ≡ true → s.safe_sources p x ≡ true)
        → ExactAt rules next r → SafeExactly rules next
    unfolding safe is_primary
    others safes sources here =
        at_place (ExactAt rules next) r here
        (λ p ne.
        at-still rules h next mv inv p refl
        (ap (λ f. f p (current h p)) (noticed-safe sv r (queued q m) c.here) ∙ upd₂-other (noticed sv) r (current h r) _ p (current h p) (λ e v. ne e))
        refl refl (λ e t. safes p e ne t) (λ x t. sources p x ne t) (was p))

    -- an entry noticed by r was noticed before or is m, and so is a summary
    entry_new : (e : ℕ) → has (entries_in (noticed_at next r)) e ≡ true
        → (has (entries_in (noticed_at h r)) e ≡ true) ⊎ (has (entry_of m) e ≡ true)
    unfolding entries_in
    entry_new e t =
        ⊎_elim inl (λ k. inr (ap (λ l. has l e) (sym (append-nil (entry_of m))) ∙ k))
        (has_either (entries_in (noticed_at h r)) (entry_of m ++ []) e
        (ap (λ l. has l e) (sym (ap entries_in now ∙ entries_in-append (noticed_at h r) (queued q m ∷ []))) ∙ t))

    source-new : (x : ℕ) → summary_in (noticed_at next r) x ≡ true
        → (summary_in (noticed_at h r) x ≡ true) ⊎ ((x ≡ q) × (is_summary m ≡ true))
    source-new x t =
        ⊎_elim inl (λ k. inr (summary-one x q m k))
        (summary-either (noticed_at h r) (queued q m ∷ []) x (ap (λ l. summary_in l x) (sym now) ∙ t))

  -- of an entry: no source is new
  module _ (r q e : ℕ) (c : CanNotice h r q (Message.entry e)) (s : Recorders) (mv : Move rules h (Moves.after_notice h r s))
      (was : SafeExactly rules h) where
    source-old : (x : ℕ) → summary_in (noticed_at (Moves.after_notice h r s) r) x ≡ true → summary_in (noticed_at h r) x ≡ true
    unfolding is_summary
    source-old x t =
        ⊎_elim (λ k. k) (λ k. absurd (true≢false (sym k.1))) (source-new r q (Message.entry e) c s mv was x t)

  safe-plain : (r q e : ℕ) (c : CanNotice h r q (Message.entry e)) (f : is_primary h (current h r) ≡ false) → SafeExactly rules h
      → SafeExactly rules (Moves.after_notice h r h.recorders)
  unfolding safe is_primary
  safe-plain r q e c f was =
      let mv = notices r q e c f in
      others r q (Message.entry e) c h.recorders mv was (λ p e ne t. t) (λ p x ne t. t)
      (record {
        entries_safe = λ t. absurd (not-both t f);
        sources_safe = λ x t. (was r).sources_safe x (source-old r q e c h.recorders mv was x t);
        full_safe = λ t. absurd (not-both t f);
      })

  safe-entry : (r q e : ℕ) (c : CanNotice h r q (Message.entry e)) (f : is_primary h (current h r) ≡ true) → SafeExactly rules h
      → SafeExactly rules (Moves.after_notice h r (Fields.set_safe (upd₂ h.recorders.safe r e true) h.recorders))
  unfolding safe is_primary full summaries_of entry_of
  safe-entry r q e c f was =
      let mv = notices_primary r q e c f in
      let s = Fields.set_safe (upd₂ h.recorders.safe r e true) h.recorders in
      let more : (p d : ℕ) → h.recorders.safe p d ≡ true → upd₂ h.recorders.safe r e true p d ≡ true =
      upd₂-at (λ p d b. h.recorders.safe p d ≡ true → b ≡ true) h.recorders.safe r e true (λ t. refl) (λ p d ne t. t) in
      others r q (Message.entry e) c s mv was (λ p d ne t. more p d t) (λ p x ne t. t)
      (record {
        entries_safe = λ t d k.
            ⊎_elim (λ k. more r d ((was r).entries_safe t d k))
            (λ k.
            ⊎_elim (λ v. ap (upd₂ h.recorders.safe r e true r) v ∙ upd₂-same h.recorders.safe r e true) (λ n. absurd (has-none d n))
            (has-cons e [] d k))
            (entry_new r q (Message.entry e) c s mv was d k);
        sources_safe = λ x t. (was r).sources_safe x (source-old r q e c s mv was x t);
        full_safe = λ t g d k. more r d ((was r).full_safe t (λ x m. source-old r q e c s mv was x (g x m)) d k);
      })

  -- of a summary: no entry is new, and its source is safe
  module _ (r q : ℕ) (c : CanNotice h r q Message.summary) (s : Recorders) (mv : Move rules h (Moves.after_notice h r s))
      (was : SafeExactly rules h) where
    entry_old : (e : ℕ) → has (entries_in (noticed_at (Moves.after_notice h r s) r)) e ≡ true → has (entries_in (noticed_at h r)) e ≡ true
    unfolding entry_of
    entry_old e t = ⊎_elim (λ k. k) (λ k. absurd (has-none e k)) (entry_new r q Message.summary c s mv was e t)

    source-safe : (x : ℕ) → summary_in (noticed_at (Moves.after_notice h r s) r) x ≡ true → (safe_from h r q).safe_sources r x ≡ true
    source-safe x t =
        ⊎_elim
        (λ k. source_more r q r x ((was r).sources_safe x k))
        (λ k. ap (upd₂ h.recorders.safe_sources r q true r) k.0 ∙ upd₂-same h.recorders.safe_sources r q true)
        (source-new r q Message.summary c s mv was x t)

  safe-summary : (r q : ℕ) (c : CanNotice h r q Message.summary)
      (f : (all ((safe_from h r q).safe_sources r) (members_of h (current h r)) && is_primary h (current h r)) ≡ false) → SafeExactly rules h
      → SafeExactly rules (Moves.after_notice h r (safe_from h r q))
  unfolding safe is_primary
  safe-summary r q c f was =
      let mv = notices_summary r q c f in
      let s = safe_from h r q in
      let ms = members_of h (current h r) in
      others r q Message.summary c s mv was (λ p e ne t. t) (λ p x ne t. source_more r q p x t)
      (record {
        entries_safe = λ t e k. (was r).entries_safe t e (entry_old r q c s mv was e k);
        sources_safe = source-safe r q c s mv was;
        full_safe = λ t g e k.
            absurd
            (not-both
            (and-true (all (s.safe_sources r) ms) (is_primary h (current h r))
            (has_all (s.safe_sources r) ms (λ x m. source-safe r q c s mv was x (g x m))) t)
            f);
      })

  -- the last summary in a primary view: r has heard all members, so the order of what it heard is the view's
  module _ (r q : ℕ) (c : CanNotice h r q Message.summary)
      (a : all ((safe_from h r q).safe_sources r) (members_of h (current h r)) ≡ true) (f : is_primary h (current h r) ≡ true) where
    abbrev order_safe : ℕ → Bool
    order_safe e = h.recorders.safe r e || has (heard_order rules h r (current h r)) e

    abbrev last : Recorders
    last = Fields.set_safe (upd h.recorders.safe r order_safe) (safe_from h r q)

    -- r's safe labels grow
    last-safe : (p e : ℕ) → h.recorders.safe p e ≡ true → last.safe p e ≡ true
    last-safe p e =
        upd-at (λ p (k : ℕ → Bool). h.recorders.safe p e ≡ true → k e ≡ true) h.recorders.safe r order_safe
        (λ t. or_left (h.recorders.safe r e) (has (heard_order rules h r (current h r)) e) t) (λ p ne t. t) p

    last-order : Inv rules (Moves.after_notice h r last) → AllNoticed (Moves.after_notice h r last) r
        → full rules h (current h r) ≡ heard_order rules h r (current h r)
    unfolding heard_sources safe received
    last-order inv' g =
        let v = current h r in
        let later : v ≡ 1 → ⊥ =
        inv.exchange.sent_later q v (inv.exchange.queued_sent q v (summary-at (sv.queue v) (sv.next_safe r v) q c.here)) in
        let here = inv.views.here r c.in_view in
        full-later rules h v later
        ∙ ap (λ l. fullorder (rules.chosenrep v) h.entries l (summaries_of h v))
        (sym
        (filter-all (h.recorders.heard r) (sv.members v)
        (λ y my.
        inv.exchange.heard_is r y c.in_view
        ∙ summary_in-begins y (noticed-begins (Moves.after_notice h r last) inv'.views inv'.marks r r v here) (g y my))))

    safe-last : Inv rules (Moves.after_notice h r last) → SafeExactly rules h → SafeExactly rules (Moves.after_notice h r last)
    unfolding safe is_primary full summaries_of
    safe-last inv' was =
        let mv = notices_last r q c a f in
        others r q Message.summary c last mv was (λ p e ne t. last-safe p e t) (λ p x ne t. source_more r q p x t)
        (record {
          entries_safe = λ t e k. last-safe r e ((was r).entries_safe t e (entry_old r q c last mv was e k));
          sources_safe = source-safe r q c last mv was;
          full_safe = λ t g e k.
              ap (λ (k : ℕ → Bool). k e) (upd_same h.recorders.safe r order_safe)
              ∙ or_right (h.recorders.safe r e) (has (heard_order rules h r (current h r)) e)
              (ap (λ l. has l e) (sym (last-order inv' g)) ∙ k);
        })

safe-keep : (rules : Rules) (h h' : Hall) → Move rules h h' → Inv rules h → Inv rules h' → SafeExactly rules h → SafeExactly rules h'
unfolding do_submit gpsnd vs_order gprcv labelled sent_entry sent_summary heard_summary established noticed confirmed reported is_primary
safe-keep rules h _ (submits r a x y z) inv inv' was = quiet rules h _ (submits r a x y z) inv refl refl refl refl refl refl was
safe-keep rules h _ (labels r e c) inv inv' was = quiet rules h _ (labels r e c) inv refl refl refl refl refl refl was
safe-keep rules h _ (sends_entry r e c) inv inv' was = quiet rules h _ (sends_entry r e c) inv refl refl refl refl refl refl was
safe-keep rules h _ (sends_summary r c) inv inv' was = quiet rules h _ (sends_summary r c) inv refl refl refl refl refl refl was
safe-keep rules h _ (forms a b c) inv inv' was = safe-form rules h inv a b c was
safe-keep rules h _ (enters r a c) inv inv' was = safe-enter rules h inv r a c was
safe-keep rules h _ (places r a m c) inv inv' was =
    quiet rules h _ (places r a m c) inv refl (noticed-order h.service r a inv.marks.high_safe) refl refl refl refl was
safe-keep rules h _ (receives r q e c p) inv inv' was = quiet rules h _ (receives r q e c p) inv refl refl refl refl refl refl was
safe-keep rules h _ (receives_primary r q e c p) inv inv' was =
    quiet rules h _ (receives_primary r q e c p) inv refl refl refl refl refl refl was
safe-keep rules h _ (hears r q c p) inv inv' was = quiet rules h _ (hears r q c p) inv refl refl refl refl refl refl was
safe-keep rules h _ (hears_last r q c p) inv inv' was = quiet rules h _ (hears_last r q c p) inv refl refl refl refl refl refl was
safe-keep rules h _ (notices r q e c p) inv inv' was = safe-plain rules h inv r q e c p was
safe-keep rules h _ (notices_primary r q e c p) inv inv' was = safe-entry rules h inv r q e c p was
safe-keep rules h _ (notices_summary r q c p) inv inv' was = safe-summary rules h inv r q c p was
safe-keep rules h _ (notices_last r q c p s) inv inv' was = safe-last rules h inv r q c p s inv' was
safe-keep rules h _ (confirms r c) inv inv' was = quiet rules h _ (confirms r c) inv refl refl refl refl refl refl was
safe-keep rules h _ (delivers r c) inv inv' was = quiet rules h _ (delivers r c) inv refl refl refl refl refl refl was

-- ## Reached halls

pub safe-opened : (rules : Rules) (o : Opening) → SafeExactly rules (opened o)
unfolding opened
safe-opened rules o = safe-open rules o.size _ (founder_set o)

pub safe-run : (rules : Rules) → FairRules rules → (o : Opening) (ws : List Words) → SafeExactly rules (run rules (opened o) ws)
safe-run rules fair o ws =
    (run-keeps rules (λ h. Inv rules h × SafeExactly rules h) (λ h p. (p.0.marks.low, p.0.marks.low_safe))
    (λ h h' m p. let inv' = inv-keep rules fair h h' m p.0 in (inv', safe-keep rules h h' m p.0 inv' p.1))
    (opened o) ws (inv-opened rules o, safe-opened rules o)).1
