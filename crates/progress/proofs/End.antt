-- A hall whose turn in the greatest view finds nothing: what each member of that view has then done.
-- Assumes nothing.
use Prim.Native.Nat.{ℕ, ◌+◌, ◌-◌, ◌≤◌, ◌<◌}
use native.Mathlib.Omega.{arith}
use mathlib.Core.Path.{◌≡◌, refl, sym, ap, ap₂, ◌∙◌, subst}
use mathlib.Core.Logic.{inl, inr, ⊎_elim}
use mathlib.Core.Bool.{Bool, true, false, true≢false, not, ◌||◌}
use mathlib.Core.List.{List, [], ◌∷◌, ◌++◌, append-nil}
use lib.Dec.{eqb, leb, ltb}
use lib.ListN.{length, get_or}
use lib.Seq.{take_all}
use borrow.Author.Tests.{eq-eqb, ne_eqb, leb-true, leb-false, ltb-true, ltb-false, lt-ltb, le-ltb, not-true, not-false}
use Rattle.base.specs.Lists.{has, nth, is_empty}
use Rattle.base.specs.Chains.{refuse, ◌⨾◌}
use Rattle.base.proofs.Bools.{by_cases, not-both, or_right}
use Rattle.base.proofs.ListsLaws.{has-none, has-head, has_left, has_right, has_either, has_all, key_has, in-filter, head-rest}
use Rattle.base.proofs.ChainsLaws.{passes, first_passes}
use Rattle.base.proofs.UpdateLaws.{same?}
use Rattle.model.specs.Hall.{Message, Phase, normal, send, collect, Hall}
use Rattle.model.specs.Service.{is_created, is_member, has_pending, can_receive, has_unsafe, received_by_all}
use Rattle.model.specs.Kinds.{Kind, label, send_entry, send_summary, place, receive, notice, confirm, deliver, recorder, unused, uses, input_refusal}
use Rattle.model.specs.Ordering.{is_labelled, waiting}
use Rattle.model.specs.Refusals.{Rules, is_primary, is_normal, is_send, no_view, not_normal, not_send, cannot_label, none_waiting, buffer_empty, none_pending, none_to_receive, none_to_notice, not_formed, not_member, order_ends, all_reported, not_received_by_all, order_at, not_safe, not_known, buffer_head, state_refusal}
use Rattle.model.specs.Agreed.{FairRules}
use Rattle.model.specs.Actions.{refusal}
use Rattle.model.specs.Call.{words_of}
use Rattle.model.specs.Settle.{greatest_view, settle_kinds, settle_call, settle_calls, is_in_view, none, turn_of}
use Rattle.model.proofs.Accepting.Moves.{current, members_of}
use Rattle.model.proofs.Accepting.Performed.{number_of}
use Rattle.model.proofs.Agreement.State.{entries_in, entries_from, entries_of, has_summary, summary_in, received, noticed, full, built}
use Rattle.model.proofs.Agreement.Invariants.{est_of, Inv}
use Rattle.model.proofs.Agreement.Rows.{row_with}
use Rattle.model.proofs.Agreement.Arrival.{row_in, row-find, from_in}
use Rattle.model.proofs.Agreement.Growth.{full-first, full-later}
use Rattle.model.proofs.Agreement.FullView.{long-has}
use Rattle.model.proofs.Agreement.EntryLaws.{of_sender, of-sender-in, test-labelled, waiting-is}
use Rattle.model.proofs.Agreement.Delivered.{reported_entries}
use Rattle.model.proofs.Ordering.Labels.{Labelled, InRow}
use Rattle.model.proofs.Settling.TurnLaws.{number_at, Passed, Finds, finds, under-call}
use Rattle.store.specs.Valid.{ValidHall}
use Rattle.progress.proofs.Once.{OnceOf, sent-queued}
use Rattle.progress.proofs.SafeExactly.{noticed_at, SafeExactly}
use Rattle.progress.proofs.GreatestView.{formed-low, greatest-number, member-formed, members-in}
use Rattle.progress.proofs.AllEntered.{number_is, no_words, view-word, all-entered}

-- ## Chains that are passed over

-- a number that is neither 0 nor 40
abbrev Over : ℕ → Type 0
Over n = (n ≡ 0 → ⊥) × (n ≡ 40 → ⊥)

-- what is left of such a chain after a link that does not refuse
over-next : (t : Bool) (n k : ℕ) → Over (refuse t n ⨾ k) → t ≡ false → Over k
over-next t n k o f = let e = passes t n k f in (λ z. o.0 (e ∙ z), λ z. o.1 (e ∙ z))

-- its first link refuses, if the rest is no such chain
over_first : (t : Bool) (n k : ℕ) → Over (refuse t n ⨾ k) → (Over k → ⊥) → t ≡ true
over_first t n k o rest = by_cases t (λ e. e) (λ e. absurd (rest (over-next t n k o e)))

-- its last link refuses
over_last : (t : Bool) (n : ℕ) → Over (refuse t n) → t ≡ true
unfolding refuse
over_last true n o = refl
over_last false n o = absurd (o.0 refl)

-- a link of 40 alone is no such chain
over-full : (t : Bool) → Over (refuse t 40) → ⊥
unfolding refuse
over-full true o = o.1 refl
over-full false o = o.0 refl

-- ## Lists

is-empty : {A : Type 0} (xs : List A) → is_empty xs ≡ true → xs ≡ []
unfolding is_empty
is-empty [] e = refl
is-empty (x ∷ xs) e = absurd (true≢false (sym e))

-- ## Each call is passed over

module _ (rules : Rules) (h : Hall) (valid : ValidHall h) (ended : turn_of rules h (greatest_view h) ≡ none) where
  abbrev g : ℕ
  g = greatest_view h

  abbrev ms : List ℕ
  ms = h.service.members g

  passed : (k r : ℕ) → has settle_kinds k ≡ true → has ms r ≡ true → Passed rules h g (settle_call g k r)
  unfolding Finds turn_of settle_calls
  passed k r i m =
      under-call (Passed rules h g) g ms settle_kinds k r
      (subst (Finds rules h g (settle_calls g ms)) ended (finds rules h g (settle_calls g ms))) i m

  -- 6
  pub end-entered : (r : ℕ) → has ms r ≡ true → current h r ≡ g
  unfolding settle_kinds has
  end-entered = all-entered rules h valid (λ r m. passed 6 r refl m)

  -- so no call of kind κ at member r has number 0 or 40; 12 to 15 do not concern it
  over : (κ : Kind) (r a : ℕ) → has ms r ≡ true → has settle_kinds (number_of κ) ≡ true
      → settle_call g (number_of κ) r ≡ words_of (number_of κ) r a 0 → input_refusal h.size κ r a 0 ≡ 0
      → Over (state_refusal rules h κ r a)
  unfolding is_in_view refusal settle_call
  over κ r a m i words input =
      let p = passed (number_of κ) r i m (or_right (eqb (number_of κ) 6) (eqb (current h r) g) (eq-eqb (current h r) g (end-entered r m))) in
      let e : number_at rules h (settle_call g (number_of κ) r) ≡ state_refusal rules h κ r a =
      ap (number_at rules h) words ∙ number_is rules h κ r a 0 ∙ first_passes _ _ input in
      (λ z. p.0 (e ∙ z), λ z. p.1 (e ∙ z))

  -- of a kind that uses no word but R
  over_plain : (κ : Kind) (r : ℕ) → has ms r ≡ true → has settle_kinds (number_of κ) ≡ true
      → settle_call g (number_of κ) r ≡ words_of (number_of κ) r 0 0 → uses κ ≡ record { r = recorder; a = unused; b = unused }
      → Over (state_refusal rules h κ r 0)
  over_plain κ r m i words u =
      let inside = members-in h valid g r m in
      over κ r 0 m i words (no_words h.size r inside.0 inside.1 κ u)

  in-view : (r : ℕ) → has ms r ≡ true → 1 ≤ current h r
  in-view r m = let low = formed-low h valid g (member-formed h valid g r m) in omega (arith, end-entered r m)

  has-view : (r : ℕ) → has ms r ≡ true → no_view h r ≡ false
  unfolding no_view
  has-view r m = ne_eqb (current h r) 0 (λ z. let low = in-view r m in omega arith)

  -- 4
  end-sent : (r : ℕ) → has ms r ≡ true → h.recorders.phase r ≡ send → ⊥
  unfolding state_refusal not_send is_send number_of uses settle_kinds settle_call has
  end-sent r m e =
      let t = over_first (no_view h r || not_send h r) 37 _ (over_plain send_summary r m refl refl refl) (over-full _) in
      not-both (sym (ap (λ b. b || not_send h r) (has-view r m)) ∙ t) (ap (λ p. not (is_send p)) e)

  -- 7
  end-placed : (r : ℕ) → has ms r ≡ true → h.service.pending r g ≡ []
  unfolding state_refusal not_formed not_member none_pending has_pending is_created is_member number_of uses settle_kinds settle_call has
  end-placed r m =
      let formed = member-formed h valid g r m in
      let inside = members-in h valid g r m in
      let o = over place r g m refl refl (view-word h.size r inside.0 inside.1 place refl g (formed-low h valid g formed) (greatest-number h valid)) in
      let one = over-next (not_formed h g) 34 _ o (ap not formed) in
      let two = over-next (not_member h r g) 35 _ one (ap not m) in
      is-empty _ (not-false _ (not-true _ (over_first (none_pending h r g) 38 _ two (over-full _))))

  module _ (inv : Inv rules h) where
    -- 8: all of the queue is received
    end-next : (r : ℕ) → has ms r ≡ true → h.service.next r g ≡ length (h.service.queue g) + 1
    unfolding state_refusal none_to_receive can_receive number_of uses settle_kinds settle_call has
    end-next r m =
        let o = over_plain receive r m refl refl refl in
        let one = over-next (no_view h r) 37 _ o (has-view r m) in
        let past = leb-false _ _ (not-true _ (over_first (none_to_receive h r) 38 _ one (over-full _))) in
        let at : length (h.service.queue g) < h.service.next r g =
        subst (λ v. length (h.service.queue v) < h.service.next r v) (end-entered r m) past in
        let high = inv.marks.high r g in
        omega arith

    pub end-received : (r : ℕ) → has ms r ≡ true → received h.service r g ≡ h.service.queue g
    unfolding received
    end-received r m = take_all (h.service.next r g - 1) (h.service.queue g) (omega (arith, end-next r m))

    -- 9: and noticed
    end-next_safe : (r : ℕ) → has ms r ≡ true → length (h.service.queue g) < h.service.next_safe r g
    unfolding state_refusal none_to_notice not_received_by_all has_unsafe received_by_all number_of uses settle_kinds settle_call has
    end-next_safe r m =
        let o = over_plain notice r m refl refl refl in
        let one = over-next (no_view h r) 37 _ o (has-view r m) in
        let v = current h r in
        let k = h.service.next_safe r v in
        let q = h.service.queue v in
        let at = end-entered r m in
        let past : length q < k = by_cases (leb k (length q))
        (λ t.
        absurd
        (not-both (over_last (not_received_by_all h r) 39 (over-next (none_to_notice h r) 38 _ one (ap not t)))
        (ap not
        (has_all (λ p. ltb k (h.service.next p v)) (h.service.members v)
        (λ p n.
        lt-ltb k (h.service.next p v)
        (let e = end-next p (ap (λ v. has (h.service.members v) p) (sym at) ∙ n) in
        let e' : h.service.next p v ≡ length q + 1 = subst (λ v. h.service.next p v ≡ length (h.service.queue v) + 1) (sym at) e in
        let le = leb-true k (length q) t in
        omega arith))))))
        (λ f. leb-false k (length q) f) in
        subst (λ v. length (h.service.queue v) < h.service.next_safe r v) at past

    pub end-noticed : (r : ℕ) → has ms r ≡ true → noticed h.service r g ≡ h.service.queue g
    unfolding noticed
    end-noticed r m = take_all (h.service.next_safe r g - 1) (h.service.queue g) (omega (arith, end-next_safe r m))

    -- all summaries are in the queue
    module _ (once : OnceOf h) where
      pub end-summary : (g ≡ 1 → ⊥) → (q : ℕ) → has ms q ≡ true → summary_in (h.service.queue g) q ≡ true
      unfolding has_summary
      end-summary later q m = go (h.recorders.phase q) refl
        where
          go : (p : Phase) → h.recorders.phase q ≡ p → summary_in (h.service.queue g) q ≡ true
          go normal e =
              ⊎_elim (λ one. absurd (later (sym (end-entered q m) ∙ one)))
              (λ f.
              ap (λ l. summary_in l q) (sym (ap (received h.service q) (end-entered q m) ∙ end-received q m))
              ∙ f q (ap (λ v. has (h.service.members v) q) (end-entered q m) ∙ m))
              (inv.exchange.normal_est q (in-view q m) e).told
          go send e = absurd (end-sent q m e)
          go collect e =
              sent-queued h once q g (ap (h.summaries.sent q) (sym (end-entered q m)) ∙ inv.exchange.collect_sent q e)
              (ap has_summary (end-placed q m))

      -- so every member has established the view
      pub end-est : (p : ℕ) → has ms p ≡ true → est_of h p g
      end-est p m =
          record {
            member = m;
            told =
                ⊎_elim inl (λ later. inr (λ q n. ap (λ l. summary_in l q) (end-received p m) ∙ end-summary later q n)) (same? g 1);
          }

      end-normal : (p : ℕ) → has ms p ≡ true → h.recorders.phase p ≡ normal
      end-normal p m = inv.exchange.est_normal p (subst (est_of h p) (sym (end-entered p m)) (end-est p m))

      can-label : (p : ℕ) → has ms p ≡ true → (no_view h p || not_normal h p) ≡ false
      unfolding not_normal is_normal
      can-label p m = ap (λ b. b || not_normal h p) (has-view p m) ∙ ap (λ x. not (is_normal x)) (end-normal p m)

      -- 2: no entry waits
      pub end-labelled : (p : ℕ) → has ms p ≡ true → waiting h.entries p ≡ []
      unfolding state_refusal cannot_label none_waiting number_of uses settle_kinds settle_call has
      end-labelled p m =
          let o = over_plain label p m refl refl refl in
          let one = over-next (cannot_label h p) 37 _ o (can-label p m) in
          is-empty _ (over_first (none_waiting h p) 38 _ one (over-full _))

      -- 3: nothing is in the buffer; its head would be known, being p's own
      head-known : (p : ℕ) → has ms p ≡ true → is_empty (h.recorders.buffer p) ≡ false
          → h.recorders.known p (nth (h.recorders.buffer p) 1 0) ≡ true
      head-known p m e =
          let v = current h p in
          let buffer = h.recorders.buffer p in
          let x = nth buffer 1 0 in
          let before = entries_from p (h.service.queue v) in
          let pending = entries_of (h.service.pending p v) in
          let there = ap (λ l. has l x) (head-rest buffer 0 e) ∙ has-head x _ in
          let at =
          row_in h.entries p v 1 (before ++ (pending ++ buffer)) x (inv.labels.current_row p (in-view p m))
          (has_right before (pending ++ buffer) x (has_right pending buffer x there)) in
          ap (λ q. h.recorders.known q x) (sym at.0) ∙ inv.known.own x at.2

      pub end-buffer : (p : ℕ) → has ms p ≡ true → h.recorders.buffer p ≡ []
      unfolding state_refusal buffer_empty not_known buffer_head number_of uses settle_kinds settle_call has
      end-buffer p m =
          let o = over_plain send_entry p m refl refl refl in
          let one = over-next (no_view h p || not_normal h p) 37 _ o (can-label p m) in
          is-empty (h.recorders.buffer p) (by_cases (buffer_empty h p) (λ e. e)
          (λ e.
          absurd
          (over-full _
          (over-next (not_known h p (buffer_head h p)) 39 _ (over-next (buffer_empty h p) 38 _ one e) (ap not (head-known p m e))))))

      -- ## Each entry of a member stands in every member's order

      end-label : (s e : ℕ) → has ms s ≡ true → has (of_sender h.entries s) e ≡ true → Labelled h.entries e
      end-label s e m t =
          by_cases (is_labelled h.entries e) (test-labelled h.entries e)
          (λ f.
          absurd
          (has-none e
          (ap (λ l. has l e) (sym (end-labelled s m) ∙ waiting-is h.entries s)
          ∙ (in-filter (λ d. not (is_labelled h.entries d)) (of_sender h.entries s) e).1 (t, ap not f))))

      -- the row of member s is what it has in the queue
      module _ (s : ℕ) (m : has ms s ≡ true) where
        abbrev row : List ℕ
        row = entries_from s (h.service.queue g)

        row_is : row_with h.service.queue h.service.pending s (current h s) (h.recorders.buffer s) ≡ row
        unfolding entries_of
        row_is =
            ap (λ v. row_with h.service.queue h.service.pending s v (h.recorders.buffer s)) (end-entered s m)
            ∙ ap₂ (λ (x : List Message) (y : List ℕ). row ++ (entries_of x ++ y)) (end-placed s m) (end-buffer s m)
            ∙ append-nil row

        in_row : InRow h.entries s g 1 row
        in_row =
            subst (λ v. InRow h.entries s v 1 row) (end-entered s m)
            (subst (InRow h.entries s (current h s) 1) row_is (inv.labels.current_row s (in-view s m)))

        -- an entry labelled in the view is there
        end-queued : (e : ℕ) → Labelled h.entries e → h.entries.sender e ≡ s → h.entries.label_view e ≡ g
            → has (entries_in (h.service.queue g)) e ≡ true
        end-queued e l from view =
            let es = h.entries in
            let low = inv.labels.below e l (view ∙ sym (end-entered s m) ∙ ap (current h) (sym from)) in
            let top = ap h.recorders.next_seq from ∙ inv.labels.next_is s (in-view s m) ∙ ap (λ (xs : List ℕ). 1 + length xs) row_is in
            let (x, x-in, seq) = row-find es s g 1 row (es.label_seq e) in_row l (omega arith) in
            let at = row_in es s g 1 row x in_row x-in in
            let is_x : e ≡ x = inv.labels.unique e x l (view ∙ sym at.1) (sym seq) (from ∙ sym at.0) in
            ap (has (entries_in (h.service.queue g))) is_x ∙ from_in s (h.service.queue g) x x-in

      module _ (fair : FairRules rules) where
        all-sent : (g ≡ 1 → ⊥) → (q : ℕ) → has ms q ≡ true → h.summaries.sent q g ≡ true
        all-sent later q m = inv.exchange.queued_sent q g (end-summary later q m)

        end_line : (s e : ℕ) → has ms s ≡ true → has (of_sender h.entries s) e ≡ true
            → has (full rules h g ++ entries_in (h.service.queue g)) e ≡ true
        end_line s e m t =
            let l = end-label s e m t in
            let from = (of-sender-in h.entries s e t).2 in
            let view = inv.labels.viewed e l in
            let top = ap (current h) from ∙ end-entered s m in
            ⊎_elim
            (λ same. has_right (full rules h g) (entries_in (h.service.queue g)) e (end-queued s m e l from same))
            (λ other.
            let lt : h.entries.label_view e < g = omega arith in
            let later : g ≡ 1 → ⊥ = λ one. omega arith in
            has_left (full rules h g) (entries_in (h.service.queue g)) e
            (ap (λ k. has k e) (full-later rules h g later)
            ∙ long-has rules fair h inv.labels inv.known g (all-sent later) e
            (s, m, inv.known.sum_own s g e (all-sent later s m) l from lt)))
            (same? (h.entries.label_view e) g)

        module _ (primary : is_primary h g ≡ true) (exact : SafeExactly rules h) where
          primary-at : (p : ℕ) → has ms p ≡ true → is_primary h (current h p) ≡ true
          primary-at p m = ap (is_primary h) (end-entered p m) ∙ primary

          end-order : (p : ℕ) → has ms p ≡ true → h.recorders.order p ≡ full rules h g ++ entries_in (h.service.queue g)
          unfolding built
          end-order p m =
              inv.orders.order_is p (subst (est_of h p) (sym (end-entered p m)) (end-est p m)) (primary-at p m)
              ∙ ap (built rules h p) (end-entered p m)
              ∙ ap (λ l. full rules h g ++ entries_in l) (end-received p m)

          -- all of it is safe
          end-safe : (p e : ℕ) → has ms p ≡ true → has (h.recorders.order p) e ≡ true → h.recorders.safe p e ≡ true
          end-safe p e m t =
              let at = end-entered p m in
              let now : noticed_at h p ≡ h.service.queue g = ap (noticed h.service p) at ∙ end-noticed p m in
              ⊎_elim
              (λ old.
              ⊎_elim
              (λ one. absurd (has-none e (ap (λ l. has l e) (sym (full-first rules h g one)) ∙ old)))
              (λ later.
              (exact p).full_safe (primary-at p m)
              (λ q n. ap (λ l. summary_in l q) now ∙ end-summary later q (ap (λ v. has (members_of h v) q) (sym at) ∙ n)) e
              (ap (λ v. has (full rules h v) e) at ∙ old))
              (same? g 1))
              (λ new. (exact p).entries_safe (primary-at p m) e (ap (λ l. has (entries_in l) e) now ∙ new))
              (has_either (full rules h g) (entries_in (h.service.queue g)) e (ap (λ l. has l e) (sym (end-order p m)) ∙ t))

          -- 10: and confirmed
          end-confirm : (p : ℕ) → has ms p ≡ true → h.recorders.confirm p ≡ length (h.recorders.order p) + 1
          unfolding state_refusal order_ends not_safe order_at nth number_of uses settle_kinds settle_call has
          end-confirm p m =
              let order = h.recorders.order p in
              let k = h.recorders.confirm p in
              let o = over_plain confirm p m refl refl refl in
              let low = (inv.infos.sound p).marked in
              let high = (inv.infos.sound p).in_order in
              let past : length order < k = by_cases (ltb (length order) k) (λ t. ltb-true (length order) k t)
              (λ f.
              let le = ltb-false (length order) k f in
              absurd
              (not-both (over_last (not_safe h p) 39 (over-next (order_ends h p k) 38 _ o f))
              (ap not (end-safe p (get_or order (k - 1) 0) m (key_has order (k - 1) (omega arith)))))) in
              omega arith

          -- 11: and reported
          end-report : (p : ℕ) → has ms p ≡ true → h.recorders.report p ≡ length (h.recorders.order p) + 1
          unfolding state_refusal all_reported order_ends not_known order_at nth number_of uses settle_kinds settle_call has
          end-report p m =
              let order = h.recorders.order p in
              let k = h.recorders.report p in
              let c = h.recorders.confirm p in
              let o = over_plain deliver p m refl refl refl in
              let low = inv.own.report_low p in
              let high = inv.own.reported p in
              let top = end-confirm p m in
              let past : c ≤ k = by_cases (leb c k) (λ t. leb-true c k t)
              (λ f.
              let lt = leb-false c k f in
              let inside : ltb (length order) k ≡ false = le-ltb (length order) k (omega arith) in
              absurd
              (not-both
              (over_last (not_known h p (order_at h p k)) 39
              (over-next (all_reported h p || order_ends h p k) 38 _ o (ap (λ b. b || order_ends h p k) f ∙ inside)))
              (ap not (inv.known.ordered p (get_or order (k - 1) 0) (key_has order (k - 1) (omega arith)))))) in
              omega arith

          pub end-reported : (p : ℕ) → has ms p ≡ true → reported_entries h p ≡ h.recorders.order p
          end-reported p m = take_all (h.recorders.report p - 1) (h.recorders.order p) (omega (arith, end-report p m))

          -- so every entry of member s is reported at member p
          pub end-has : (s p e : ℕ) → has ms s ≡ true → has ms p ≡ true → has (of_sender h.entries s) e ≡ true
              → has (reported_entries h p) e ≡ true
          end-has s p e i j t = ap (λ l. has l e) (end-reported p j ∙ end-order p j) ∙ end_line s e i t
