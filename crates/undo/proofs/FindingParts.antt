-- What the code that finds an action's parts goes by: the kind that a number of an accepted action names, and where its
-- recorder, its view and its entry stand.
-- Assumes nothing.
use Prim.Native.Nat.{ℕ, ◌-◌, ◌≤◌, ◌<◌}
use native.Mathlib.Omega.{arith}
use mathlib.Core.Path.{◌≡◌, refl, sym, ap, subst, ◌∙◌}
use mathlib.Core.Logic.{◌⊎◌, ⊎_elim}
use mathlib.Core.Bool.{true}
use mathlib.Core.List.{List}
use mathlib.Core.Option.{none, some}
use Rattle.std.specs.Prelude as std
use Rattle.std.specs.Prelude.{Some, None}
use Rattle.std.specs.Option.{MatchOption}
use Rattle.base.specs.Lists.{has, nth}
use Rattle.model.specs.Hall.{Entries, max_recorders, max_entries, max_views}
use Rattle.model.specs.Kinds.{Use, Kind, kind_of, uses}
use Rattle.model.specs.KindNumbers.{kind_meaning, kind_number}
use Rattle.model.specs.declared.kinds.Kind as code
use Rattle.model.specs.declared.kinds.Kind.TheVariants.{Label, SendEntry, SendSummary, Enter, Place, Receive, Notice, Confirm, Deliver}
use Rattle.model.specs.Ordering.{waiting}
use Rattle.model.specs.Refusals.{state_refusal}
use Rattle.model.specs.Call.{Words, words_of, hl3}
use Rattle.model.proofs.KindNumbersLaws.{number-names}
use Rattle.model.proofs.Accepting.Accepted.{Performed}
use Rattle.model.proofs.Accepting.Performed.{kind-of-number}
use Rattle.model.proofs.Ordering.Waiting.{first-waiting}
use Rattle.codec.specs.Ends.{first_of, found_of}
use Rattle.codec.specs.Table.{index_of}
use Rattle.codec.proofs.EndsLaws.{first-lacks, first-stands}
use Rattle.codec.proofs.TableLaws.{index-lt}
use Rattle.store.specs.StoredForm.{hall_of, is_stored}
use Rattle.store.proofs.StoredFormLaws.{hall_of-valid}
use Rattle.pieces.specs.declared.Recorder.{Recorder}
use Rattle.pieces.specs.Recorders.{recorder_of}
use Rattle.hall.specs.Acts.{Judged}
use Rattle.hall.specs.AtRecorder.{recorder_in}
use Rattle.hall.specs.Parts.{HasRecorder, Placed}
use Rattle.hall.proofs.Acting.{acts, current-placed, view-read}
use Rattle.hall.proofs.ReadsLaws.{recorder-most}
use Rattle.undo.specs.Parts.{alone, in_current, waiting_index, places_of, parts}
use Rattle.undo.specs.Code.{Accepts}
use Rattle.undo.proofs.KindsCover.{InView, send_entry-view, send_summary-view, receive-view, notice-view, place-formed}
use Rattle.undo.proofs.PartsCover.{performed, passed, its-places}

-- ## The first entry that waits

module _ (b : List ℕ) (r : ℕ) where
  abbrev es : Entries
  es = (hall_of b).entries

  pub none-waits : first_of (waiting es r) ≡ none → 0 ≡ waiting_index (hall_of b) r
  unfolding nth
  none-waits w = sym (ap (λ (xs : List ℕ). nth xs 1 0 - 1) (first-lacks (waiting es r) w))

  module _ (e : ℕ) (w : first_of (waiting es r) ≡ some e) where
    pub waits-low : 1 ≤ e
    waits-low = (first-waiting es r e _ (first-stands (waiting es r) e w)).low

    pub waits-at : e - 1 ≡ waiting_index (hall_of b) r
    unfolding nth
    waits-at = sym (ap (λ (xs : List ℕ). nth xs 1 0 - 1) (first-stands (waiting es r) e w))

    pub waits-high : is_stored b ≡ true → e - 1 < max_entries
    waits-high s =
        let first = first-waiting es r e _ (first-stands (waiting es r) e w) in
        omega (arith, first.low, first.high, (hall_of-valid b s).in_range.entries.at_most)

  -- its index, where what is found is e and Q e says that n is e - 1
  pub by-found : (o : std.Option ℕ) {n : ℕ} {Q : ℕ → Type 0} → found_of o ≡ first_of (waiting es r) → is_stored b ≡ true
      → MatchOption o (n ≡ 0) Q → ((e : ℕ) → Q e → n ≡ e - 1) → (n ≡ waiting_index (hall_of b) r) × (n < max_entries)
  by-found None f s m less = (m ∙ none-waits (sym f), omega (arith, m))
  by-found (Some e) f s m less = (less e m ∙ waits-at e (sym f), omega (arith, less e m, waits-high e (sym f) s))

-- ## A recorder, and its view

pub recorder_range : {b : List ℕ} {r : ℕ} → HasRecorder b r → (1 ≤ r) × (r ≤ max_recorders)
recorder_range p = (p.low, recorder-most p)

-- a formed view, found at index i
pub formed-within : {b : List ℕ} {r : ℕ} → HasRecorder b r → (g i : ℕ) → has (hall_of b).service.created g ≡ true
    → i ≡ index_of (hall_of b).service.created g → i < max_views
formed-within {b} p g i formed at =
    omega (arith, at, index-lt (hall_of b).service.created g formed, (hall_of-valid b p.holds).in_range.views.at_most)

-- R's current view, found at index i by what is read of R
pub current-found : {b : List ℕ} {r : ℕ} (p : HasRecorder b r) → ((hall_of b).service.current r ≡ 0 → ⊥)
    → (x : Recorder) → recorder_of x ≡ recorder_in b r → (i : ℕ) → i ≡ index_of (hall_of b).service.created x.current
    → Placed b r ((hall_of b).service.current r) i
current-found {b} {r} p ne x k i at =
    current-placed b p.holds r ((hall_of b).service.current r) i refl ne
    (at ∙ ap (index_of (hall_of b).service.created) (view-read p (recorder_of x) k))

-- R's current view by what is read of R: it is formed
pub current-read : {b : List ℕ} {r : ℕ} → HasRecorder b r → ((hall_of b).service.current r ≡ 0 → ⊥)
    → (x : Recorder) → recorder_of x ≡ recorder_in b r
    → (has (hall_of b).service.created x.current ≡ true) × (x.current ≡ (hall_of b).service.current r)
current-read {b} {r} p ne x k =
    let e = view-read p (recorder_of x) k in
    let formed = (current-placed b p.holds r ((hall_of b).service.current r) _ refl ne refl).formed in
    (subst (λ g. has (hall_of b).service.created g ≡ true) (sym e) formed, e)

-- ## An accepted action's kind

-- b accepts the words w, and κ is their kind
pub record OfKind (b : List ℕ) (w : Words) (κ : Kind) : Type 0 where
  pub judged : Judged b κ w.r w.a w.b
  pub passes : state_refusal hl3 (hall_of b) κ w.r w.a ≡ 0
  pub places : places_of (hall_of b) κ w.r w.a ≡ parts b w

-- a kind that writes its recorder alone
pub record Alone (b : List ℕ) (w : Words) : Type 0 where
  pub range : (1 ≤ w.r) × (w.r ≤ max_recorders)
  pub places : alone w.r ≡ parts b w

-- a kind that writes its recorder, and its place in its current view
pub record InCurrent (b : List ℕ) (w : Words) : Type 0 where
  pub has : HasRecorder b w.r
  pub viewed : InView (hall_of b) w.r w.a
  pub places : in_current (hall_of b) w.r ≡ parts b w

module _ {b : List ℕ} {w : Words} {κ : Kind} (used : (uses κ).r ≡ Use.recorder) (o : OfKind b w κ) where
  by-alone : places_of (hall_of b) κ w.r w.a ≡ alone w.r → Alone b w
  by-alone same =
      record { range = recorder_range (acts used o.judged); places = sym same ∙ o.places }

  by-current : (state_refusal hl3 (hall_of b) κ w.r w.a ≡ 0 → InView (hall_of b) w.r w.a)
      → places_of (hall_of b) κ w.r w.a ≡ in_current (hall_of b) w.r → InCurrent b w
  by-current viewed same = record { has = acts used o.judged; viewed = viewed o.passes; places = sym same ∙ o.places }

module _ {b : List ℕ} (k : code.Kind) {r a d : ℕ} (p : Accepts b (words_of (kind_number k) r a d)) where
  abbrev it : Performed hl3 (hall_of b) (words_of (kind_number k) r a d)
  it = performed b p.holds _ p.accepts

  as-performed : OfKind b (words_of (kind_number k) r a d) it.what
  as-performed =
      let pass = passed b p.holds _ p.accepts in
      record {
        judged = record { holds = p.holds; words = pass.0 };
        passes = pass.1;
        places = sym (its-places b p.holds _ p.accepts);
      }

  its-kind : it.what ≡ kind_meaning k
  its-kind = cc (number-names k, ap kind_of it.is_kind ∙ kind-of-number it.what)

  pub of-kind : (κ : code.Kind) → k ≡ κ → OfKind b (words_of (kind_number k) r a d) (kind_meaning κ)
  of-kind κ e = subst (OfKind b (words_of (kind_number k) r a d)) (its-kind ∙ ap kind_meaning e) as-performed

  -- a kind that acts at a recorder
  module _ (used : (uses (kind_meaning k)).r ≡ Use.recorder) where
    pub has-recorder : HasRecorder b r
    has-recorder = acts used (of-kind k refl).judged

    pub recorder-range : (1 ≤ r) × (r ≤ max_recorders)
    recorder-range = recorder_range has-recorder

  -- 2
  pub label-recorder : k ≡ Label → HasRecorder b r
  unfolding uses
  label-recorder e = acts refl (of-kind Label e).judged

  -- 3, 4, 8 and 9
  pub current-kinds : (k ≡ SendEntry) ⊎ ((k ≡ SendSummary) ⊎ ((k ≡ Receive) ⊎ (k ≡ Notice))) → InCurrent b (words_of (kind_number k) r a d)
  unfolding uses places_of
  current-kinds =
      let h = hall_of b in
      ⊎_elim (λ e. by-current refl (of-kind SendEntry e) (send_entry-view h r a) refl)
      (⊎_elim (λ e. by-current refl (of-kind SendSummary e) (send_summary-view h r a) refl)
      (⊎_elim (λ e. by-current refl (of-kind Receive e) (receive-view h r a) refl) (λ e. by-current refl (of-kind Notice e) (notice-view h r a) refl)))

  -- 6, 10 and 11
  pub alone-kinds : (k ≡ Enter) ⊎ ((k ≡ Confirm) ⊎ (k ≡ Deliver)) → Alone b (words_of (kind_number k) r a d)
  unfolding uses places_of
  alone-kinds =
      ⊎_elim (λ e. by-alone refl (of-kind Enter e) refl)
      (⊎_elim (λ e. by-alone refl (of-kind Confirm e) refl) (λ e. by-alone refl (of-kind Deliver e) refl))

  -- 7
  pub place-view : k ≡ Place → HasRecorder b r × (has (hall_of b).service.created a ≡ true)
  unfolding uses
  place-view e =
      let o = of-kind Place e in
      (acts refl o.judged, place-formed (hall_of b) r a o.passes)
