-- A run that begins with a buffer that holds none: after any list of calls the bench is that of the run of the actions that
-- remain, and the buffer holds the slots of its newest. From an opening, demand 3 and A5 of these actions. Assumes nothing.
use Prim.Native.Nat.{ℕ, ◌-◌, ◌≤◌}
use native.Mathlib.Omega.{arith}
use mathlib.Core.Path.{◌≡◌, refl, sym, ap, ◌∙◌, subst}
use mathlib.Core.Bool.{Bool, true, false}
use mathlib.Core.List.{List, [], ◌∷◌, ◌++◌}
use lib.Dec.{eqb}
use lib.ListN.{length, drop, length-append}
use lib.Seq.{drop_at}
use borrow.Author.Tests.{eqb-true}
use Rattle.base.proofs.ListsLaws.{append-none}
use Rattle.model.specs.Answers.{Plain, accepted}
use Rattle.model.specs.Opening.{Opening, opened}
use Rattle.model.specs.Call.{Words}
use Rattle.model.specs.Settle.{calls_taken}
use Rattle.model.specs.Agreed.{Agreed}
use Rattle.store.specs.Layout.{stored_length}
use Rattle.store.specs.StoredForm.{is_stored}
use Rattle.store.proofs.StoredFormLaws.{stored-is_stored}
use Rattle.store.proofs.KeepValid.{open-valid}
use Rattle.calls.specs.Calls.{with_hall, open_on, run_on, settling_on}
use Rattle.calls.specs.Histories.{Opens, made_on, history_on}
use Rattle.calls.proofs.OpenLaws.{open_done}
use Rattle.calls.proofs.Agreement.{agreement-on}
use Rattle.progress.specs.Promises.{Promised}
use Rattle.progress.proofs.OnBytes.{settled_on, promised-on}
use Rattle.undo.specs.Buffer.{Slot, is_undo, held_in}
use Rattle.undo.proofs.Rooms.{snoc_of}
use Rattle.stepback.specs.Held.{Bench, bench_of, step_held_on, settle_held_on, back_on}
use Rattle.stepback.specs.Runs.{BenchCall, step, settle, back, CallsFit, after, after_all, Remaining, more, but_last, less, follow, follow_all, remaining, slots_of, held_count}
use Rattle.stepback.specs.Promises.{Stands, BenchRun, SettlesAfter}
use Rattle.stepback.proofs.RunsLaws.{slots_length}
use Rattle.stepback.proofs.Standing.{remains, stands-start, pop-number}
use Rattle.stepback.proofs.CallsStand.{back-holds, fits-first, stands-call, calls-stand}
use Rattle.stepback.proofs.Counts.{held-most, count-all}
use Rattle.stepback.proofs.HeldSettle.{settle-same}

-- ## No step back goes below a start that holds none

abbrev start_of : Remaining → Bench
start_of t = t.start

module _ (t : Remaining) (y : Bench) (st : Stands t y) (none : held_in t.start.undo ≡ []) where
  -- where nothing remains, nothing is held
  held_none : t.actions ≡ [] → held_in y.undo ≡ []
  unfolding slots_of
  held_none e =
      (append-none st.held.out (held_in y.undo)
      (st.held.joins ∙ ap (λ (l : List Words). held_in t.start.undo ++ slots_of t.start.hall l) e ∙ ap (λ (l : List Slot). l ++ []) none)).1

  by-actions : (back_on y).number ≡ 0 → (vs : List Words) → t.actions ≡ vs
      → start_of (elim vs [ [] ↦ remains (back_on y).left [] | w ∷ ws ↦ remains t.start (but_last (w ∷ ws)) ]) ≡ t.start
  by-actions z [] e = absurd (back-holds y z (held_none e))
  by-actions z (v ∷ vs) e = refl

  by-more : (ws : List Words) (v : Bool) → start_of (elim v [ true ↦ more t ws | false ↦ t ]) ≡ t.start
  unfolding more
  by-more ws true = refl
  by-more ws false = refl

  by-back : (v : Bool) → eqb (back_on y).number 0 ≡ v → start_of (elim v [ true ↦ less (back_on y).left t | false ↦ t ]) ≡ t.start
  unfolding less
  by-back true v = by-actions (eqb-true (back_on y).number 0 v) t.actions refl
  by-back false v = refl

  start-call : (c : BenchCall) → (follow y t c).start ≡ t.start
  unfolding follow
  start-call (step w) = by-more (w ∷ []) (accepted (step_held_on y w).answer)
  start-call settle = by-more (calls_taken (settling_on y.hall)) (eqb (settle_held_on y).answer.number 0)
  start-call back = by-back (eqb (back_on y).number 0) refl

  -- a step back is refused only with none held
  back-number : (held_in y.undo ≡ [] → ⊥) → (back_on y).number ≡ 0
  back-number ne = go t.actions refl
    where
      go : (vs : List Words) → t.actions ≡ vs → (back_on y).number ≡ 0
      go [] e = absurd (ne (held_none e))
      go (v ∷ vs) e = let s = snoc_of v vs in pop-number t y st s.front s.last (e ∙ s.joins) ne

start-all : (t : Remaining) (y : Bench) → Stands t y → held_in t.start.undo ≡ [] → (cs : List BenchCall) → CallsFit cs
    → (follow_all y t cs).start ≡ t.start
unfolding follow_all
start-all t y st none [] fit = refl
start-all t y st none (c ∷ cs) fit =
    let f = fits-first c cs fit in
    let e = start-call t y st none c in
    start-all (follow y t c) (after y c) (stands-call t y st c f.0) (ap (λ (x : Bench). held_in x.undo) e ∙ none) cs f.1 ∙ e

-- ## The run

-- from any hall
module _ (d : List ℕ) (s : is_stored d ≡ true) (u : List ℕ) (i : is_undo u ≡ true) (none : held_in u ≡ []) (cs : List BenchCall) (fit : CallsFit cs) where
  abbrev x : Bench
  x = bench_of d u

  abbrev t : Remaining
  t = remaining x cs

  abbrev y : Bench
  y = after_all x cs

  abbrev m : ℕ
  m = held_count x 0 cs

  start_is : t.start ≡ x
  unfolding remaining
  start_is = start-all (remains x []) x (stands-start x s i) none cs fit

  stands : Stands (remains x t.actions) y
  stands = subst (λ (z : Bench). Stands (remains z t.actions) y) start_is (calls-stand x s i cs fit)

  joined : stands.held.out ++ held_in y.undo ≡ slots_of d t.actions
  joined = stands.held.joins ∙ ap (λ (l : List Slot). l ++ slots_of d t.actions) none

  count-is : length (held_in y.undo) ≡ m
  count-is = count-all x cs fit ∙ ap (λ (l : List Slot). held_count x (length l) cs) none

  sizes : length stands.held.out ≡ length t.actions - m
  sizes =
      omega (arith, count-is, ap length joined, length-append stands.held.out (held_in y.undo), slots_length d t.actions)

  enough : m ≤ length t.actions
  enough =
      omega (arith, count-is, ap length joined, length-append stands.held.out (held_in y.undo), slots_length d t.actions)

  pub empty-run : BenchRun d u (held_count (bench_of d u) 0 cs) (remaining (bench_of d u) cs) (after_all (bench_of d u) cs)
  empty-run =
      record {
        start = start_is;
        small = stands.small;
        taken = stands.taken;
        hall = stands.hall;
        count = count-is;
        most = omega (arith, count-is, held-most y.undo stands.in_form);
        enough = enough;
        held =
            sym (drop_at stands.held.out (held_in y.undo) (length t.actions - m) sizes)
            ∙ ap (drop (length t.actions - m)) joined;
        undo = stands.undo;
        back = back-number (remains x t.actions) y stands none;
      }

  in-form : is_undo y.undo ≡ true
  in-form = stands.in_form

-- ## From an opening that is taken

module _ (b : List ℕ) (o : Opening) (n : ℕ) (d : List ℕ) (opens : Opens b o n d) (z : n ≡ 0) (u : List ℕ) (i : is_undo u ≡ true)
    (none : held_in u ≡ []) (cs : List BenchCall) (fit : CallsFit cs) where
  taken : (open_on b o).number ≡ 0
  taken = sym opens.number ∙ z

  stored : is_stored d ≡ true
  unfolding with_hall
  stored =
      let done = open_done b o taken in
      ap is_stored (opens.bytes ∙ done.1) ∙ stored-is_stored (opened o) (open-valid o done.0) (drop stored_length b)

  pub bench-run : BenchRun d u (held_count (bench_of d u) 0 cs) (remaining (bench_of d u) cs) (after_all (bench_of d u) cs)
  bench-run = empty-run d stored u i none cs fit

  abbrev ws : List Words
  ws = (remaining (bench_of d u) cs).actions

  -- demand 3 of the actions that remain
  pub bench-agrees : Agreed (history_on d (remaining (bench_of d u) cs).actions)
  bench-agrees = subst (λ (c : List ℕ). Agreed (history_on c ws)) (sym opens.bytes) (agreement-on b o taken ws bench-run.small)

  promised : Promised (made_on d ws) (run_on d ws)
  promised = subst (λ (c : List ℕ). Promised (made_on c ws) (run_on c ws)) (sym opens.bytes) (promised-on b o taken ws bench-run.small)

  -- A5 of a held settle after them
  pub bench-settles : SettlesAfter d (remaining (bench_of d u) cs).actions (after_all (bench_of d u) cs)
  bench-settles =
      let y = after_all (bench_of d u) cs in
      let same = settle-same y (in-form d stored u i none cs fit) in
      record {
        answer = same.0;
        hall = same.1;
        promised = subst (Promised (made_on d ws)) (sym bench-run.hall) promised;
        settled = λ zero. settled_on y.hall (ap (λ (p : Plain). p.number) (sym same.0) ∙ zero);
      }
