-- What holds of a bench along any list of calls: its hall is that of the run of the actions that remain, and its buffer holds
-- the slots of that run, apart from those pushed out. Assumes nothing.
use Prim.Native.Nat.{ℕ, ◌-◌, ◌^◌, ◌<◌}
use mathlib.Core.Path.{◌≡◌, refl, sym, ap, ◌∙◌, subst}
use mathlib.Core.Bool.{true}
use mathlib.Core.List.{List, [], ◌∷◌, ◌++◌, append_assoc, append-nil}
use mathlib.Core.Option.{some}
use lib.ListN.{length, take, drop, take-append-drop}
use Rattle.base.proofs.ListsLaws.{each_append, each_left, each_right}
use Rattle.model.specs.Answers.{accepted}
use Rattle.model.specs.Call.{Words, WordsIn}
use Rattle.store.specs.StoredForm.{is_stored}
use Rattle.calls.specs.Calls.{step_on, run_on}
use Rattle.calls.proofs.HeldSteps.{step-holds}
use Rattle.undo.specs.Buffer.{Slot, max_slots, is_undo, held_in, with_held, newest, newest_of, older, pushed, popped}
use Rattle.undo.specs.Parts.{slot_of}
use Rattle.undo.proofs.BufferLaws.{held-slots, undo-whole, with-again, newest-last, older-last, pushed-is_undo, pushed-held_in, popped-is_undo, popped-held_in}
use Rattle.undo.proofs.Rooms.{Snoc, snoc_of}
use Rattle.stepback.specs.Held.{Bench, bench_of, held_run, back_on}
use Rattle.stepback.specs.Runs.{Remaining, more, slots_of, AllTaken}
use Rattle.stepback.specs.Promises.{Pushed, Stands}
use Rattle.stepback.proofs.HeldLaws.{step-takes}
use Rattle.stepback.proofs.BackUndoes.{slot-fits, back-of}
use Rattle.stepback.proofs.RunsLaws.{run-snoc, slots-snoc, taken-append, taken-left, taken-right, run_holds}

abbrev pub remains : Bench → List Words → Remaining
remains x ws = record { start = x; actions = ws }

-- nothing remains yet
pub stands-start : (x : Bench) → is_stored x.hall ≡ true → is_undo x.undo ≡ true → Stands (remains x []) x
unfolding run_on slots_of
stands-start x s i =
    record {
      start_hall = s;
      start_undo = i;
      small = tt;
      taken = tt;
      hall = refl;
      stored = s;
      in_form = i;
      held = record { out = []; joins = sym (append-nil (held_in x.undo)) };
      undo = sym (undo-whole x.undo i);
    }

-- ## One action more

module _ (t : Remaining) (y : Bench) (st : Stands t y) (w : Words) (low : w.a < 2 ^ 32) (a : accepted (step_on y.hall w).answer ≡ true) where
  abbrev s : Slot
  s = slot_of y.hall w

  abbrev first : List Slot
  first = held_in t.start.undo

  abbrev joined : List Slot
  joined = held_in y.undo ++ (s ∷ [])

  ok-slots : held_in (pushed y.undo s) ≡ newest joined
  ok-slots = pushed-held_in y.undo st.in_form s (slot-fits y.hall st.stored w low a)

  here : slots_of t.start.hall (t.actions ++ (w ∷ [])) ≡ slots_of t.start.hall t.actions ++ (s ∷ [])
  here =
      slots-snoc t.start.hall t.actions w
      ∙ ap (λ (b : List ℕ). slots_of t.start.hall t.actions ++ (slot_of b w ∷ [])) (sym st.hall)

  push-held : Pushed (first ++ slots_of t.start.hall (t.actions ++ (w ∷ []))) (held_in (pushed y.undo s))
  unfolding newest
  push-held =
      let n = length joined - max_slots in
      let out = st.held.out in
      let before = slots_of t.start.hall t.actions in
      record {
        out = out ++ take n joined;
        joins =
            ap (λ (l : List Slot). (out ++ take n joined) ++ l) ok-slots
            ∙ append_assoc out (take n joined) (drop n joined)
            ∙ ap (λ (l : List Slot). out ++ l) (take-append-drop n joined)
            ∙ sym (append_assoc out (held_in y.undo) (s ∷ []))
            ∙ ap (λ (l : List Slot). l ++ (s ∷ [])) st.held.joins
            ∙ append_assoc first before (s ∷ [])
            ∙ ap (λ (l : List Slot). first ++ l) (sym here);
      }

  pub stands-push : Stands (more t (w ∷ [])) (bench_of (step_on y.hall w).bytes (pushed y.undo s))
  unfolding more pushed
  stands-push =
      let b = t.start.hall in
      let ok = slot-fits y.hall st.stored w low a in
      record {
        start_hall = st.start_hall;
        start_undo = st.start_undo;
        small = each_append (λ (w : Words). w.a < 2 ^ 32) t.actions (w ∷ []) st.small (low, tt);
        taken =
            taken-append b t.actions (w ∷ []) st.taken
            (subst (λ (c : List ℕ). accepted (step_on c w).answer ≡ true) st.hall a, tt);
        hall = ap (λ (c : List ℕ). (step_on c w).bytes) st.hall ∙ sym (run-snoc b t.actions w);
        stored = step-holds y.hall st.stored w low;
        in_form = pushed-is_undo y.undo st.in_form s ok;
        held = push-held;
        undo =
            ap (λ (u : List ℕ). with_held u (newest joined)) st.undo
            ∙ with-again t.start.undo (held_in y.undo) (held-slots y.undo st.in_form) (newest joined)
            ∙ ap (with_held t.start.undo) (sym ok-slots);
      }

-- ## A run of accepted actions, each held

pub stands-run : (ws : List Words) (t : Remaining) (y : Bench) → Stands t y → WordsIn ws → AllTaken y.hall ws → Stands (more t ws) (held_run y ws)
unfolding more held_run
stands-run [] t y st low p = subst (λ (l : List Words). Stands (remains t.start l) y) (sym (append-nil t.actions)) st
stands-run (w ∷ ws) t y st low p =
    let next = step-takes y w st.stored st.in_form p.0 in
    subst (λ (l : List Words). Stands (remains t.start l) (held_run y (w ∷ ws))) (append_assoc t.actions (w ∷ []) ws)
    (subst (λ (z : Bench). Stands (more (more t (w ∷ [])) ws) (held_run z ws)) (sym next)
    (stands-run ws (more t (w ∷ [])) _ (stands-push t y st w low.0 p.0) low.1 p.1))

-- ## The newest action taken back

-- what a buffer holds, if it is not empty
held-snoc : (xs : List Slot) → (xs ≡ [] → ⊥) → Snoc xs
held-snoc [] ne = absurd (ne refl)
held-snoc (x ∷ xs) ne = snoc_of x xs

module _ (t : Remaining) (y : Bench) (st : Stands t y) (ws : List Words) (w : Words) (is : t.actions ≡ ws ++ (w ∷ [])) (ne : held_in y.undo ≡ [] → ⊥) where
  abbrev b : List ℕ
  b = t.start.hall

  abbrev c : List ℕ
  c = run_on b ws

  abbrev slot : Slot
  slot = slot_of c w

  abbrev before : List Slot
  before = held_in t.start.undo ++ slots_of b ws

  low : WordsIn (ws ++ (w ∷ []))
  low = subst WordsIn is st.small

  all : AllTaken b (ws ++ (w ∷ []))
  all = subst (AllTaken b) is st.taken

  there : is_stored c ≡ true
  there = run_holds b ws st.start_hall (each_left (λ (w : Words). w.a < 2 ^ 32) ws (w ∷ []) low)

  small : w.a < 2 ^ 32
  small = (each_right (λ (w : Words). w.a < 2 ^ 32) ws (w ∷ []) low).0

  hall-is : y.hall ≡ (step_on c w).bytes
  hall-is = st.hall ∙ ap (run_on b) is ∙ run-snoc b ws w

  held : Snoc (held_in y.undo)
  held = held-snoc (held_in y.undo) ne

  abbrev out : List Slot
  out = st.held.out

  both : (out ++ held.front) ++ (held.last ∷ []) ≡ before ++ (slot ∷ [])
  both =
      append_assoc out held.front (held.last ∷ [])
      ∙ ap (λ (l : List Slot). out ++ l) (sym held.joins)
      ∙ st.held.joins
      ∙ ap (λ (l : List Words). held_in t.start.undo ++ slots_of b l) is
      ∙ ap (λ (l : List Slot). held_in t.start.undo ++ l) (slots-snoc b ws w)
      ∙ sym (append_assoc (held_in t.start.undo) (slots_of b ws) (slot ∷ []))

  -- the newest slot is that of the newest action
  newest-is : newest_of (held_in y.undo) ≡ some slot
  newest-is =
      ap newest_of held.joins ∙ newest-last held.front held.last
      ∙ sym (newest-last (out ++ held.front) held.last) ∙ ap newest_of both ∙ newest-last before slot

  older-is : older (held_in y.undo) ≡ held.front
  older-is = ap older held.joins ∙ older-last held.front held.last

  -- and the others are those of the others
  others : out ++ held.front ≡ before
  others = sym (older-last (out ++ held.front) held.last) ∙ ap older both ∙ older-last before slot

  popped-is : held_in (popped y.undo) ≡ held.front
  popped-is = popped-held_in y.undo st.in_form ∙ older-is

  taken_back : ((back_on y).number ≡ 0) × ((back_on y).left ≡ bench_of c (popped y.undo))
  taken_back =
      subst (λ (h : List ℕ). ((back_on (bench_of h y.undo)).number ≡ 0) × ((back_on (bench_of h y.undo)).left ≡ bench_of c (popped y.undo))) (sym hall-is)
      (back-of c there w small (taken-right b ws (w ∷ []) all).0 y.undo st.in_form newest-is)

  pub pop-number : (back_on y).number ≡ 0
  pop-number = taken_back.0

  pub pop-held : held_in (back_on y).left.undo ≡ older (held_in y.undo)
  pop-held = ap (λ (z : Bench). held_in z.undo) taken_back.1 ∙ popped-held_in y.undo st.in_form

  pub stands-pop : Stands (remains t.start ws) (back_on y).left
  unfolding popped
  stands-pop =
      subst (Stands (remains t.start ws)) (sym taken_back.1)
      (record {
        start_hall = st.start_hall;
        start_undo = st.start_undo;
        small = each_left (λ (w : Words). w.a < 2 ^ 32) ws (w ∷ []) low;
        taken = taken-left b ws (w ∷ []) all;
        hall = refl;
        stored = there;
        in_form = popped-is_undo y.undo st.in_form;
        held = record { out = out; joins = ap (λ (l : List Slot). out ++ l) popped-is ∙ others };
        undo =
            ap (λ (u : List ℕ). with_held u (older (held_in y.undo))) st.undo
            ∙ with-again t.start.undo (held_in y.undo) (held-slots y.undo st.in_form) (older (held_in y.undo))
            ∙ ap (with_held t.start.undo) (sym (popped-held_in y.undo st.in_form));
      })
