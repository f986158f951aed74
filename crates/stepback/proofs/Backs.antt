-- 02's sentence on steps back: from any bench with a hall and a buffer in form, after any list of calls, k steps back give the
-- bench before the newest k actions that remain, apart from slots pushed out. Assumes nothing.
use Prim.Native.Nat.{ℕ, zero, suc, ◌-◌, ◌≤◌}
use native.Mathlib.Omega.{arith}
use mathlib.Core.Path.{◌≡◌, refl, sym, ap, ◌∙◌, subst}
use mathlib.Core.Bool.{true}
use mathlib.Core.List.{List, [], ◌∷◌, ◌++◌}
use lib.ListN.{length, take, drop, length-append}
use lib.Seq.{take_all, take-append-le, drop-append-le, drop_at}
use Rattle.model.specs.Call.{Words}
use Rattle.store.specs.StoredForm.{is_stored}
use Rattle.undo.specs.Buffer.{Slot, is_undo, held_in, with_held}
use Rattle.undo.proofs.BufferLaws.{held-slots, with-again}
use Rattle.undo.proofs.Rooms.{snoc_of}
use Rattle.stepback.specs.Held.{Bench, held_run, back_on}
use Rattle.stepback.specs.Runs.{BenchCall, CallsFit, after, after_all, backs, Remaining, more, remaining, slots_of, AllBack}
use Rattle.stepback.specs.Promises.{Pushed, Stands, Shows, first_of, TakenBack}
use Rattle.stepback.proofs.RunsLaws.{slots_length}
use Rattle.stepback.proofs.Standing.{remains, stands-start, stands-run, pop-number, pop-held, stands-pop}
use Rattle.stepback.proofs.CallsStand.{calls-stand}
use Rattle.stepback.proofs.Counts.{held-most, older-length, run-count}

-- two endings of one list: the shorter is an ending of the longer
ending : (o a p b : List Slot) → o ++ a ≡ p ++ b → length a ≤ length b → Pushed b a
ending o a p b e h =
    let n : length p ≤ length o = omega (arith, ap length e, length-append o a, length-append p b) in
    record {
      out = drop (length p) o;
      joins = sym (drop-append-le (length p) o a n) ∙ ap (drop (length p)) e ∙ drop_at p b (length p) refl;
    }

-- ## k steps back

record Walked (t : Remaining) (y : Bench) (k : ℕ) : Type 0 where
  all : AllBack y k
  stands : Stands (remains t.start (first_of t k)) (after_all y (backs k))

front_of : (vs ws : List Words) (w : Words) (k : ℕ) → vs ≡ ws ++ (w ∷ []) → take (length vs - suc k) vs ≡ take (length ws - k) ws
front_of vs ws w k e =
    let n : length (ws ++ (w ∷ [])) - suc k ≡ length ws - k = omega (arith, length-append ws (w ∷ [])) in
    ap (λ (l : List Words). take (length l - suc k) l) e ∙ ap (λ (n : ℕ). take n (ws ++ (w ∷ []))) n
    ∙ take-append-le (length ws - k) ws (w ∷ []) (omega arith)

walk : (k : ℕ) (t : Remaining) (y : Bench) → Stands t y → k ≤ length t.actions → k ≤ length (held_in y.undo) → Walked t y k
unfolding backs after_all after
walk zero t y st h g =
    record {
      all = tt;
      stands = subst (λ (l : List Words). Stands (remains t.start l) y) (sym (take_all (length t.actions - 0) t.actions (omega arith))) st;
    }
walk (suc k) t y st h g = go (walk k) t.actions refl
  where
    go : ((t : Remaining) (y : Bench) → Stands t y → k ≤ length t.actions → k ≤ length (held_in y.undo) → Walked t y k)
        → (vs : List Words) → t.actions ≡ vs → Walked t y (suc k)
    go ih [] e = absurd (omega (arith, ap length e))
    go ih (v ∷ vs) e =
        let s = snoc_of v vs in
        let ws = s.front in
        let w = s.last in
        let is : t.actions ≡ ws ++ (w ∷ []) = e ∙ s.joins in
        let ne : held_in y.undo ≡ [] → ⊥ = λ z. omega (arith, ap length z) in
        let fewer : k ≤ length ws = omega (arith, ap length is, length-append ws (w ∷ [])) in
        let still : k ≤ length (held_in (back_on y).left.undo) =
        omega (arith, ap length (pop-held t y st ws w is ne), older-length (held_in y.undo)) in
        let later = ih (remains t.start ws) (back_on y).left (stands-pop t y st ws w is ne) fewer still in
        record {
          all = (pop-number t y st ws w is ne, later.all);
          stands = subst (λ (l : List Words). Stands (remains t.start l) (after_all (back_on y).left (backs k))) (sym (front_of t.actions ws w k is)) later.stands;
        }

-- ## The bench then, and the bench after the actions but for the newest k

module _ (t : Remaining) (y : Bench) (k : ℕ) (p : Walked t y k) where
  abbrev ws : List Words
  ws = first_of t k

  abbrev z : Bench
  z = after_all y (backs k)

  abbrev v : Bench
  v = held_run t.start ws

  abbrev zs : Stands (remains t.start ws) z
  zs = p.stands

  then : Stands (remains t.start ws) v
  unfolding more
  then = stands-run ws (remains t.start []) t.start (stands-start t.start zs.start_hall zs.start_undo) zs.small zs.taken

  shorter : length (held_in z.undo) ≤ length (held_in v.undo)
  shorter =
      let first = held_in t.start.undo in
      let slots = slots_of t.start.hall ws in
      omega (
        arith,
        run-count ws t.start zs.start_hall zs.start_undo zs.small zs.taken,
        held-most z.undo zs.in_form,
        ap length zs.held.joins,
        length-append zs.held.out (held_in z.undo),
        length-append first slots,
        slots_length t.start.hall ws,
      )

  shows : Shows v z
  shows =
      record {
        hall = zs.hall ∙ sym then.hall;
        held = ending zs.held.out (held_in z.undo) then.held.out (held_in v.undo) (zs.held.joins ∙ sym then.held.joins) shorter;
        undo =
            zs.undo
            ∙ sym (ap (λ (u : List ℕ). with_held u (held_in z.undo)) then.undo
            ∙ with-again t.start.undo (held_in v.undo) (held-slots v.undo then.in_form) (held_in z.undo));
      }

  taken_back : TakenBack t y k
  taken_back = record { accepted = p.all; run = zs.hall; shows = shows }

-- ## The theorem

-- after any list of calls, and k steps back, at most as many as actions remain and slots are held
pub backs-undo : (x : Bench) → is_stored x.hall ≡ true → is_undo x.undo ≡ true → (cs : List BenchCall) → CallsFit cs
    → (k : ℕ) → k ≤ length (remaining x cs).actions → k ≤ length (held_in (after_all x cs).undo) → TakenBack (remaining x cs) (after_all x cs) k
backs-undo x s i cs fit k h g =
    let t = remaining x cs in
    let y = after_all x cs in
    taken_back t y k (walk k t y (calls-stand x s i cs fit) h g)

-- all that remain are taken back: the bench before the first of them
pub backs-start : (x : Bench) → is_stored x.hall ≡ true → is_undo x.undo ≡ true → (cs : List BenchCall) → CallsFit cs
    → length (remaining x cs).actions ≤ length (held_in (after_all x cs).undo)
    → Shows (remaining x cs).start (after_all (after_all x cs) (backs (length (remaining x cs).actions)))
unfolding held_run
backs-start x s i cs fit h =
    let t = remaining x cs in
    let n = length t.actions in
    let none : n - n ≡ 0 = omega arith in
    subst (λ (m : ℕ). Shows (held_run t.start (take m t.actions)) (after_all (after_all x cs) (backs n))) none
    (backs-undo x s i cs fit n (omega arith) h).shows
