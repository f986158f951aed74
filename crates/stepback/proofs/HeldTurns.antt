-- Turn after turn of a held settle: the calls taken so far are held, and what is left of the settle. Assumes nothing.
use Prim.Native.Nat.{ℕ, ◌+◌, ◌<◌}
use native.Mathlib.Omega.{arith}
use mathlib.Core.Path.{◌≡◌, refl, sym, ap, ap₂, ◌∙◌}
use mathlib.Core.Bool.{true}
use mathlib.Core.List.{List, [], ◌∷◌, ◌++◌}
use Rattle.std.specs.Prelude.{Result, Ok, Err}
use Rattle.base.specs.Chains.{refuse}
use Rattle.base.proofs.ChainsLaws.{chain-none}
use Rattle.quorum.specs.Sets.{members}
use Rattle.model.specs.Answers.{Plain}
use Rattle.model.specs.Call.{Words, words_of, hl3}
use Rattle.model.specs.Settle.{greatest_view, cannot_settle, settle_call, settle_calls, Settling, calls_taken, plain_settle, max_turns, settle_from}
use Rattle.model.specs.declared.kinds.Kind.{Kind}
use Rattle.model.specs.declared.refusals.Refusal.{Refusal}
use Rattle.model.specs.KindNumbers.{kind_number}
use Rattle.store.specs.StoredForm.{hall_of}
use Rattle.answer.specs.Meaning.{settled_meaning}
use Rattle.calls.specs.Calls.{settling_on, settle_on}
use Rattle.calls.proofs.SettleLaws.{settling-held}
use Rattle.hall.specs.declared.View.{View}
use Rattle.hall.specs.Parts.{ViewIs}
use Rattle.step.specs.Numbers.{bytes_number}
use Rattle.settling.specs.Turns.{found, InView}
use Rattle.settling.specs.declared.Turn.{Turn}
use Rattle.settling.proofs.TakenLaws.{Going, going-none, none-taken, next-taken, going_next, going-full, going_done, going-out, taken-accepts, taken-low, whole-done, whole_out}
use Rattle.settling.proofs.CopyLaws.{not-barred, settle_goes}
use Rattle.progress.specs.AnyTurn.{any_turn}
use Rattle.undo.specs.Buffer.{is_undo}
use Rattle.undo.specs.Parts.{slot_of}
use Rattle.undo.specs.Code.{Accepts}
use Rattle.undo.proofs.BufferLaws.{pushed-is_undo}
use Rattle.undo.proofs.PartsCover.{accepted-small, slot_ok}
use Rattle.stepback.specs.Held.{Bench, bench_of, step_held_on, held_run, HeldSettle, settle_held_number}
use Rattle.stepback.specs.Steps.{Left, SettlesHeld}
use Rattle.stepback.specs.Turns.{TurnsHeld}
use Rattle.stepback.proofs.HeldLaws.{step-takes, settle-made, settle-links}

-- ## A held settle that is taken

-- no 42
pub settle-free : (x : Bench) → 0 ≡ settle_held_number x → 0 ≡ refuse (cannot_settle (hall_of x.hall)) 42
unfolding settle_held_number
settle-free x z = sym (chain-none (refuse (cannot_settle (hall_of x.hall)) 42) _ (chain-none (bytes_number x.hall) _ (sym z)).1).0

-- its turns are the settle's
pub settle-turns : (b u : List ℕ) → 0 ≡ settle_held_number (bench_of b u) → (v : View) → ViewIs (hall_of b) (greatest_view (hall_of b)) v
    → (x : Result ℕ Refusal) (c d : List ℕ) → TurnsHeld b u v x c d → SettlesHeld b u x c d
unfolding settle_on
settle-turns b u z v i x c d turns =
    let y = bench_of b u in
    let links = settle-links y (sym z) in
    let whole : settle_from hl3 max_turns v.number (hall_of b) ≡ settling_on b =
    ap (λ (g : ℕ). settle_from hl3 max_turns g (hall_of b)) i.number ∙ sym (settle_goes (hall_of b) (not-barred (hall_of b) (settle-free y z)))
    ∙ sym (settling-held b links.0) in
    let made = settle-made y (sym z) in
    let same : settled_meaning x ≡ (settle_on b).answer = turns.answer ∙ ap plain_settle whole in
    let left = turns.left (ap (λ (p : Plain). p.number) same ∙ links.2) in
    let run = ap (λ (s : Settling). held_run y (calls_taken s)) whole ∙ sym (ap (λ (h : HeldSettle). h.left) made) in
    record {
      answer = same ∙ sym (ap (λ (h : HeldSettle). h.answer) made);
      left = record { hall = left.hall ∙ ap (λ (q : Bench). q.hall) run; undo = left.undo ∙ ap (λ (q : Bench). q.undo) run };
    }

-- ## Turn after turn

-- the words of a call: its A is the view in kinds 6 and 7
pub call-words : (g k r a : ℕ) → a ≡ (settle_call g k 0).a → words_of k r a 0 ≡ settle_call g k r
unfolding settle_call
call-words g k r a e = ap (λ (x : ℕ). words_of k r x 0) e

run-last : (x : Bench) (ws : List Words) (w : Words) → held_run x (ws ++ (w ∷ [])) ≡ (step_held_on (held_run x ws) w).left
unfolding held_run
run-last x [] w = refl
run-last x (v ∷ ws) w = run-last (step_held_on x v).left ws w

-- the slices of a bench, and of an equal one
left-of : (x y : Bench) (c d : List ℕ) → Left x c d → x ≡ y → Left y c d
left-of x y c d l e = record { hall = l.hall ∙ ap (λ (z : Bench). z.hall) e; undo = l.undo ∙ ap (λ (z : Bench). z.undo) e }

-- after count turns from the slices b and u they are c and d
pub record GoingHeld (b u : List ℕ) (v : View) (count : ℕ) (c d : List ℕ) : Type 0 where
  pub going : Going b v count c
  pub left : Left (held_run (bench_of b u) going.taken) c d
  pub form : is_undo d ≡ true

pub held_none : (b u : List ℕ) (v : View) → InView b v → is_undo u ≡ true → GoingHeld b u v 0 b u
unfolding held_run
held_none b u v i f =
    record {
      going = going-none b v i;
      left = left-of (bench_of b u) _ b u (record { hall = refl; undo = refl }) (ap (held_run (bench_of b u)) (sym (none-taken b v i)));
      form = f;
    }

-- one turn more
module _ (b u : List ℕ) (v : View) (count : ℕ) (c d : List ℕ) (go : GoingHeld b u v count c d) (few : count < max_turns) (t : Turn)
    (is : found v.number t ≡ any_turn hl3 (hall_of c) (settle_calls v.number (members (hall_of c).size v.set))) where
  module _ (k : Kind) (r : ℕ) (takes-it : t ≡ Turn.Takes k r) where
    abbrev w : Words
    w = settle_call v.number (kind_number k) r

    pub call-accepts : Accepts c w
    call-accepts =
        record {
          holds = go.going.in_view.holds;
          low = taken-low b v count c go.going few t is k r takes-it;
          accepts = taken-accepts b v count c go.going few t is k r takes-it;
        }

    pub held_next : (c' d' : List ℕ) → Left (step_held_on (bench_of c d) w).left c' d' → GoingHeld b u v (count + 1) c' d'
    held_next c' d' l =
        let p = call-accepts in
        let low = accepted-small c p.holds w p.low p.accepts in
        let taken = step-takes (bench_of c d) w p.holds go.form p.accepts in
        let e = l.hall ∙ ap (λ (x : Bench). x.hall) taken in
        let next : (step_held_on (bench_of c d) w).left ≡ held_run (bench_of b u) (going_next b v count c go.going few t is k r takes-it c' e).taken =
        ap (λ (x : Bench). (step_held_on x w).left) (ap₂ bench_of go.left.hall go.left.undo) ∙ sym (run-last (bench_of b u) go.going.taken w)
        ∙ ap (held_run (bench_of b u)) (sym (next-taken b v count c go.going few t is k r takes-it c' e)) in
        record {
          going = going_next b v count c go.going few t is k r takes-it c' e;
          left = left-of _ _ c' d' l next;
          form =
              ap is_undo (l.undo ∙ ap (λ (x : Bench). x.undo) taken)
              ∙ pushed-is_undo d go.form (slot_of c w) (slot_ok c p.holds w low.0 low.1 p.low low.2);
        }

  -- 40 is met
  pub held-full : t ≡ Turn.Full → TurnsHeld b u v (Err Refusal.Full) c d
  held-full f = record { answer = (going-full b v count c go.going few t is f).answer; left = λ z. absurd (omega arith) }

  -- none is left
  pub held-done : t ≡ Turn.Nothing → TurnsHeld b u v (Ok count) c d
  unfolding calls_taken
  held-done f =
      let run = ap (λ (s : Settling). held_run (bench_of b u) (calls_taken s)) (sym (whole-done b v count c go.going few t is f)) in
      record { answer = (going_done b v count c go.going few t is f).answer; left = λ z. left-of _ _ c d go.left run }

-- as many turns as there can be
pub held_out : (b u : List ℕ) (v : View) (count : ℕ) (c d : List ℕ) → GoingHeld b u v count c d → max_turns ≡ count → TurnsHeld b u v (Ok max_turns) c d
unfolding calls_taken
held_out b u v count c d go all =
    let run = ap (λ (s : Settling). held_run (bench_of b u) (calls_taken s)) (sym (whole_out b v count c go.going (omega (arith, all)))) in
    record { answer = (going-out b v count c go.going all).answer; left = λ z. left-of _ _ c d go.left run }
