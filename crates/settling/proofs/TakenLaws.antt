-- Turn after turn: the calls taken so far, and what is left of the settle. Assumes nothing.
use Prim.Native.Nat.{ℕ, suc, ◌+◌, ◌-◌, ◌^◌, ◌≤◌, ◌<◌}
use native.Mathlib.Omega.{arith}
use mathlib.Core.Path.{◌≡◌, refl, sym, ap, ap₂, ◌∙◌, subst}
use mathlib.Core.Bool.{true}
use mathlib.Core.List.{List, [], ◌∷◌, ◌++◌}
use lib.ListN.{length, length-append}
use borrow.Author.Tests.{eq-eqb}
use Rattle.std.specs.Prelude.{Ok, Err}
use Rattle.quorum.specs.Sets.{members, mask}
use Rattle.model.specs.Hall.{Hall}
use Rattle.model.specs.Answers.{Answer, Plain, plain, accepted}
use Rattle.model.specs.Call.{Words, hl3, step}
use Rattle.model.specs.declared.refusals.Refusal.{Refusal}
use Rattle.model.specs.declared.kinds.Kind as code
use Rattle.model.specs.KindNumbers.{kind_number}
use Rattle.model.specs.Settle as model
use Rattle.model.specs.Settle.{greatest_view, settle_call, settle_calls, takes, full, none, turn_of, Settling, settled, refused, and_then, calls_taken, plain_settle, max_turns, settle_from}
use Rattle.model.proofs.Settling.TurnLaws.{Found, Finds, finds, call-of}
use Rattle.model.proofs.Settling.SettleRun.{call-low}
use Rattle.model.proofs.Settling.ViewsKept.{SameViews, settle-views, same-greatest}
use Rattle.store.specs.Valid.{ValidHall}
use Rattle.store.specs.StoredForm.{hall_of, is_stored}
use Rattle.store.proofs.StoredFormLaws.{hall_of-valid}
use Rattle.store.proofs.MasksLaws.{members-mask}
use Rattle.calls.specs.Calls.{step_on, run_on}
use Rattle.calls.proofs.HeldSteps.{step-answer, step-holds, step-hall}
use Rattle.progress.specs.AnyTurn.{any_turn}
use Rattle.progress.proofs.GreatestView.{greatest-number, members-rise, members-in}
use Rattle.progress.proofs.AllEntered.{turn-any}
use Rattle.hall.specs.declared.View.{View}
use Rattle.settling.specs.declared.Turn.{Turn}
use Rattle.settling.specs.Turns.{found, InView, TurnsTaken}

-- calls taken before what is left of a settle
unfoldable pub before : List Words → Settling → Settling
before [] x = x
before (w ∷ ws) x = and_then w (before ws x)

before-append : (ws : List Words) (w : Words) (x : Settling) → before ws (and_then w x) ≡ before (ws ++ (w ∷ [])) x
unfolding before
before-append [] w x = refl
before-append (v ∷ ws) w x = ap (and_then v) (before-append ws w x)

-- they end well, and refused
before-settled : (ws : List Words) → before ws (settled []) ≡ settled ws
unfolding before and_then
before-settled [] = refl
before-settled (w ∷ ws) = ap (and_then w) (before-settled ws)

before-refused : (ws : List Words) (n : ℕ) → before ws (refused n) ≡ refused n
unfolding before and_then
before-refused [] n = refl
before-refused (w ∷ ws) n = ap (and_then w) (before-refused ws n)

run-last : (b : List ℕ) (ws : List Words) (w : Words) → (step_on (run_on b ws) w).bytes ≡ run_on b (ws ++ (w ∷ []))
unfolding run_on
run-last b [] w = refl
run-last b (v ∷ ws) w = run-last (step_on b v).bytes ws w

-- after count turns from the bytes b the bytes are c
pub record Going (b : List ℕ) (v : View) (count : ℕ) (c : List ℕ) : Type 0 where
  pub taken : List Words
  pub many : length taken ≡ count
  pub bytes : c ≡ run_on b taken
  pub in_view : InView c v
  pub left : settle_from hl3 max_turns v.number (hall_of b) ≡ before taken (settle_from hl3 (max_turns - count) v.number (hall_of c))

pub going-none : (b : List ℕ) (v : View) → InView b v → Going b v 0 b
unfolding before run_on
going-none b v i = record { taken = []; many = refl; bytes = refl; in_view = i; left = refl }

pub none-taken : (b : List ℕ) (v : View) (i : InView b v) → (going-none b v i).taken ≡ []
unfolding going-none
none-taken b v i = refl

-- what a turn of the code finds is what a turn of the definition finds
module _ (c : List ℕ) (v : View) (i : InView c v) (t : Turn)
    (is : found v.number t ≡ any_turn hl3 (hall_of c) (settle_calls v.number (members (hall_of c).size v.set))) where
  abbrev h : Hall
  h = hall_of c

  abbrev g : ℕ
  g = v.number

  valid : ValidHall h
  valid = hall_of-valid c i.holds

  set_is : members h.size v.set ≡ h.service.members (greatest_view h)
  set_is = ap (members h.size) i.view.set ∙ members-mask h.size (h.service.members (greatest_view h)) (members-rise h valid (greatest_view h), members-in h valid (greatest_view h))

  pub is-turn : found g t ≡ turn_of hl3 h g
  is-turn =
      is ∙ ap₂ (λ (a : ℕ) (l : List ℕ). any_turn hl3 h (settle_calls a l)) i.view.number set_is
      ∙ sym (turn-any hl3 h valid) ∙ ap (turn_of hl3 h) (sym i.view.number)

-- the answer of n steps
counted : ℕ → Plain
counted n = record { number = 0; values = n ∷ [] }

-- one turn more
module _ (b : List ℕ) (v : View) (count : ℕ) (c : List ℕ) (go : Going b v count c) (few : count < max_turns) (t : Turn)
    (is : found v.number t ≡ any_turn hl3 (hall_of c) (settle_calls v.number (members (hall_of c).size v.set))) where
  abbrev here : Hall
  here = hall_of c

  abbrev number : ℕ
  number = v.number

  fuel : max_turns - count ≡ suc (max_turns - (count + 1))
  fuel = omega arith

  -- what is left, by what this turn finds
  after_turn : model.Turn → Settling
  after_turn u = elim u [ takes w ↦ and_then w (settle_from hl3 (max_turns - (count + 1)) number (step hl3 here w).hall) | full ↦ refused 40 | none ↦ settled [] ]

  left_is : settle_from hl3 max_turns number (hall_of b) ≡ before go.taken (after_turn (found number t))
  unfolding settle_from after_turn
  left_is =
      go.left ∙ ap (λ n. before go.taken (settle_from hl3 n number here)) fuel
      ∙ ap (λ (u : model.Turn). before go.taken (after_turn u)) (sym (is-turn c v go.in_view t is))

  -- the call that it takes
  module _ (k : code.Kind) (r : ℕ) (takes-it : t ≡ Turn.Takes k r) where
    abbrev w : Words
    w = settle_call number (kind_number k) r

    low : number < 2 ^ 32
    low = omega (arith, greatest-number here (hall_of-valid c go.in_view.holds), go.in_view.view.number)

    found_it : turn_of hl3 here number ≡ takes w
    unfolding found
    found_it = sym (is-turn c v go.in_view t is) ∙ ap (found number) takes-it

    finds-it : Found hl3 here number (settle_calls number (here.service.members number)) w 0
    unfolding turn_of Finds
    finds-it =
        subst (Finds hl3 here number (settle_calls number (here.service.members number))) found_it
        (finds hl3 here number (settle_calls number (here.service.members number)))

    -- it is accepted
    pub taken-accepts : accepted (step_on c w).answer ≡ true
    unfolding accepted
    taken-accepts = eq-eqb _ 0 (ap (λ (x : Answer). (plain x).number) (step-answer c go.in_view.holds w) ∙ finds-it.number)

    pub taken-low : w.a < 2 ^ 32
    taken-low = call-low number (kind_number k) r low

    same : SameViews here (step hl3 here w).hall
    same =
        let f = finds-it in
        let x = call-of number (here.service.members number) f.before f.after w f.split in
        subst (λ (u : Words). SameViews here (step hl3 here u).hall) (sym x.words) (settle-views hl3 here number x.kind x.recorder x.listed)

    pub going_next : (d : List ℕ) → d ≡ (step_on c w).bytes → Going b v (count + 1) d
    unfolding after_turn found
    going_next d e =
        let held = go.in_view.holds in
        let hall-is : hall_of d ≡ (step hl3 here w).hall = ap hall_of e ∙ step-hall c held w (call-low number (kind_number k) r low) in
        let views : SameViews here (hall_of d) = subst (SameViews here) (sym hall-is) same in
        let greatest = same-greatest here (hall_of d) views in
        record {
          taken = go.taken ++ (w ∷ []);
          many = length-append go.taken (w ∷ []) ∙ ap (λ n. n + 1) go.many;
          bytes = e ∙ ap (λ (x : List ℕ). (step_on x w).bytes) go.bytes ∙ run-last b go.taken w;
          in_view =
              record {
                holds = ap is_stored e ∙ step-holds c held w (call-low number (kind_number k) r low);
                view =
                    record {
                      number = go.in_view.view.number ∙ sym greatest;
                      set = go.in_view.view.set ∙ sym (ap₂ (λ (m : ℕ → List ℕ) (g : ℕ). mask (m g)) views.members greatest);
                    };
              };
          left =
              left_is ∙ ap (λ (u : Turn). before go.taken (after_turn (found number u))) takes-it
              ∙ before-append go.taken w (settle_from hl3 (max_turns - (count + 1)) number (step hl3 here w).hall)
              ∙ ap (λ (x : Hall). before (go.taken ++ (w ∷ [])) (settle_from hl3 (max_turns - (count + 1)) number x)) (sym hall-is);
        }

    pub next-taken : (d : List ℕ) (e : d ≡ (step_on c w).bytes) → (going_next d e).taken ≡ go.taken ++ (w ∷ [])
    unfolding going_next
    next-taken d e = refl

  -- it meets 40
  pub going-full : t ≡ Turn.Full → TurnsTaken b v (Err Refusal.Full) c
  unfolding after_turn found plain_settle
  going-full f =
      let whole = left_is ∙ ap (λ (u : Turn). before go.taken (after_turn (found number u))) f ∙ before-refused go.taken 40 in
      record { answer = sym (ap plain_settle whole); bytes = λ z. absurd (omega arith) }

  -- none is left: these are the settle's calls
  pub whole-done : t ≡ Turn.Nothing → settle_from hl3 max_turns number (hall_of b) ≡ settled go.taken
  unfolding after_turn found
  whole-done f = left_is ∙ ap (λ (u : Turn). before go.taken (after_turn (found number u))) f ∙ before-settled go.taken

  pub going_done : t ≡ Turn.Nothing → TurnsTaken b v (Ok count) c
  unfolding plain_settle calls_taken counted
  going_done f =
      let whole = whole-done f in
      record {
        answer = ap counted (sym go.many) ∙ sym (ap plain_settle whole);
        bytes = λ z. go.bytes ∙ sym (ap (λ (s : Settling). run_on b (calls_taken s)) whole);
      }

-- as many turns as there can be
pub whole_out : (b : List ℕ) (v : View) (count : ℕ) (c : List ℕ) (go : Going b v count c) → max_turns ≤ count
    → settle_from hl3 max_turns v.number (hall_of b) ≡ settled go.taken
unfolding settle_from
whole_out b v count c go out =
    let z : max_turns - count ≡ 0 = omega arith in
    go.left ∙ ap (λ n. before go.taken (settle_from hl3 n v.number (hall_of c))) z ∙ before-settled go.taken

pub going-out : (b : List ℕ) (v : View) (count : ℕ) (c : List ℕ) → Going b v count c → max_turns ≡ count → TurnsTaken b v (Ok max_turns) c
unfolding plain_settle calls_taken counted
going-out b v count c go all =
    let whole = whole_out b v count c go (omega (arith, all)) in
    record {
      answer = ap counted (all ∙ sym go.many) ∙ sym (ap plain_settle whole);
      bytes = λ y. go.bytes ∙ sym (ap (λ (s : Settling). run_on b (calls_taken s)) whole);
    }
