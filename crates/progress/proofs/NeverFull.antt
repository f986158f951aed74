-- 40 is never given in a hall reached from opening, whatever the call (02, A5 and A14).
-- Assumes nothing.
use Prim.Native.Nat.{ℕ, suc, ◌≤◌}
use native.Mathlib.Omega.{arith}
use mathlib.Core.Path.{◌≡◌, refl, sym, ◌∙◌}
use mathlib.Core.Logic.{inr}
use mathlib.Core.Bool.{Bool, true, false, ◌||◌}
use mathlib.Core.List.{List, [], ◌∷◌}
use lib.Dec.{eqb}
use lib.ListN.{length}
use borrow.Author.Tests.{eqb-true, eqb-false, leb-true, not-true, not-false}
use Rattle.base.specs.Chains.{refuse, ◌⨾◌}
use Rattle.base.specs.Lists.{is_empty}
use Rattle.base.proofs.Bools.{or-none, not-both}
use Rattle.base.proofs.ChainsLaws.{passes, first-refuses, first_passes, link-but}
use Rattle.base.proofs.ListsLaws.{head-rest}
use Rattle.model.specs.Hall.{Message, Hall}
use Rattle.model.specs.Service.{is_created, is_member, has_pending, can_receive, queued_at}
use Rattle.model.specs.Kinds.{Kind, submit, label, send_entry, send_summary, form, enter, place, receive, notice, confirm, deliver, KindWord, kind, no_kind, kind_of, uses, wrong_recorder, stray_word, wrong_number, wrong_set, input_refusal}
use Rattle.model.specs.Answers.{refused, plain, accepted}
use Rattle.model.specs.Refusals.{Rules, entries_full, views_full, not_above_formed, not_formed, not_member, not_above_current, no_view, not_normal, cannot_label, not_send, none_waiting, buffer_empty, none_pending, none_to_receive, none_to_notice, order_ends, all_reported, not_received_by_all, order_at, not_safe, not_known, to_receive, buffer_head, state_refusal}
use Rattle.model.specs.Actions.{Outcome, perform, refusal, act}
use Rattle.model.specs.Opening.{Opening, open_refusal, opened}
use Rattle.model.specs.Call.{Words, step}
use Rattle.model.specs.Run.{run}
use Rattle.model.specs.Agreed.{FairRules}
use Rattle.model.proofs.Accepting.Moves.{current, CanReceive, at_mark}
use Rattle.model.proofs.Accepting.Phases.{is-send}
use Rattle.model.proofs.Accepting.Performed.{can-label}
use Rattle.model.proofs.Accepting.Accepted.{performed-accepted}
use Rattle.model.proofs.Settling.TurnLaws.{number_at}
use Rattle.progress.proofs.Reached.{Reached, reached-from}
use Rattle.progress.proofs.RoomToSend.{room-to-label, room-to-send, room-to-tell}
use Rattle.progress.proofs.RoomToPlace.{room-to-place}
use Rattle.progress.proofs.RoomToReceive.{room-to-receive}

-- ## Chains that come to 40

-- a link with another number than 40 does not refuse, and the rest of the chain comes to 40
past : (t : Bool) (k b : ℕ) → eqb (suc k) 40 ≡ false → refuse t (suc k) ⨾ b ≡ 40 → (t ≡ false) × (b ≡ 40)
past t k b ne e =
    let passed = (link-but 40 t k b ne (inr e)).0 in
    (passed, sym (passes t (suc k) b passed) ∙ e)

-- a chain that ends with another number does not come to 40
not_last : (t : Bool) (k : ℕ) → eqb (suc k) 40 ≡ false → refuse t (suc k) ≡ 40 → ⊥
unfolding refuse
not_last true k ne e = eqb-false (suc k) 40 ne e
not_last false k ne e = omega arith

-- nor does one that ends with 40, where there is room
last : (t : Bool) → t ≡ false → refuse t 40 ≡ 40 → ⊥
unfolding refuse
last true room e = not-both refl room
last false room e = omega arith

not-empty : {A : Type 0} (xs : List A) → is_empty xs ≡ false → 1 ≤ length xs
unfolding is_empty
not-empty [] e = absurd (not-both refl e)
not-empty (x ∷ xs) e = omega arith

-- 12 to 15 are not 40
input-not : (n : ℕ) (κ : Kind) (r a b : ℕ) → input_refusal n κ r a b ≡ 40 → ⊥
unfolding input_refusal
input-not n κ r a b e =
    let u = uses κ in
    let one = past (wrong_recorder n u.r r) _ _ refl e in
    let two = past (stray_word u.a a || stray_word u.b b) _ _ refl one.1 in
    let three = past (wrong_number u.a a || wrong_number u.b b) _ _ refl two.1 in
    not_last (wrong_set n u.a a || wrong_set n u.b b) _ refl three.1

-- ## One call

module _ (rules : Rules) (fair : FairRules rules) (h : Hall) (x : Reached rules h) where
  in-view : (r : ℕ) → no_view h r ≡ false → 1 ≤ current h r
  unfolding no_view
  in-view r e = omega (arith, eqb-false (current h r) 0 e)

  module _ (r a : ℕ) where
    -- 2
    never-label : state_refusal rules h label r a ≡ 40 → ⊥
    unfolding state_refusal
    never-label e =
        let can = can-label rules h r a (inr e) in
        let one = past (cannot_label h r) _ _ refl e in
        let two = past (none_waiting h r) _ _ refl one.1 in
        last _ (room-to-label rules h x r can.in_view _ can) two.1

    -- 3
    never-send : state_refusal rules h send_entry r a ≡ 40 → ⊥
    unfolding state_refusal buffer_empty
    never-send e =
        let one = past (no_view h r || not_normal h r) _ _ refl e in
        let two = past (buffer_empty h r) _ _ refl one.1 in
        let three = past (not_known h r (buffer_head h r)) _ _ refl two.1 in
        let view = in-view r (or-none (no_view h r) (not_normal h r) one.0).0 in
        last _ (room-to-send rules h x r view (not-empty (h.recorders.buffer r) two.0)) three.1

    -- 4
    never-tell : state_refusal rules h send_summary r a ≡ 40 → ⊥
    unfolding state_refusal not_send
    never-tell e =
        let one = past (no_view h r || not_send h r) _ _ refl e in
        let both = or-none (no_view h r) (not_send h r) one.0 in
        last _ (room-to-tell rules h x r (in-view r both.0) (is-send _ (not-false _ both.1))) one.1

    -- 7
    never-place : state_refusal rules h place r a ≡ 40 → ⊥
    unfolding state_refusal not_formed not_member none_pending has_pending is_created is_member
    never-place e =
        let one = past (not_formed h a) _ _ refl e in
        let two = past (not_member h r a) _ _ refl one.1 in
        let three = past (none_pending h r a) _ _ refl two.1 in
        let head = head-rest (h.service.pending r a) (Message.entry 0) (not-true _ (not-false _ three.0)) in
        let formed = x.inv.views.counted a (not-false _ one.0) in
        last _ (room-to-place rules h x r a formed (not-false _ two.0) _ _ head) three.1

    -- 8
    never-receive : state_refusal rules h receive r a ≡ 40 → ⊥
    unfolding state_refusal none_to_receive can_receive to_receive queued_at
    never-receive e =
        let one = past (no_view h r) _ _ refl e in
        let two = past (none_to_receive h r) _ _ refl one.1 in
        let can : CanReceive h r (to_receive h r).source (to_receive h r).message =
        record {
          in_view = in-view r one.0;
          here = at_mark _ _ _ (x.inv.marks.low r (current h r)) (leb-true _ _ (not-false _ two.0));
        } in
        last _ (room-to-receive rules fair h x r (to_receive h r).source (to_receive h r).message can) two.1

    -- the other kinds have no 40 in their chains
    state-never : (κ : Kind) → state_refusal rules h κ r a ≡ 40 → ⊥
    unfolding state_refusal
    state-never submit e = not_last (entries_full h) _ refl e
    state-never label e = never-label e
    state-never send_entry e = never-send e
    state-never send_summary e = never-tell e
    state-never form e = not_last (not_above_formed h a) _ refl (past (views_full h) _ _ refl e).1
    state-never enter e =
        not_last (not_above_current h r a) _ refl (past (not_member h r a) _ _ refl (past (not_formed h a) _ _ refl e).1).1
    state-never place e = never-place e
    state-never receive e = never-receive e
    state-never notice e =
        not_last (not_received_by_all h r) _ refl (past (none_to_notice h r) _ _ refl (past (no_view h r) _ _ refl e).1).1
    state-never confirm e = not_last (not_safe h r) _ refl (past (order_ends h r (h.recorders.confirm r)) _ _ refl e).1
    state-never deliver e =
        not_last (not_known h r (order_at h r (h.recorders.report r))) _ refl
        (past (all_reported h r || order_ends h r (h.recorders.report r)) _ _ refl e).1

  refusal-never : (κ : Kind) (r a b : ℕ) → refusal rules h κ r a b ≡ 40 → ⊥
  unfolding refusal
  refusal-never κ r a b e = go (eqb (input_refusal h.size κ r a b) 0) refl
    where
      go : (t : Bool) → eqb (input_refusal h.size κ r a b) 0 ≡ t → ⊥
      go true t = state-never r a κ (sym (first_passes _ _ (eqb-true _ 0 t)) ∙ e)
      go false t = input-not h.size κ r a b (sym (first-refuses _ (state_refusal rules h κ r a) (eqb-false _ 0 t)) ∙ e)

  -- no call of any kind is answered with 40
  pub never-40 : (w : Words) → number_at rules h w ≡ 40 → ⊥
  unfolding step act accepted plain
  never-40 w = word (kind_of w.k)
    where
      test : (κ : Kind) (t : Bool)
          → (plain (elim t as (λ t. Outcome) [
            | true ↦ perform rules h κ w.r w.a w.b
            | false ↦ record { hall = h; answer = refused (refusal rules h κ w.r w.a w.b) }
          ]).answer).number ≡ 40 → ⊥
      test κ true e =
          let o = perform rules h κ w.r w.a w.b in
          omega (arith, eqb-true (plain o.answer).number 0 (performed-accepted rules h κ w.r w.a w.b))
      test κ false e = refusal-never κ w.r w.a w.b e

      word : (y : KindWord)
          → (plain (elim y as (λ y. Outcome) [
            | kind κ ↦ act rules h κ w.r w.a w.b
            | no_kind ↦ record { hall = h; answer = refused 11 }
          ]).answer).number ≡ 40 → ⊥
      word (kind κ) e = test κ (eqb (refusal rules h κ w.r w.a w.b) 0) e
      word no_kind e = omega arith

-- "40 is never given in a hall reached from opening" (02, A14)
pub never-full : (rules : Rules) → FairRules rules → (o : Opening) → open_refusal o ≡ 0 → (ws : List Words) → (w : Words)
    → (plain (step rules (run rules (opened o) ws) w).answer).number ≡ 40 → ⊥
never-full rules fair o taken ws = never-40 rules fair (run rules (opened o) ws) (reached-from rules fair o taken ws)
