-- A step back tried on a copy of the hall's stored bytes gives what the definition says of the whole slice; and what a step
-- back leaves. Assumes nothing.
use Prim.Native.Nat.{ℕ, ◌+◌, ◌^◌, ◌≤◌, ◌<◌}
use native.Mathlib.Omega.{arith}
use mathlib.Core.Path.{◌≡◌, refl, sym, ap, ap₂, ◌∙◌, subst}
use mathlib.Core.Bool.{Bool, true, false, true≢false, not}
use mathlib.Core.List.{List, [], ◌∷◌}
use mathlib.Core.Option.{some}
use lib.ListN.{length, take, drop, take-append-drop}
use lib.Seq.{sets, length-sets, length-take-le, take_at, take-take}
use borrow.Author.Tests.{leb-true}
use Rattle.std.specs.Prelude.{Result}
use Rattle.std.specs.Result.{IsErrAnd}
use Rattle.base.specs.Lists.{Each}
use Rattle.base.specs.Chains.{refuse}
use Rattle.base.proofs.ListsLaws.{each_right}
use Rattle.base.proofs.ChainsLaws.{first-refuses, first_passes}
use Rattle.codec.specs.Bytes.{same_bytes}
use Rattle.codec.specs.Form.{mapped, renamed, guarded}
use Rattle.codec.specs.Number.{number}
use Rattle.codec.specs.Pair.{given}
use Rattle.codec.proofs.SliceLaws.{sets-append-left}
use Rattle.model.specs.Answers.{accepted}
use Rattle.model.specs.Call.{Words, hl3, step}
use Rattle.model.specs.declared.refusals.Refusal.{Refusal}
use Rattle.model.specs.RefusalNumbers as refusal
use Rattle.model.proofs.RefusalNumbersLaws.{has-number, exit}
use Rattle.store.specs.Layout.{stored_length}
use Rattle.store.specs.StoredForm.{is_stored}
use Rattle.store.proofs.StoredFormLaws.{is_stored-long, is_stored-first, hall_of-first}
use Rattle.answer.specs.declared.Answer.{Answer}
use Rattle.answer.specs.Meaning.{meaning}
use Rattle.calls.specs.Calls.{step_on, run_on}
use Rattle.calls.specs.Steps.{Steps}
use Rattle.calls.proofs.HeldSteps.{step-answer}
use Rattle.step.specs.Numbers.{bytes_number}
use Rattle.undo.specs.declared.Action.{Action}
use Rattle.undo.specs.Buffer.{Slot, part_form, words_form, slot_form, held_in, newest_of, popped, put_back}
use Rattle.undo.specs.Code.{action_of, Holding}
use Rattle.undo.proofs.BufferLaws.{held-slots, newest-last}
use Rattle.undo.proofs.Rooms.{ended}
use Rattle.settling.proofs.CopyLaws.{whole-written, run-copy}
use Rattle.stepback.specs.Held.{bench_of, undo_number, leads, restored_by, can_step_back, SteppedBack, back_number}
use Rattle.stepback.specs.Steps.{StepsBack}
use Rattle.stepback.proofs.HeldLaws.{back_early, back-made, back-taken}

-- ## The newest slot

-- the slot that a buffer holds last, in form
record Newest (u : List ℕ) : Type 0 where
  pub slot : Slot
  pub is : newest_of (held_in u) ≡ some slot
  pub ok : slot_form.ok slot

newest-of : (u : List ℕ) → Holding u → Newest u
newest-of u i =
    let end = ended (held_in u) i.some in
    let all = subst (Each slot_form.ok) end.joins (held-slots u i.form).1 in
    record {
      slot = end.last;
      is = ap newest_of end.joins ∙ newest-last end.front end.last;
      ok = (each_right slot_form.ok end.front (end.last ∷ []) all).0;
    }

-- its words and parts
module _ (s : Slot) (ok : slot_form.ok s) where
  slot-low : s.words.a < 2 ^ 32
  unfolding slot_form renamed mapped given words_form number
  slot-low = omega (arith, ok.0.1.1.0.1)

  first-inside : s.first.offset + length s.first.bytes ≤ stored_length
  unfolding slot_form renamed mapped given part_form guarded
  first-inside = leb-true _ _ ok.1.0.1

  second-inside : s.second.offset + length s.second.bytes ≤ stored_length
  unfolding slot_form renamed mapped given part_form guarded
  second-inside = leb-true _ _ ok.1.1.1

-- ## On the first bytes

-- what is written within the first n bytes
sets_first : (n o : ℕ) (x b : List ℕ) → n ≤ length b → o + length x ≤ n → sets (take n b) o x ≡ take n (sets b o x)
sets_first n o x b few h =
    let l = length-take-le n b few in
    sym (ap (λ (z : List ℕ). take n (sets z o x)) (sym (take-append-drop n b))
    ∙ ap (take n) (sets-append-left (take n b) (drop n b) o x (omega (arith, l)))
    ∙ take_at (sets (take n b) o x) (drop n b) n (length-sets (take n b) o x ∙ l))

back-first : (b : List ℕ) (s : Slot) → slot_form.ok s → stored_length ≤ length b → put_back (take stored_length b) s ≡ take stored_length (put_back b s)
unfolding put_back
back-first b s ok long =
    let once = sets b s.first.offset s.first.bytes in
    ap (λ (z : List ℕ). sets z s.second.offset s.second.bytes) (sets_first stored_length s.first.offset s.first.bytes b long (first-inside s ok))
    ∙ sets_first stored_length s.second.offset s.second.bytes once (omega (arith, length-sets b s.first.offset s.first.bytes, long)) (second-inside s ok)

-- a step on a hall
module _ (b : List ℕ) (s : is_stored b ≡ true) (w : Words) where
  first-held : is_stored (take stored_length b) ≡ true
  first-held = is_stored-first b (is_stored-long b s) ∙ s

  step-first-answer : (step_on (take stored_length b) w).answer ≡ (step_on b w).answer
  step-first-answer = step-answer (take stored_length b) first-held w ∙ ap (λ h. (step hl3 h w).answer) (hall_of-first b) ∙ sym (step-answer b s w)

  step-first-bytes : w.a < 2 ^ 32 → (step_on (take stored_length b) w).bytes ≡ take stored_length (step_on b w).bytes
  unfolding run_on
  step-first-bytes low = run-copy b s (w ∷ []) (low, tt)

-- ## Tried on a copy

-- c is a slice z of the stored length with the stored part of b written in it, and d is c with the newest slot put back
module _ (b u : List ℕ) (held : is_stored b ≡ true) (i : Holding u) (z : List ℕ) (size : length z ≡ stored_length) (c : List ℕ)
    (written : c ≡ sets z 0 (take stored_length b)) (d : List ℕ) (back : (s : Slot) → newest_of (held_in u) ≡ some s → d ≡ put_back c s) where
  abbrev n : Newest u
  n = newest-of u i

  abbrev w : Words
  w = (newest-of u i).slot.words

  -- the hall that would be restored
  abbrev old : List ℕ
  old = put_back b (newest-of u i).slot

  abbrev answer : Bool
  answer = can_step_back b (newest_of (held_in u))

  old-long : stored_length ≤ length old
  unfolding put_back
  old-long =
      let p = n.slot.first in
      let q = n.slot.second in
      omega (arith, length-sets (sets b p.offset p.bytes) q.offset q.bytes, length-sets b p.offset p.bytes, is_stored-long b held)

  tried : d ≡ take stored_length old
  tried =
      let long = is_stored-long b held in
      back n.slot n.is
      ∙ ap (λ (x : List ℕ). put_back x n.slot) (written ∙ whole-written stored_length (take stored_length b) z (length-take-le stored_length b long) size)
      ∙ back-first b n.slot n.ok long

  tried-held : is_stored old ≡ is_stored d
  tried-held = sym (ap is_stored tried ∙ is_stored-first old old-long)

  answer-is : answer ≡ leads old w b
  unfolding can_step_back
  answer-is = ap (can_step_back b) n.is

  pub no-hall : is_stored d ≡ false → false ≡ answer
  unfolding leads
  no-hall f = sym (answer-is ∙ rw (tried-held ∙ f, leads))

  -- the newest action on it answers y and leaves e
  module _ (h : is_stored d ≡ true) (x : Action) (read : (s : Slot) → newest_of (held_in u) ≡ some s → action_of x ≡ s.words)
      (y : Result Answer Refusal) (e : List ℕ) (steps : Steps d x.k x.r x.a x.b y e) where
    old-held : is_stored old ≡ true
    old-held = tried-held ∙ h

    accepted-is : accepted (meaning y) ≡ accepted (step_on old w).answer
    accepted-is =
        ap accepted
        (steps.answer ∙ ap₂ (λ (v : List ℕ) (k : Words). (step_on v k).answer) tried (read n.slot n.is) ∙ step-first-answer old old-held w)

    bytes-are : take stored_length e ≡ take stored_length (step_on old w).bytes
    bytes-are =
        ap (take stored_length)
        (steps.bytes ∙ ap₂ (λ (v : List ℕ) (k : Words). (step_on v k).bytes) tried (read n.slot n.is)
        ∙ step-first-bytes old old-held w (slot-low n.slot n.ok))
        ∙ take-take stored_length stored_length (step_on old w).bytes (omega arith)

    pub not-accepted : accepted (meaning y) ≡ false → false ≡ answer
    unfolding leads
    not-accepted f = sym (answer-is ∙ rw (old-held, sym accepted-is ∙ f, leads))

    pub leads-same : accepted (meaning y) ≡ true → (t : Bool) → t ≡ same_bytes (take stored_length e) (take stored_length b) → t ≡ answer
    unfolding leads
    leads-same a t same =
        same ∙ ap (λ (v : List ℕ). same_bytes v (take stored_length b)) bytes-are ∙ sym (answer-is ∙ rw (old-held, sym accepted-is ∙ a, leads))

-- ## Its number

module _ (b u : List ℕ) where
  -- 31
  pub back-broken : (n : ℕ) → n ≡ bytes_number b → (n ≡ 0 → ⊥) → n ≡ back_number (bench_of b u)
  unfolding back_number
  back-broken n e ne = e ∙ sym (first-refuses (bytes_number b) _ (λ z. ne (e ∙ z)))

  module _ (n : ℕ) (e : n ≡ bytes_number b) (z : n ≡ 0) (m : ℕ) (f : m ≡ undo_number u) where
    -- 43
    pub back-unformed : (m ≡ 0 → ⊥) → m ≡ back_number (bench_of b u)
    unfolding back_number
    back-unformed ne = f ∙ sym (first_passes (bytes_number b) _ (sym e ∙ z) ∙ first-refuses (undo_number u) _ (λ y. ne (f ∙ y)))

    -- 43 or none
    pub back-judged : m ≡ 0 → (t : Bool) → t ≡ can_step_back b (newest_of (held_in u)) → refuse (not t) 43 ≡ back_number (bench_of b u)
    unfolding back_number
    back-judged y t is =
        ap (λ (t : Bool). refuse (not t) 43) is ∙ sym (first_passes (bytes_number b) _ (sym e ∙ z) ∙ first_passes (undo_number u) _ (sym f ∙ y))

-- ## What it leaves

pub none-held : (b : List ℕ) (xs : List Slot) → length xs ≡ 0 → false ≡ can_step_back b (newest_of xs)
unfolding can_step_back newest_of
none-held b [] e = refl
none-held b (x ∷ xs) e = absurd (omega arith)

module _ (b u : List ℕ) where
  -- one that is taken: a hall, and a buffer that holds an action
  pub back-holds : 0 ≡ back_number (bench_of b u) → (is_stored b ≡ true) × Holding u
  back-holds z =
      let t = back-taken (bench_of b u) (ap (λ (y : SteppedBack). y.number) (back-made (bench_of b u) (sym z))) in
      let some : length (held_in u) ≡ 0 → ⊥ = λ none. true≢false (sym t.2 ∙ sym (none-held b (held_in u) none)) in
      (t.0, record { form = t.1; some = omega (arith, some) })

  pub back-refused : {T : Type 0} (r : Result T Refusal) (why : Refusal) → IsErrAnd r (λ y. y ≡ why) → refusal.number why ≡ back_number (bench_of b u)
      → StepsBack b u (refusal.refused_by r) b u
  back-refused r why i e =
      let is = back_early (bench_of b u) (λ z. has-number why (e ∙ z)) in
      record {
        number = exit r why i ∙ e ∙ sym (ap (λ (y : SteppedBack). y.number) is);
        left =
            record {
              hall = sym (ap (λ (y : SteppedBack). y.left.hall) is);
              undo = sym (ap (λ (y : SteppedBack). y.left.undo) is);
            };
      }

  pub back_done : 0 ≡ back_number (bench_of b u) → (c v : List ℕ) → ((s : Slot) → newest_of (held_in u) ≡ some s → c ≡ put_back b s) → v ≡ popped u
      → StepsBack b u 0 c v
  unfolding restored_by
  back_done z c v put pops =
      let is = back-made (bench_of b u) (sym z) in
      let n = newest-of u (back-holds z).1 in
      record {
        number = sym (ap (λ (y : SteppedBack). y.number) is);
        left =
            record {
              hall = put n.slot n.is ∙ sym (ap (λ (y : SteppedBack). y.left.hall) is ∙ ap (restored_by b) n.is);
              undo = pops ∙ sym (ap (λ (y : SteppedBack). y.left.undo) is);
            };
      }
