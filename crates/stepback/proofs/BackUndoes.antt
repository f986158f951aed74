-- A step back undoes an accepted held step: the hall is the one before it, and so is the buffer, but for its oldest slot if 16
-- were held. Assumes nothing.
use Prim.Native.Nat.{ℕ, ◌+◌, ◌-◌, ◌^◌, ◌<◌}
use native.Mathlib.Omega.{arith}
use mathlib.Core.Path.{◌≡◌, sym, ap, ◌∙◌, subst}
use mathlib.Core.Bool.{true}
use mathlib.Core.List.{List, [], ◌∷◌, ◌++◌}
use mathlib.Core.Option.{some}
use lib.ListN.{length, take, drop, length-append}
use lib.Seq.{drop-append-le}
use Rattle.base.proofs.Bools.{and-true}
use Rattle.codec.proofs.BytesLaws.{same_refl}
use Rattle.codec.proofs.CellsLaws.{Each-append}
use Rattle.model.specs.Answers.{accepted}
use Rattle.model.specs.Call.{Words}
use Rattle.store.specs.Layout.{stored_length}
use Rattle.store.specs.StoredForm.{is_stored}
use Rattle.calls.specs.Calls.{step_on}
use Rattle.calls.proofs.HeldSteps.{step-holds}
use Rattle.undo.specs.Buffer.{Slot, slot_form, max_slots, is_undo, held_in, with_held, newest, newest_of, older, pushed, popped}
use Rattle.undo.specs.Parts.{slot_of}
use Rattle.undo.proofs.BufferLaws.{Slots, held-slots, undo-whole, with-again, newest-slots, newest-last, older-last, pushed-is_undo, pushed-held_in, popped-held_in}
use Rattle.undo.proofs.PartsCover.{put-back, slot_ok, accepted-small}
use Rattle.stepback.specs.Held.{Bench, bench_of, step_held_on, leads, restored_by, can_step_back, back_on}
use Rattle.stepback.specs.Promises.{kept_of, Undone}
use Rattle.stepback.proofs.HeldLaws.{step-taken, step-takes, back-takes}

-- ## A step back where the newest slot is that of the last step

module _ (b : List ℕ) (s : is_stored b ≡ true) (w : Words) (low : w.a < 2 ^ 32) (a : accepted (step_on b w).answer ≡ true) where
  abbrev c : List ℕ
  c = (step_on b w).bytes

  pub slot-fits : slot_form.ok (slot_of b w)
  slot-fits = let small = accepted-small b s w low a in slot_ok b s w small.0 small.1 low small.2

  leads-there : leads b w c ≡ true
  unfolding leads
  leads-there = and-true (is_stored b) _ s (and-true (accepted (step_on b w).answer) _ a (same_refl (take stored_length c)))

  module _ (u : List ℕ) (i : is_undo u ≡ true) (n : newest_of (held_in u) ≡ some (slot_of b w)) where
    can-step : can_step_back c (newest_of (held_in u)) ≡ true
    unfolding can_step_back slot_of
    can-step = ap (can_step_back c) n ∙ ap (λ (z : List ℕ). leads z w c) (put-back b s w low) ∙ leads-there

    restored : restored_by c (newest_of (held_in u)) ≡ b
    unfolding restored_by
    restored = ap (restored_by c) n ∙ put-back b s w low

    pub back-of : ((back_on (bench_of c u)).number ≡ 0) × ((back_on (bench_of c u)).left ≡ bench_of b (popped u))
    back-of =
        let t = back-takes (bench_of c u) (step-holds b s w low) i can-step in
        (t.0, t.1 ∙ ap (λ (z : List ℕ). bench_of z (popped u)) restored)

-- ## A slot pushed and popped

newest-more : (xs : List Slot) (s : Slot) → newest (xs ++ (s ∷ [])) ≡ kept_of xs ++ (s ∷ [])
unfolding newest
newest-more xs s =
    let e : length (xs ++ (s ∷ [])) - max_slots ≡ length xs + 1 - max_slots = omega (arith, length-append xs (s ∷ [])) in
    ap (λ (n : ℕ). drop n (xs ++ (s ∷ []))) e ∙ drop-append-le (length xs + 1 - max_slots) xs (s ∷ []) (omega arith)

module _ (u : List ℕ) (i : is_undo u ≡ true) (s : Slot) (ok : slot_form.ok s) where
  abbrev kept : List Slot
  kept = kept_of (held_in u)

  pushed-slots : Slots (newest (held_in u ++ (s ∷ [])))
  pushed-slots = newest-slots (held_in u ++ (s ∷ [])) (Each-append slot_form.ok (held_in u) (s ∷ []) (held-slots u i).1 (ok, tt))

  pushed-held : held_in (pushed u s) ≡ kept ++ (s ∷ [])
  pushed-held = pushed-held_in u i s ok ∙ newest-more (held_in u) s

  pushed-newest : newest_of (held_in (pushed u s)) ≡ some s
  pushed-newest = ap newest_of pushed-held ∙ newest-last kept s

  older-pushed : older (held_in (pushed u s)) ≡ kept
  older-pushed = ap older pushed-held ∙ older-last kept s

  popped-held : held_in (popped (pushed u s)) ≡ kept
  popped-held = popped-held_in (pushed u s) (pushed-is_undo u i s ok) ∙ older-pushed

  popped-is : popped (pushed u s) ≡ with_held u kept
  unfolding popped pushed
  popped-is = ap (with_held (pushed u s)) older-pushed ∙ with-again u (newest (held_in u ++ (s ∷ []))) pushed-slots kept

  -- fewer than 16: all are kept
  popped-same : length (held_in u) < max_slots → popped (pushed u s) ≡ u
  popped-same less =
      let e : length (held_in u) + 1 - max_slots ≡ 0 = omega arith in
      popped-is ∙ ap (λ (n : ℕ). with_held u (drop n (held_in u))) e ∙ undo-whole u i

-- ## The theorem

-- a held step that is accepted, so on a hall and a buffer in form, and then a step back
pub back-undoes : (x : Bench) (w : Words) → w.a < 2 ^ 32 → accepted (step_held_on x w).answer ≡ true → Undone x (step_held_on x w).left
back-undoes x w low a =
    let t = step-taken x w a in
    let s = slot_of x.hall w in
    let u = pushed x.undo s in
    let ok = slot-fits x.hall t.0 w low t.2 in
    let back = back-of x.hall t.0 w low t.2 u (pushed-is_undo x.undo t.1 s ok) (pushed-newest x.undo t.1 s ok) in
    let undo = ap (λ (z : Bench). z.undo) back.1 in
    subst (Undone x) (sym (step-takes x w t.0 t.1 t.2))
    (record {
      number = back.0;
      hall = ap (λ (z : Bench). z.hall) back.1;
      held = ap held_in undo ∙ popped-held x.undo t.1 s ok;
      undo = undo ∙ popped-is x.undo t.1 s ok;
      same = λ less. undo ∙ popped-same x.undo t.1 s ok less;
    })
