-- The two parts of an action cover what it writes: put back, the bytes are those before it. They have a slot's form.
-- Assumes nothing.
use Prim.Native.Nat.{ℕ, suc, ◌+◌, ◌^◌, ◌≤◌, ◌<◌}
use native.Mathlib.Omega.{arith}
use mathlib.Core.Path.{◌≡◌, refl, sym, ap, subst, subst₂, ◌∙◌}
use mathlib.Core.Bool.{true, false}
use mathlib.Core.List.{List, [], ◌∷◌}
use lib.ListN.{length, get_or, drop}
use borrow.Author.Tests.{eqb-false, le-leb}
use Rattle.base.specs.Lists.{Each}
use Rattle.base.proofs.Bools.{by_cases}
use Rattle.base.proofs.ChainsLaws.{chain-none}
use Rattle.model.specs.Hall.{Hall, max_recorders}
use Rattle.model.specs.Kinds.{kind, kind_of, input_refusal}
use Rattle.model.specs.Answers.{accepted, plain}
use Rattle.model.specs.Refusals.{state_refusal}
use Rattle.model.specs.Actions as actions
use Rattle.model.specs.Actions.{refusal}
use Rattle.model.specs.Call.{Words, hl3, step}
use Rattle.model.proofs.Accepting.Performed.{kind-of-number}
use Rattle.model.proofs.Accepting.Accepted.{Performed, accepted-performed}
use Rattle.codec.specs.Bytes.{Block, part}
use Rattle.codec.specs.Form.{mapped, renamed, guarded}
use Rattle.codec.specs.Number.{number, byte}
use Rattle.codec.specs.Pair.{given}
use Rattle.codec.proofs.BytesLaws.{part-take, block-part}
use Rattle.codec.specs.Covers.{Covers}
use Rattle.codec.proofs.PutBack.{restored}
use Rattle.store.specs.Layout.{recorder_size, endpoint_size, stored_length}
use Rattle.store.specs.StoredForm.{hall_of, is_stored}
use Rattle.store.proofs.StoredFormLaws.{is_stored-held, hall_of-valid, stored-slice}
use Rattle.calls.specs.Calls.{with_hall, step_on}
use Rattle.calls.proofs.HeldSteps.{step-answer}
use Rattle.calls.proofs.Refused.{step_keeps}
use Rattle.calls.proofs.RunLaw.{step-stored}
use Rattle.undo.specs.Buffer.{part_form, words_form, slot_form, put_back}
use Rattle.undo.specs.Parts.{Place, places_of, parts, nothing, part_of, slot_of}
use Rattle.undo.proofs.Covering.{Covered, unchanged}
use Rattle.undo.proofs.Judging.{kind-small, words_small}
use Rattle.undo.proofs.KindsCover.{kind-covered}

-- numbers below 256 are bytes
all-bytes : (xs : List ℕ) → ((i : ℕ) → get_or xs i 0 < 256) → Each (byte 0 255).ok xs
unfolding number
all-bytes [] h = tt
all-bytes (x ∷ xs) h = ((omega arith, omega (arith, h 0)), all-bytes xs (λ i. h (suc i)))

module _ (b : List ℕ) (s : is_stored b ≡ true) where
  -- a place within the stored form, and no longer than the room, has a form
  part-ok : (room : ℕ) (p : Place) → p.offset + p.size ≤ stored_length → p.size ≤ room → (part_form room).ok (part_of b p)
  unfolding part_form guarded renamed mapped given number
  part-ok room p inside few =
      let bytes : Block p.size (part p.offset p.size b) =
      subst (Block p.size) (part-take p.offset p.size stored_length b inside) (block-part p.offset p.size inside (is_stored-held b s).block) in (
        ((omega arith, omega arith), (omega (arith, bytes.len), all-bytes (part p.offset p.size b) bytes.byte)),
        le-leb (p.offset + length (part p.offset p.size b)) stored_length (omega (arith, bytes.len)),
      )

module _ (b : List ℕ) (s : is_stored b ≡ true) (w : Words) where
  abbrev h : Hall
  h = hall_of b

  step-bytes : (step_on b w).bytes ≡ with_hall b (step hl3 h w).hall
  unfolding with_hall
  step-bytes = ap (λ (c : List ℕ). (step_on c w).bytes) (sym (stored-slice b s)) ∙ (step-stored h (hall_of-valid b s) (drop stored_length b) w).1

  refused-covered : accepted (step_on b w).answer ≡ false → Covered b (step_on b w).bytes (parts b w)
  unfolding accepted parts
  refused-covered f =
      let none : parts b w ≡ nothing = rw (f, parts) refl in
      subst (Covered b (step_on b w).bytes) (sym none) (unchanged s (step_keeps b w (eqb-false (plain (step_on b w).answer).number 0 f)))

  module _ (t : accepted (step_on b w).answer ≡ true) where
    pub performed : Performed hl3 h w
    performed = accepted-performed hl3 h w (sym (ap accepted (step-answer b s w)) ∙ t)

    -- nothing of 12 to 15 and of 32 to 40 refuses it
    pub passed : (input_refusal h.size performed.what w.r w.a w.b ≡ 0) × (state_refusal hl3 h performed.what w.r w.a ≡ 0)
    unfolding refusal
    passed = chain-none _ _ performed.allowed

    pub its-places : parts b w ≡ places_of h performed.what w.r w.a
    unfolding parts
    its-places =
        let is : kind_of w.k ≡ kind performed.what = ap kind_of performed.is_kind ∙ kind-of-number performed.what in
        rw (t, is, parts) refl

    accepted-covered : w.a < 2 ^ 32 → Covered b (step_on b w).bytes (parts b w)
    accepted-covered small =
        subst₂ (Covered b)
        (sym (step-bytes ∙ ap (λ (o : actions.Outcome). with_hall b o.hall) performed.outcome))
        (sym its-places)
        (kind-covered b w.r w.a w.b small performed.what (record { holds = s; words = passed.0 }) passed.1)

    -- 11 to 15 let small words pass
    pub accepted-words : (w.k ≤ 11) × (w.r ≤ max_recorders) × (w.b < 2 ^ max_recorders)
    accepted-words =
        let v = words_small h.size performed.what w.r w.a w.b passed.0 (hall_of-valid b s).in_range.size.1 in
        (subst (λ (k : ℕ). k ≤ 11) (sym performed.is_kind) (kind-small performed.what), v.0, v.1)

  module _ (small : w.a < 2 ^ 32) where
    covered : Covered b (step_on b w).bytes (parts b w)
    covered = by_cases (accepted (step_on b w).answer) (λ t. accepted-covered t small) (λ f. refused-covered f)

    pub parts-cover : Covers b (step_on b w).bytes (parts b w).first.offset (parts b w).first.size (parts b w).second.offset (parts b w).second.size
    parts-cover = covered.covers

    pub parts-inside : ((parts b w).first.offset + (parts b w).first.size ≤ stored_length)
        × ((parts b w).second.offset + (parts b w).second.size ≤ stored_length)
    parts-inside = (covered.first_in, covered.second_in)

    pub parts-small : ((parts b w).first.size ≤ recorder_size) × ((parts b w).second.size ≤ endpoint_size)
    parts-small = (covered.first_small, covered.second_small)

    pub put-back : put_back (step_on b w).bytes (slot_of b w) ≡ b
    unfolding put_back slot_of
    put-back =
        restored b (step_on b w).bytes (parts b w).first.offset (parts b w).first.size (parts b w).second.offset (parts b w).second.size parts-cover

    pub accepted-small : accepted (step_on b w).answer ≡ true → (w.k < 2 ^ 32) × (w.r < 2 ^ 32) × (w.b < 2 ^ 32)
    accepted-small t = let v = accepted-words t in (omega arith, omega arith, omega arith)

  pub slot_ok : w.k < 2 ^ 32 → w.r < 2 ^ 32 → w.a < 2 ^ 32 → w.b < 2 ^ 32 → slot_form.ok (slot_of b w)
  unfolding slot_form words_form renamed mapped given number slot_of
  slot_ok k r a d =
      let i = parts-inside a in
      let f = parts-small a in (
        ((omega arith, omega arith), ((omega arith, omega arith), ((omega arith, omega arith), (omega arith, omega arith)))),
        (part-ok b s recorder_size (parts b w).first i.0 f.0, part-ok b s endpoint_size (parts b w).second i.1 f.1),
      )
