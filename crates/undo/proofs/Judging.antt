-- The words that pass 12 to 15 are small: K is 1 to 11, R at most N or 0, B a set within N or 0. Assumes nothing.
use Prim.Native.Nat.{ℕ, ◌^◌, ◌≤◌, ◌<◌}
use native.Mathlib.Omega.{arith}
use mathlib.Core.Path.{◌≡◌, refl, subst}
use mathlib.Core.Logic.{◌⊎◌, inl, inr, ⊎_elim}
use mathlib.Core.Bool.{false, ◌||◌}
use lib.Dec.{eqb, leb}
use lib.Pow.{pow_mono}
use borrow.Author.Tests.{eqb-true, leb-false, not-false}
use Rattle.base.specs.Numbers.{within}
use Rattle.base.proofs.Bools.{or-none}
use Rattle.base.proofs.ChainsLaws.{link, not-refused}
use Rattle.base.proofs.NumbersLaws.{within_both}
use Rattle.model.specs.Hall.{max_recorders}
use Rattle.model.specs.Kinds.{Use, Kind, submit, label, send_entry, send_summary, form, enter, place, receive, notice, confirm, deliver, uses, wrong_recorder, stray_word, wrong_number, wrong_set, input_refusal}
use Rattle.model.proofs.Accepting.Performed.{number_of}

pub kind-small : (κ : Kind) → number_of κ ≤ 11
unfolding number_of
kind-small submit = omega arith
kind-small label = omega arith
kind-small send_entry = omega arith
kind-small send_summary = omega arith
kind-small form = omega arith
kind-small enter = omega arith
kind-small place = omega arith
kind-small receive = omega arith
kind-small notice = omega arith
kind-small confirm = omega arith
kind-small deliver = omega arith

-- each kind but form acts at a recorder and leaves B unused; form leaves R unused, and B is its set
by-use : (κ : Kind) → (((uses κ).r ≡ Use.recorder) × ((uses κ).b ≡ Use.unused)) ⊎ (((uses κ).r ≡ Use.unused) × ((uses κ).b ≡ Use.set))
unfolding uses
by-use submit = inl (refl, refl)
by-use label = inl (refl, refl)
by-use send_entry = inl (refl, refl)
by-use send_summary = inl (refl, refl)
by-use form = inr (refl, refl)
by-use enter = inl (refl, refl)
by-use place = inl (refl, refl)
by-use receive = inl (refl, refl)
by-use notice = inl (refl, refl)
by-use confirm = inl (refl, refl)
by-use deliver = inl (refl, refl)

module _ (n : ℕ) (κ : Kind) (r a d : ℕ) (passes : input_refusal n κ r a d ≡ 0) where
  right-recorder : wrong_recorder n (uses κ).r r ≡ false
  unfolding input_refusal
  right-recorder = (link (wrong_recorder n (uses κ).r r) 11 _ passes).0

  not-stray : stray_word (uses κ).b d ≡ false
  unfolding input_refusal
  not-stray =
      let second = (link (wrong_recorder n (uses κ).r r) 11 _ passes).1 in
      (or-none (stray_word (uses κ).a a) (stray_word (uses κ).b d) (link _ 12 _ second).0).1

  right-set : wrong_set n (uses κ).b d ≡ false
  unfolding input_refusal
  right-set =
      let second = (link (wrong_recorder n (uses κ).r r) 11 _ passes).1 in
      let third = (link (stray_word (uses κ).a a || stray_word (uses κ).b d) 12 _ second).1 in
      let fourth = (link (wrong_number (uses κ).a a || wrong_number (uses κ).b d) 13 _ third).1 in
      (or-none (wrong_set n (uses κ).a a) (wrong_set n (uses κ).b d) (not-refused _ 14 fourth)).1

  pub no-recorder : (uses κ).r ≡ Use.unused → r ≡ 0
  unfolding wrong_recorder
  no-recorder u = eqb-true r 0 (not-false (eqb r 0) (subst (λ (x : Use). wrong_recorder n x r ≡ false) u right-recorder))

  pub no-set : (uses κ).b ≡ Use.unused → d ≡ 0
  unfolding stray_word
  no-set u = eqb-true d 0 (not-false (eqb d 0) (subst (λ (x : Use). stray_word x d ≡ false) u not-stray))

  recorder-small : (uses κ).r ≡ Use.recorder → r ≤ n
  unfolding wrong_recorder
  recorder-small u = (within_both 1 n r (not-false (within 1 n r) (subst (λ (x : Use). wrong_recorder n x r ≡ false) u right-recorder))).1

  set-small : (uses κ).b ≡ Use.set → d < 2 ^ n
  unfolding wrong_set
  set-small u = leb-false (2 ^ n) d (or-none (eqb d 0) (leb (2 ^ n) d) (subst (λ (x : Use). wrong_set n x d ≡ false) u right-set)).1

  pub words_small : n ≤ max_recorders → (r ≤ max_recorders) × (d < 2 ^ max_recorders)
  words_small few =
      ⊎_elim
      (λ u. (omega (arith, recorder-small u.0), omega (arith, no-set u.1)))
      (λ u. (omega (arith, no-recorder u.0), omega (arith, set-small u.1, pow_mono few)))
      (by-use κ)
