-- What 02, A5 promises of a settle, down to the bytes.
-- Assumes nothing.
use Prim.Native.Nat.{ℕ, ◌≤◌}
use native.Mathlib.Omega.{arith}
use mathlib.Core.Path.{◌≡◌, refl, sym, ap, ◌∙◌, subst, subst₂}
use mathlib.Core.Logic.{◌⊎◌, inl, inr}
use mathlib.Core.Bool.{Bool, true, false}
use mathlib.Core.List.{List, ◌++◌, map}
use lib.ListN.{length, drop}
use Rattle.base.proofs.Bools.{by_cases}
use Rattle.model.specs.Hall.{Hall}
use Rattle.model.specs.Opening.{Opening, open_refusal, opened}
use Rattle.model.specs.Call.{Words, WordsIn, hl3}
use Rattle.model.specs.Run.{run, History, history}
use Rattle.model.specs.Settle.{greatest_view, cannot_settle, turn_of, Settling, settled, refused, calls_taken, plain_settle, max_turns, settle_from, settle, max_steps, Complete}
use Rattle.model.proofs.Ordering.Representatives.{chosen-fair}
use Rattle.model.proofs.Settling.SettleRun.{Numbered, settle-numbered}
use Rattle.store.specs.Layout.{stored_length}
use Rattle.store.specs.Valid.{ValidHall}
use Rattle.store.specs.StoredForm.{hall_of, is_stored}
use Rattle.store.proofs.StoredFormLaws.{stored-is_stored, hall_of-stored, hall_of-valid, stored-slice}
use Rattle.store.proofs.KeepValid.{run-valid, open-valid}
use Rattle.calls.specs.Calls.{open_on, run_on, settling_on, settle_on}
use Rattle.calls.specs.Histories.{Made, history_of, Opens, made_on, settle_made, HallCall, StepsMet, step_words, steps_left, steps_made, LentCall, LentMet, lent_words, lent_left, lent_made}
use Rattle.calls.proofs.OpenLaws.{open_done}
use Rattle.calls.proofs.RunLaw.{run-stored}
use Rattle.calls.proofs.SettleLaws.{settling-held, settling-broken, settle-hall-low}
use Rattle.calls.proofs.Runs.{Sound, RunOf, run-then, then-words, history-of, MadeRun, made-run, sound-bytes}
use Rattle.calls.proofs.Agreement.{made-sound, made-words, steps-sound, steps-words, lents-sound, lents-words}
use Rattle.progress.specs.Promises.{Settled, Promised}
use Rattle.progress.proofs.SettleFull.{settle-full-never}
use Rattle.progress.proofs.Ends.{settle-ends, settle-bound}
use Rattle.progress.proofs.Complete.{settle-complete}

-- a settle that answers 0 is taken
number-settled : (x : Settling) → (plain_settle x).number ≡ 0 → (n : ℕ) → x ≡ refused n → n ≡ 0
unfolding plain_settle
number-settled x z n e = sym (ap (λ (y : Settling). (plain_settle y).number) e) ∙ z

-- no refusal of a hall's settle has the number 0
refused-number : (h : Hall) (n : ℕ) → settle hl3 h ≡ refused n → n ≡ 0 → ⊥
unfolding Numbered
refused-number h n e = subst Numbered e (settle-numbered hl3 h)

module _ (b : List ℕ) (s : is_stored b ≡ true) (ss : List Words) (is : settle hl3 (hall_of b) ≡ settled ss) where
  abbrev h : Hall
  h = hall_of b

  valid : ValidHall h
  valid = hall_of-valid b s

  low : WordsIn ss
  unfolding calls_taken
  low = subst (λ (x : Settling). WordsIn (calls_taken x)) is (settle-hall-low h valid)

  -- the hall that it leaves is that of its run
  left_is : hall_of (settle_on b).bytes ≡ run hl3 h ss
  unfolding settle_on calls_taken
  left_is =
      ap (λ (x : Settling). hall_of (run_on b (calls_taken x))) (settling-held b s ∙ is)
      ∙ ap (λ (c : List ℕ). hall_of (run_on c ss)) (sym (stored-slice b s))
      ∙ ap hall_of (run-stored h (drop stored_length b) ss valid low).0
      ∙ hall_of-stored (run hl3 h ss) (run-valid hl3 h ss low valid) (drop stored_length b)

  held-settled : Settled b
  unfolding calls_taken
  held-settled =
      record {
        ends = ap (λ (x : Hall). turn_of hl3 x (greatest_view h)) left_is ∙ settle-ends hl3 h valid ss is;
        bounded =
            subst (λ (x : Settling). length (calls_taken x) ≤ max_steps) (sym (settling-held b s ∙ is)) (settle-bound hl3 h valid ss is);
      }

-- every settle that is taken, on whatever bytes
pub settled_on : (b : List ℕ) → (settle_on b).answer.number ≡ 0 → Settled b
unfolding settle_on plain_settle
settled_on b z = by_cases (is_stored b) held (λ f. absurd (broken (number-settled (settling_on b) z 31 (settling-broken b f))))
  where
    broken : ◌≡◌ {A = ℕ} 31 0 → ⊥
    broken e = omega arith

    held : is_stored b ≡ true → Settled b
    held s = by (settle hl3 (hall_of b)) refl
      where
        by : (x : Settling) → settle hl3 (hall_of b) ≡ x → Settled b
        by (settled ss) e = held-settled b s ss e
        by (refused n) e = absurd (refused-number (hall_of b) n e (number-settled (settling_on b) z n (settling-held b s ∙ e)))

-- ## Reached from opening

-- calls that are a run from an opening that is taken, with what they left
module _ (o : Opening) (none-refused : open_refusal o ≡ 0) (rest : List ℕ) (ms : List Made) (c : List ℕ) (first : RunOf (opened o) rest ms c) where
  abbrev ws : List Words
  ws = first.words

  abbrev reached : Hall
  reached = run hl3 (opened o) ws

  is-valid : ValidHall reached
  is-valid = run-valid hl3 (opened o) ws first.in_range (open-valid o none-refused)

  hall-is : hall_of c ≡ reached
  hall-is = ap hall_of first.bytes ∙ hall_of-stored reached is-valid rest

  on-is : settling_on c ≡ settle hl3 reached
  on-is = settling-held c (ap is_stored first.bytes ∙ stored-is_stored reached is-valid rest) ∙ ap (settle hl3) hall-is

  -- never 40
  by-barred : (u : Bool) → cannot_settle reached ≡ u
      → ((settle_on c).answer.number ≡ 0) ⊎ ((settle_on c).answer.number ≡ 42)
  unfolding settle_on plain_settle settle hl3
  by-barred true u =
      inr (ap (λ (x : Settling). (plain_settle x).number) (on-is ∙ ap (λ (v : Bool). elim v [ true ↦ refused 42 | false ↦ settle_from hl3 max_turns (greatest_view reached) reached ]) u))
  by-barred false u =
      let done = settle-full-never hl3 (λ g. chosen-fair) o none-refused ws u in
      inl (ap (λ (x : Settling). (plain_settle x).number) (on-is ∙ done.1))

  -- the calls, and then those of the settle
  module _ (ss : List Words) (e : settle hl3 reached ≡ settled ss) where
    calls_are : calls_taken (settling_on c) ≡ ss
    unfolding calls_taken
    calls_are = ap calls_taken (on-is ∙ e)

    taken-low : WordsIn ss
    taken-low = subst WordsIn (ap calls_taken (sym on-is) ∙ calls_are) (settle-hall-low reached is-valid)

    later : MadeRun reached rest ss c
    later = subst (MadeRun reached rest ss) (sym first.bytes) (made-run reached rest ss is-valid taken-low)

    both : RunOf (opened o) rest (ms ++ made_on c ss) (run_on c ss)
    both = run-then (opened o) rest ms c (made_on c ss) (run_on c ss) first later.found

    history-both : history hl3 (opened o) (ws ++ ss) ≡ history_of (ms ++ settle_made c) (settle_on c).bytes
    unfolding settle_made settle_on both
    history-both =
        ap (λ (l : List Words). history hl3 (opened o) (ws ++ l)) (sym later.same)
        ∙ ap (history hl3 (opened o)) (sym (then-words (opened o) rest ms c (made_on c ss) (run_on c ss) first later.found))
        ∙ history-of (opened o) rest (open-valid o none-refused) (ms ++ made_on c ss) (run_on c ss) both
        ∙ ap (λ (l : List Words). history_of (ms ++ made_on c l) (run_on c l)) (sym calls_are)

    whole : Complete (history_of (ms ++ settle_made c) (settle_on c).bytes) ((hall_of c).service.members (greatest_view (hall_of c)))
    unfolding hl3
    whole =
        subst₂ (λ (l : History) (h : Hall). Complete l (h.service.members (greatest_view h))) history-both (sym hall-is)
        (settle-complete hl3 (λ g. chosen-fair) o none-refused ws first.in_range ss e)

  when-taken : (x : Settling) → settle hl3 reached ≡ x → (settle_on c).answer.number ≡ 0
      → Complete (history_of (ms ++ settle_made c) (settle_on c).bytes) ((hall_of c).service.members (greatest_view (hall_of c)))
  unfolding settle_on plain_settle
  when-taken (settled ss) e z = whole ss e
  when-taken (refused n) e z = absurd (refused-number reached n e (number-settled (settling_on c) z n (on-is ∙ e)))

  run-promised : Promised ms c
  run-promised = record { never40 = by-barred (cannot_settle reached) refl; complete = when-taken (settle hl3 reached) refl }

-- ## The theorems

-- calls that are the definition's steps or are turned down
sound-promised : (b : List ℕ) (o : Opening) → (open_on b o).number ≡ 0 → (ms : List Made) (c : List ℕ)
    → WordsIn (map (λ (m : Made). m.words) ms) → Sound (open_on b o).bytes ms c → Promised ms c
sound-promised b o t ms c small s = run-promised o (open_done b o t).0 (drop stored_length b) ms c (sound-bytes b o t ms c small s)

-- after an opening that is taken and any list of steps by the definitions
pub promised-on : (b : List ℕ) (o : Opening) → (open_on b o).number ≡ 0 → (ws : List Words) → WordsIn ws
    → Promised (made_on (open_on b o).bytes ws) (run_on (open_on b o).bytes ws)
promised-on b o t ws low =
    let d = (open_on b o).bytes in
    sound-promised b o t (made_on d ws) (run_on d ws) (subst WordsIn (sym (made-words d ws)) low) (made-sound d ws)

-- after calls of `open`, `step` and `settle` that meet their contracts
pub calls-promised : (b : List ℕ) (o : Opening) (n : ℕ) (d : List ℕ) → Opens b o n d → n ≡ 0
    → (cs : List HallCall) → StepsMet d cs → WordsIn (step_words cs) → Promised (steps_made d cs) (steps_left d cs)
calls-promised b o n d opens t cs met low =
    sound-promised b o (sym opens.number ∙ t) (steps_made d cs) (steps_left d cs) (steps-words d cs low)
    (subst (λ (x : List ℕ). Sound x (steps_made d cs) (steps_left d cs)) opens.bytes (steps-sound d cs met))

-- after calls of `hall_open`, `hall_step` and `hall_settle` that meet theirs
pub c-calls-promised : (b : List ℕ) (o : Opening) (n : ℕ) (d : List ℕ) → Opens b o n d → n ≡ 0
    → (cs : List LentCall) → LentMet d cs → WordsIn (lent_words cs) → Promised (lent_made d cs) (lent_left d cs)
c-calls-promised b o n d opens t cs met low =
    sound-promised b o (sym opens.number ∙ t) (lent_made d cs) (lent_left d cs) (lents-words d cs met low)
    (subst (λ (x : List ℕ). Sound x (lent_made d cs) (lent_left d cs)) opens.bytes (lents-sound d cs met))
