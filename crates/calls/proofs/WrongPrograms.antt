-- No program of a wrong sort agrees with the definitions, and no sort is empty. Assumes nothing.
use Prim.Native.Nat.{ℕ, ◌^◌, ◌≤◌, ◌<◌}
use native.Mathlib.Omega.{arith}
use mathlib.Core.Path.{◌≡◌, refl, sym, ap, ap₂, subst, ◌∙◌}
use mathlib.Core.Logic.{inl, ⊎_elim}
use mathlib.Core.Bool.{Bool, true, false}
use mathlib.Core.List.{List, [], ◌∷◌, ◌++◌}
use lib.Dec.{eqb}
use borrow.Author.Tests.{le-ltb}
use lib.ListN.{length, length-replicate}
use Rattle.base.specs.Lists.{Each}
use Rattle.base.specs.Chains.{refuse, ◌⨾◌}
use Rattle.base.proofs.Bools.{by_cases, not-both}
use Rattle.model.specs.Hall.{Hall}
use Rattle.model.specs.Fields.{set_confirm, set_recorders}
use Rattle.model.specs.Kinds.{receive, submit, kinds, kind_of, input_refusal}
use Rattle.model.specs.Answers.{Answer, done, refused, plain, accepted}
use Rattle.model.specs.Refusals.{none_to_receive, state_refusal}
use Rattle.model.specs.Actions.{Outcome, do_submit, perform, refusal, act}
use Rattle.model.specs.Opening.{Opening, open_recorders, open_hall, opened}
use Rattle.model.specs.Page.{Page, PageAnswer, shown, page_of, page_refusal, page}
use Rattle.model.specs.Call.{Words, words_of, WordsIn, hl3, step}
use Rattle.model.specs.Run.{run}
use Rattle.model.proofs.Computing.{computing}
use Rattle.model.proofs.Accepting.Performed.{number_of, same_kind_lem}
use Rattle.model.proofs.Accepting.Accepted.{performed-accepted, accepted-performed, refused-same}
use Rattle.codec.specs.Bytes.{zeros}
use Rattle.store.specs.Layout.{stored_length}
use Rattle.store.specs.Valid.{ValidHall}
use Rattle.store.specs.StoredForm.{stored, hall_of, is_stored}
use Rattle.store.proofs.StoredFormLaws.{stored-is_stored, hall_of-stored, hall_of-valid, stored-slice}
use Rattle.store.proofs.KeepValid.{step-valid, run-valid, open-valid}
use Rattle.calls.specs.Calls.{with_hall, step_on, open_number, open_on, page_on, run_on}
use Rattle.calls.specs.WrongPrograms.{Program, Agrees, Differs, Inhabited, EachSort, two_founders, opened_in, turns_down_all, ok_to_all, never_moves, ok_afterwards, run_of, OnlySubmits, MarkAbove, along_run, invents_marks, sent_one, refuses_first, ReceiveRefused, refuses_once, wrong_sorts}
use Rattle.calls.proofs.OpenLaws.{open-taken, open_done}
use Rattle.calls.proofs.RunLaw.{step-stored, run-stored}

-- ## Slices that hold a hall

-- c holds the valid hall h
record Holds (c : List ℕ) (h : Hall) : Type 0 where
  rest : List ℕ
  valid : ValidHall h
  form : c ≡ stored h ++ rest

module _ (c : List ℕ) (h : Hall) (x : Holds c h) where
  holds-stored : is_stored c ≡ true
  holds-stored = ap is_stored x.form ∙ stored-is_stored h x.valid x.rest

  holds-hall : hall_of c ≡ h
  holds-hall = ap hall_of x.form ∙ hall_of-stored h x.valid x.rest

  holds-page : (r k : ℕ) → page_on c r k ≡ page hl3 h r k
  unfolding page_on
  holds-page r k = ap₂ (λ t g. elim t [ true ↦ page hl3 g r k | false ↦ PageAnswer.refused 31 ]) holds-stored holds-hall

  step-answer : (w : Words) → (step_on c w).answer ≡ (step hl3 h w).answer
  step-answer w = ap (λ c. (step_on c w).answer) x.form ∙ (step-stored h x.valid x.rest w).0

  step-holds : (w : Words) → w.a < 2 ^ 32 → Holds (step_on c w).bytes (step hl3 h w).hall
  step-holds w low =
      record {
        rest = x.rest;
        valid = step-valid hl3 h w low x.valid;
        form = ap (λ c. (step_on c w).bytes) x.form ∙ (step-stored h x.valid x.rest w).1;
      }

  run_holds : (ws : List Words) → WordsIn ws → Holds (run_on c ws) (run hl3 h ws)
  run_holds ws low =
      record {
        rest = x.rest;
        valid = run-valid hl3 h ws low x.valid;
        form = ap (λ c. run_on c ws) x.form ∙ (run-stored h x.rest ws x.valid low).0;
      }

open-holds : (b : List ℕ) (o : Opening) → (open_on b o).number ≡ 0 → Holds (open_on b o).bytes (opened o)
unfolding with_hall
open-holds b o t = let e = open_done b o t in record { rest = _; valid = open-valid o e.0; form = e.1 }

-- ## Calls on an opened hall of two recorders

abbrev two : Hall
two = opened two_founders

module _ (b : List ℕ) (l : stored_length ≤ length b) where
  two-taken : (open_on b two_founders).number ≡ 0
  unfolding open_number refuse ◌⨾◌ computing
  two-taken = (open-taken b two_founders (ap (λ t. refuse t 18) (le-ltb (length b) stored_length l))).0

  two-holds : (ws : List Words) → WordsIn ws → Holds (opened_in b ws) (run hl3 two ws)
  two-holds ws low = run_holds _ two (open-holds b two_founders two-taken) ws low

  -- a program that agrees there accepts what the model does
  two-accepts : (p : Program) (ws : List Words) → WordsIn ws → (w : Words) → p.step (opened_in b ws) w ≡ step_on (opened_in b ws) w
      → accepted (p.step (opened_in b ws) w).answer ≡ accepted (step hl3 (run hl3 two ws) w).answer
  two-accepts p ws low w s = ap (λ o. accepted o.answer) s ∙ ap accepted (step-answer _ _ (two-holds ws low) w)

submit-taken : accepted (step hl3 (run hl3 two []) (words_of 1 1 5 0)).answer ≡ true
unfolding computing
submit-taken = refl

submit-counted : ((step hl3 (run hl3 two []) (words_of 1 1 5 0)).hall.entries.count ≡ 1) × ((run hl3 two []).entries.count ≡ 0)
unfolding computing
submit-counted = (refl, refl)

label-refused : accepted (step hl3 (run hl3 two []) (words_of 2 1 0 0)).answer ≡ false
unfolding computing
label-refused = refl

-- view 2 formed
abbrev second : List Words
second = words_of 5 0 2 1 ∷ []

second-formed : 2 ≤ length (run hl3 two second).service.created
unfolding computing
second-formed = omega arith

second-refused : accepted (step hl3 (run hl3 two second) (words_of 2 1 0 0)).answer ≡ false
unfolding computing
second-refused = refl

sent-there : none_to_receive (run hl3 two sent_one) 1 ≡ false
unfolding computing
sent-there = refl

sent-first : (run hl3 two sent_one).service.next 1 ((run hl3 two sent_one).service.current 1) ≡ 1
unfolding computing
sent-first = refl

-- ## Four sorts

turns-down-differs : Differs turns_down_all
turns-down-differs p x b l s = not-both (two-accepts b l p [] tt _ s.0 ∙ submit-taken) (x _ _)

ok-differs : Differs ok_to_all
ok-differs p x b l s = not-both (x _ _) (two-accepts b l p [] tt _ s.0 ∙ label-refused)

never-moves-differs : Differs never_moves
never-moves-differs p x b l s =
    let w = words_of 1 1 5 0 in
    let held = two-holds b l [] tt in
    let before = holds-hall _ _ held in
    let after = holds-hall _ _ (step-holds _ _ held w (omega arith)) in
    let same = ap hall_of (sym (x (opened_in b []) w) ∙ ap (λ o. o.bytes) s.0) in
    omega (arith, submit-counted, ap (λ h. h.entries.count) (sym before ∙ same ∙ after))

afterwards-differs : Differs ok_afterwards
afterwards-differs p x b l s =
    let held = two-holds b l second (omega arith) in
    let two-views = subst (λ h. 2 ≤ length h.service.created) (sym (holds-hall _ _ held)) second-formed in
    not-both (x _ _ (holds-stored _ _ held) two-views) (two-accepts b l p second (omega arith) _ s.0 ∙ second-refused)

-- ## Invented marks

-- every mark is 1
abbrev Unmarked : Hall → Type 0
Unmarked h = (r : ℕ) → (h.recorders.confirm r ≡ 1) × (h.recorders.report r ≡ 1)

open-unmarked : (o : Opening) → Unmarked (opened o)
unfolding opened open_hall open_recorders
open-unmarked o r = (refl, refl)

-- a submit changes no mark, nor does a refused call
step-unmarked : (h : Hall) (w : Words) → (accepted (step hl3 h w).answer ≡ true → w.k ≡ 1)
    → Unmarked h → Unmarked (step hl3 h w).hall
unfolding number_of perform do_submit
step-unmarked h w only u =
    by_cases (accepted (step hl3 h w).answer)
    (λ t.
    let p = accepted-performed hl3 h w t in
    let what = same_kind_lem p.what submit (sym p.is_kind ∙ only t) in
    let e = p.outcome ∙ ap (λ κ. perform hl3 h κ w.r w.a w.b) what in
    subst (λ (o : Outcome). Unmarked o.hall) (sym e) u)
    (λ t. subst Unmarked (sym (refused-same hl3 h w t)) u)

-- a page shows marks of 1
abbrev Ones : Page → Type 0
Ones x = (x.confirm ≡ 1) × (x.report ≡ 1)

page-unmarked : (h : Hall) (r k : ℕ) (x : Page) → Unmarked h → page hl3 h r k ≡ shown x → Ones x
unfolding page page_of
page-unmarked h r k x u e = go (eqb (page_refusal h r k) 0) e
  where
    after : Bool → PageAnswer
    after t = elim t [ true ↦ shown (page_of hl3 h r k) | false ↦ PageAnswer.refused (page_refusal h r k) ]

    go : (t : Bool) → after t ≡ shown x → Ones x
    go true e = let q : page_of hl3 h r k ≡ x = cc in subst Ones q (u r)
    go false e = let z : ◌≡◌ {A = ℕ} 0 1 = cc in absurd (omega arith)

-- a program that agrees along a run has run as the definition does
along-unmarked : (p : Program) (c : List ℕ) (h : Hall) → Holds c h → Unmarked h → (ws : List Words) → WordsIn ws
    → OnlySubmits p c ws → (r k : ℕ) (x : Page) → p.page (run_of p c ws) r k ≡ shown x
    → Each (Agrees p) (along_run c ws r k) → Ones x
unfolding run_of along_run
along-unmarked p c h held u [] low only r k x shows agrees =
    page-unmarked h r k x u (sym (holds-page c h held r k) ∙ sym agrees.0 ∙ shows)
along-unmarked p c h held u (w ∷ ws) low only r k x shows agrees =
    let left = ap (λ o. o.bytes) agrees.0 in
    let answer = ap (λ o. accepted o.answer) agrees.0 ∙ ap accepted (step-answer c h held w) in
    along-unmarked p (step_on c w).bytes (step hl3 h w).hall (step-holds c h held w low.0)
    (step-unmarked h w (λ t. only.0 (answer ∙ t)) u) ws low.1 (subst (λ d. OnlySubmits p d ws) left only.1) r k x
    (subst (λ d. p.page (run_of p d ws) r k ≡ shown x) left shows) agrees.1

invents-differs : Differs invents_marks
invents-differs p x b l agrees =
    let o = x.opening in
    let ones =
    along-unmarked p _ (opened o) (open-holds x.slice o x.taken) (open-unmarked o) x.calls x.words x.submits
    x.recorder x.place x.seen x.shows agrees in
    ⊎_elim (λ a. omega arith) (λ a. omega arith) x.above

-- ## A receive with a message at its mark

-- the refusals of a receive, but 38
other-number : (a b c d e f : Bool)
    → ((refuse a 12 ⨾ refuse b 13 ⨾ refuse c 14 ⨾ refuse d 15) ⨾ (refuse e 37 ⨾ refuse false 38 ⨾ refuse f 40)) ≡ 38 → ⊥
unfolding refuse ◌⨾◌
other-number true b c d e f z = omega arith
other-number false true c d e f z = omega arith
other-number false false true d e f z = omega arith
other-number false false false true e f z = omega arith
other-number false false false false true f z = omega arith
other-number false false false false false true z = omega arith
other-number false false false false false false z = omega arith

-- it is received, or refused by another number
module _ (h : Hall) (r : ℕ) (there : none_to_receive h r ≡ false) where
  receive-refusal : refusal hl3 h receive r 0 0 ≡ 38 → ⊥
  unfolding refusal input_refusal state_refusal
  receive-refusal e = other-number _ _ _ _ _ _ (rw there at e)

  receive-answer : (step hl3 h (words_of 8 r 0 0)).answer ≡ refused 38 → ⊥
  unfolding step kind_of kinds act accepted plain
  receive-answer e = go (eqb why 0) e
    where
      why : ℕ
      why = refusal hl3 h receive r 0 0

      after : Bool → Outcome
      after t = elim t [ true ↦ perform hl3 h receive r 0 0 | false ↦ record { hall = h; answer = refused why } ]

      go : (t : Bool) → (after t).answer ≡ refused 38 → ⊥
      go true e = not-both (performed-accepted hl3 h receive r 0 0) (ap accepted e)
      go false e = receive-refusal (cc)

once-differs : Differs refuses_once
once-differs p x b l s =
    let c = x.slice in
    let w = words_of 8 x.recorder 0 0 in
    let held : Holds c (hall_of c) =
    record { rest = _; valid = hall_of-valid c x.stored; form = sym (stored-slice c x.stored) } in
    receive-answer (hall_of c) x.recorder x.there
    (sym (step-answer c (hall_of c) held w) ∙ ap (λ o. o.answer) (sym s.0) ∙ x.says)

-- there is such a receive in every slice long enough
first-once : (p : Program) → refuses_first.has p → (b : List ℕ) → stored_length ≤ length b → ReceiveRefused p
first-once p x b l =
    let c = opened_in b sent_one in
    let held = two-holds b l sent_one (omega arith) in
    let same = sym (holds-hall _ _ held) in
    let there = subst (λ h. none_to_receive h 1 ≡ false) same sent-there in
    let first = subst (λ h. h.service.next 1 (h.service.current 1) ≡ 1) same sent-first in
    let stored = holds-stored _ _ held in
    record { slice = c; recorder = 1; stored = stored; there = there; says = x c 1 stored there first }

first-differs : Differs refuses_first
unfolding first-once
first-differs p x b l s = once-differs p (first-once p x b l) b l s

-- ## The list

pub wrong-programs-differ : EachSort Differs wrong_sorts
wrong-programs-differ = (
  turns-down-differs,
  (ok-differs, (never-moves-differs, (afterwards-differs, (invents-differs, (first-differs, (once-differs, tt)))))),
)

-- ## No sort is empty

-- a program that always gives this answer, leaves the bytes, and shows marks of 2
always : Answer → Program
always x =
    let h : Hall = set_recorders (set_confirm (λ r. 2) two.recorders) two in
    record { step = λ c w. record { answer = x; bytes = c }; page = λ c r k. shown (page_of hl3 h 1 0) }

pub wrong-sorts-inhabited : EachSort Inhabited wrong_sorts
unfolding always accepted plain run_of page_of
wrong-sorts-inhabited =
    let refuses = always (refused 38) in
    let says-ok = always done in (
      record { program = refuses; is_one = λ c w. refl },
      (
        record { program = says-ok; is_one = λ c w. refl },
        (
          record { program = says-ok; is_one = λ c w. refl },
          (
            record { program = says-ok; is_one = λ c w s t. refl },
            (
              record { program = says-ok; is_one = above },
              (
                record { program = refuses; is_one = λ c r s t u. refl },
                (record { program = refuses; is_one = first-once _ (λ c r s t u. refl) (zeros stored_length) enough }, tt),
              ),
            ),
          ),
        ),
      ),
    )
  where
    enough : stored_length ≤ length (zeros stored_length)
    enough = omega (arith, length-replicate {A = ℕ} stored_length 0)

    above : MarkAbove (always done)
    above =
        record {
          slice = zeros stored_length;
          opening = two_founders;
          taken = two-taken (zeros stored_length) enough;
          calls = [];
          words = tt;
          submits = tt;
          recorder = 1;
          place = 0;
          seen = _;
          shows = refl;
          above = inl (omega arith);
        }
