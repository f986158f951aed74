-- Calls that were made, one after another, as a run of the model: each is the definition's step, or is turned down and
-- changes nothing. Assumes nothing.
use Prim.Native.Nat.{ℕ, ◌^◌, ◌<◌}
use mathlib.Core.Path.{◌≡◌, refl, sym, ap, ap₂, ◌∙◌, subst, fun_ext}
use mathlib.Core.Logic.{◌⊎◌, ⊎_elim}
use mathlib.Core.Bool.{Bool, true, false, ◌&&◌}
use mathlib.Core.List.{List, [], ◌∷◌, ◌++◌, map}
use lib.Dec.{eqb}
use borrow.Author.Tests.{eqb-true}
use lib.ListN.{drop}
use Rattle.base.proofs.Bools.{and_both}
use Rattle.base.proofs.ListsLaws.{each_append}
use Rattle.model.specs.Hall.{Hall}
use Rattle.model.specs.Answers.{accepted}
use Rattle.model.specs.Actions.{payload_of}
use Rattle.model.specs.Opening.{Opening, open_refusal, opened}
use Rattle.model.specs.Call.{Words, WordsIn, hl3, step}
use Rattle.model.specs.Run.{run, accepts, collect, first_waiting, at_report, items_from, submitted, labelled_at, delivered, deliver_answers, history}
use Rattle.model.specs.Agreed.{Agreed}
use Rattle.model.proofs.Agreement.Theorem.{hl3-agreement}
use Rattle.model.proofs.Settling.SettleRun.{run-append}
use Rattle.store.specs.Layout.{stored_length}
use Rattle.store.specs.Valid.{ValidHall}
use Rattle.store.specs.StoredForm.{stored, hall_of}
use Rattle.store.proofs.StoredFormLaws.{hall_of-stored}
use Rattle.store.proofs.KeepValid.{step-valid, run-valid, open-valid}
use Rattle.calls.specs.Calls.{with_hall, step_on, open_on, run_on}
use Rattle.calls.specs.Histories.{Made, gathered, history_of, made_on}
use Rattle.calls.proofs.OpenLaws.{open_done}
use Rattle.calls.proofs.RunLaw.{step-stored}

-- a call on the bytes b that is the definition's step; what it answers matters for a deliver on a stored hall
pub record Performs (b : List ℕ) (m : Made) : Type 0 where
  pub before : m.before ≡ b
  pub taken : m.taken ≡ accepted (step_on b m.words).answer
  pub after : m.after ≡ (step_on b m.words).bytes
  pub answer : (h : Hall) (rest : List ℕ) → ValidHall h → b ≡ stored h ++ rest → m.words.k ≡ 11 → m.taken ≡ true
      → m.answer ≡ (step_on b m.words).answer

-- a call on the bytes b that is turned down
pub record Turned (b : List ℕ) (m : Made) : Type 0 where
  pub before : m.before ≡ b
  pub taken : m.taken ≡ false
  pub after : m.after ≡ b

-- calls one after another, from the bytes b to the bytes c
abbrev pub Sound : List ℕ → List Made → List ℕ → Type 0
Sound b [] c = c ≡ b
Sound b (m ∷ ms) c = (Performs b m ⊎ Turned b m) × Sound m.after ms c

-- ## The lists along such calls are those of a run

-- f of a call of kind k at r that is performed on a stored hall h is g of h and the words
abbrev pub Same : {A : Type 0} → ℕ → ℕ → (Made → A) → (Hall → Words → A) → List ℕ → Type 0
Same k r f g rest =
    (h : Hall) → ValidHall h → (m : Made) → Performs (stored h ++ rest) m → m.words.k ≡ k → m.taken ≡ true → f m ≡ g h m.words

-- the words of the calls that were performed, with the bytes and lists that they leave
pub record RunOf (h : Hall) (rest : List ℕ) (ms : List Made) (c : List ℕ) : Type 1 where
  pub words : List Words
  pub in_range : WordsIn words
  pub bytes : c ≡ stored (run hl3 h words) ++ rest
  pub lists : {A : Type 0} (k r : ℕ) (f : Made → A) (g : Hall → Words → A) → Same k r f g rest → gathered k r f ms ≡ collect hl3 k r g h words

pick : {A : Type 0} → Bool → A → List A → List A
pick t x l = elim t [ true ↦ x ∷ l | false ↦ l ]

pick_same : {A : Type 0} (t : Bool) (x y : A) (l : List A) → (t ≡ true → x ≡ y) → pick t x l ≡ pick t y l
unfolding pick
pick_same true x y l e = ap (λ z. z ∷ l) (e refl)
pick_same false x y l e = refl

no_more : (p q : Bool) → (p && (q && false)) ≡ false
no_more true true = refl
no_more true false = refl
no_more false q = refl

-- one call more, performed or turned down, before the calls of a run
module _ (h : Hall) (rest : List ℕ) (m : Made) (ms : List Made) (c : List ℕ) where
  abbrev w : Words
  w = m.words

  one-performed : ValidHall h → w.a < 2 ^ 32 → Performs (stored h ++ rest) m
      → RunOf (step hl3 h w).hall rest ms c → RunOf h rest (m ∷ ms) c
  unfolding gathered collect accepts run pick
  one-performed v low p later =
      record {
        words = w ∷ later.words;
        in_range = (low, later.in_range);
        bytes = later.bytes;
        lists = λ k r f g same.
            let test : Bool → Bool = λ t. eqb w.k k && (eqb w.r r && t) in
            let others = collect hl3 k r g (step hl3 h w).hall later.words in
            ap (pick (test m.taken) (f m)) (later.lists k r f g same)
            ∙ pick_same (test m.taken) (f m) (g h w) others
            (λ t.
            let both = and_both (eqb w.k k) _ t in
            same h v m p (eqb-true w.k k both.0) (and_both (eqb w.r r) _ both.1).1)
            ∙ ap (λ (t : Bool). pick (test t) (g h w) others) (p.taken ∙ ap accepted (step-stored h v rest w).0);
      }

  one-turned : Turned (stored h ++ rest) m → RunOf h rest ms c → RunOf h rest (m ∷ ms) c
  unfolding gathered pick
  one-turned p later =
      record {
        words = later.words;
        in_range = later.in_range;
        bytes = later.bytes;
        lists = λ k r f g same.
            ap (λ (t : Bool). pick t (f m) (gathered k r f ms))
            (ap (λ (t : Bool). eqb w.k k && (eqb w.r r && t)) p.taken ∙ no_more (eqb w.k k) (eqb w.r r))
            ∙ later.lists k r f g same;
      }

pub run_of : (h : Hall) (rest : List ℕ) (ms : List Made) (c : List ℕ) → ValidHall h → WordsIn (map (λ (m : Made). m.words) ms)
    → Sound (stored h ++ rest) ms c → RunOf h rest ms c
unfolding run gathered collect
run_of h rest [] c v low s = record { words = []; in_range = tt; bytes = s; lists = λ k r f g same. refl }
run_of h rest (m ∷ ms) c v low s =
    let w = m.words in
    ⊎_elim
    (λ p.
    one-performed h rest m ms c v low.0 p
    (run_of (step hl3 h w).hall rest ms c (step-valid hl3 h w low.0 v) low.1 (subst (λ (x : List ℕ). Sound x ms c) (p.after ∙ (step-stored h v rest w).1) s.1)))
    (λ p. one-turned h rest m ms c p (run_of h rest ms c v low.1 (subst (λ (x : List ℕ). Sound x ms c) p.after s.1)))
    s.0

-- ## Calls, and others after them

gathered-append : {A : Type 0} (k r : ℕ) (f : Made → A) (ms ns : List Made) → gathered k r f (ms ++ ns) ≡ gathered k r f ms ++ gathered k r f ns
unfolding gathered pick
gathered-append k r f [] ns = refl
gathered-append {A} k r f (m ∷ ms) ns = go (eqb m.words.k k && (eqb m.words.r r && m.taken)) (gathered-append k r f ms ns)
  where
    go : (t : Bool) → gathered k r f (ms ++ ns) ≡ gathered k r f ms ++ gathered k r f ns
        → pick t (f m) (gathered k r f (ms ++ ns)) ≡ pick t (f m) (gathered k r f ms) ++ gathered k r f ns
    go true e = ap (λ (l : List A). f m ∷ l) e
    go false e = e

collect-append : {A : Type 0} (k r : ℕ) (g : Hall → Words → A) (h : Hall) (xs ys : List Words)
    → collect hl3 k r g h (xs ++ ys) ≡ collect hl3 k r g h xs ++ collect hl3 k r g (run hl3 h xs) ys
unfolding collect run pick
collect-append k r g h [] ys = refl
collect-append {A} k r g h (w ∷ xs) ys = go (accepts hl3 h w k r) (collect-append k r g next xs ys)
  where
    next : Hall
    next = (step hl3 h w).hall

    go : (t : Bool) → collect hl3 k r g next (xs ++ ys) ≡ collect hl3 k r g next xs ++ collect hl3 k r g (run hl3 next xs) ys
        → pick t (g h w) (collect hl3 k r g next (xs ++ ys)) ≡ pick t (g h w) (collect hl3 k r g next xs) ++ collect hl3 k r g (run hl3 next xs) ys
    go true e = ap (λ (l : List A). g h w ∷ l) e
    go false e = e

pub run-then : (h : Hall) (rest : List ℕ) (ms : List Made) (c : List ℕ) (ns : List Made) (d : List ℕ) → (one : RunOf h rest ms c)
    → RunOf (run hl3 h one.words) rest ns d → RunOf h rest (ms ++ ns) d
run-then h rest ms c ns d one two =
    record {
      words = one.words ++ two.words;
      in_range = each_append (λ (w : Words). w.a < 2 ^ 32) one.words two.words one.in_range two.in_range;
      bytes = two.bytes ∙ ap (λ (x : Hall). stored x ++ rest) (sym (run-append hl3 h one.words two.words));
      lists = λ k r f g same.
          gathered-append k r f ms ns ∙ ap₂ ◌++◌ (one.lists k r f g same) (two.lists k r f g same)
          ∙ sym (collect-append k r g h one.words two.words);
    }

pub then-words : (h : Hall) (rest : List ℕ) (ms : List Made) (c : List ℕ) (ns : List Made) (d : List ℕ) (one : RunOf h rest ms c)
    (two : RunOf (run hl3 h one.words) rest ns d) → (run-then h rest ms c ns d one two).words ≡ one.words ++ two.words
unfolding run-then
then-words h rest ms c ns d one two = refl

-- ## What such calls leave is what the run of the performed ones leaves

module _ (h₀ : Hall) (rest : List ℕ) (valid : ValidHall h₀) (ms : List Made) (c : List ℕ) (found : RunOf h₀ rest ms c) where
  -- the hall in the bytes before a call
  hall-before : (h : Hall) → ValidHall h → (m : Made) → Performs (stored h ++ rest) m → hall_of m.before ≡ h
  hall-before h v m p = ap hall_of p.before ∙ hall_of-stored h v rest

  hall-left : hall_of c ≡ run hl3 h₀ found.words
  hall-left = ap hall_of found.bytes ∙ hall_of-stored _ (run-valid hl3 h₀ found.words found.in_range valid) rest

  pub history-of : history hl3 h₀ found.words ≡ history_of ms c
  unfolding submitted labelled_at delivered deliver_answers
  history-of =
      λ i. record {
        submitted = fun_ext (λ (s : ℕ). ap (items_from s 1)
            (sym (found.lists 1 s (λ m. payload_of m.words.a) (λ h w. payload_of w.a) (λ h v m p k y. refl)))) i;
        labelled = fun_ext (λ (s : ℕ). sym (found.lists 2 s (λ m. first_waiting (hall_of m.before) s) (λ h w. first_waiting h s)
            (λ h v m p k y. ap (λ (g : Hall). first_waiting g s) (hall-before h v m p)))) i;
        delivered = fun_ext (λ (r : ℕ). sym (found.lists 11 r (λ m. at_report (hall_of m.before) r) (λ h w. at_report h r)
            (λ h v m p k y. ap (λ (g : Hall). at_report g r) (hall-before h v m p)))) i;
        deliver_answers = fun_ext (λ (r : ℕ). sym (found.lists 11 r (λ m. m.answer) (λ h w. (step hl3 h w).answer)
            (λ h v m p k y. p.answer h rest v refl k y ∙ (step-stored h v rest m.words).0))) i;
        last = sym hall-left i;
      }

-- the steps of the definition are such calls, and all of them are performed
pub record MadeRun (h : Hall) (rest : List ℕ) (ws : List Words) (b : List ℕ) : Type 1 where
  pub found : RunOf h rest (made_on b ws) (run_on b ws)
  pub same : found.words ≡ ws

pub made-run : (h : Hall) (rest : List ℕ) (ws : List Words) → ValidHall h → WordsIn ws → MadeRun h rest ws (stored h ++ rest)
unfolding made_on run_on run gathered collect one-performed
made-run h rest [] v low = record { found = record { words = []; in_range = tt; bytes = refl; lists = λ k r f g same. refl }; same = refl }
made-run h rest (w ∷ ws) v low =
    let b = stored h ++ rest in
    let c = (step_on b w).bytes in
    let later = subst (MadeRun (step hl3 h w).hall rest ws) (sym (step-stored h v rest w).1)
    (made-run (step hl3 h w).hall rest ws (step-valid hl3 h w low.0 v) low.1) in
    let made : Made = record { words = w; before = b; taken = accepted (step_on b w).answer; answer = (step_on b w).answer; after = c } in
    record {
      found =
          one-performed h rest made (made_on c ws) (run_on c ws) v low.0
          (record { before = refl; taken = refl; after = refl; answer = λ h rest v e k t. refl })
          later.found;
      same = ap (λ (l : List Words). w ∷ l) later.same;
    }

-- ## Demand 3 of such calls

module _ (b : List ℕ) (o : Opening) (t : (open_on b o).number ≡ 0) (ms : List Made) (c : List ℕ)
    (low : WordsIn (map (λ (m : Made). m.words) ms)) (s : Sound (open_on b o).bytes ms c) where
  rest : List ℕ
  rest = drop stored_length b

  none-refused : open_refusal o ≡ 0
  none-refused = (open_done b o t).0

  valid : ValidHall (opened o)
  valid = open-valid o none-refused

  bytes-are : (open_on b o).bytes ≡ stored (opened o) ++ rest
  unfolding with_hall rest
  bytes-are = (open_done b o t).1

  found : RunOf (opened o) rest ms c
  found = run_of (opened o) rest ms c valid low (subst (λ (x : List ℕ). Sound x ms c) bytes-are s)

  pub sound-agree : Agreed (history_of ms c)
  sound-agree = subst Agreed (history-of (opened o) rest valid ms c found) (hl3-agreement o none-refused found.words)

  -- the bytes then hold the hall that 01's rules and refusals give from the opening and the words of the performed calls
  pub sound-bytes : RunOf (opened o) (drop stored_length b) ms c
  unfolding rest
  sound-bytes = found
