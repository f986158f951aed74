-- The greatest view is the last formed one; a settle on a copy, and the copy written back. Assumes nothing.
use Prim.Native.Nat.{ℕ, ◌+◌, ◌-◌, ◌≤◌}
use native.Mathlib.Omega.{arith}
use mathlib.Core.Path.{◌≡◌, refl, sym, ap, ap₂, ◌∙◌, subst}
use mathlib.Core.Bool.{Bool, true, false, not, ◌||◌, true≢false}
use mathlib.Core.List.{List, [], ◌∷◌, ◌++◌, append-nil}
use lib.Dec.{eqb}
use Rattle.std.proofs.Common.{◌≢◌, Result, Ok, Err}
use Rattle.std.specs.Result.{IsErrAnd}
use Rattle.std.proofs.lemmas.Result.{err_from_is_err_and}
use Rattle.base.specs.Chains.{refuse}
use Rattle.base.proofs.Bools.{by_cases}
use lib.ListN.{length, get_or, take, drop}
use lib.Seq.{sets, sets-eq, length-take-le, take_at, drop-length}
use borrow.Author.Tests.{ne_eqb}
use Rattle.base.specs.Lists.{greatest}
use Rattle.base.proofs.ListsLaws.{key_has}
use Rattle.model.specs.Hall.{Hall}
use Rattle.model.specs.Refusals.{is_primary}
use Rattle.model.specs.Answers.{Plain}
use Rattle.model.specs.Call.{Words, WordsIn, hl3}
use Rattle.model.specs.Run.{run}
use Rattle.model.specs.Settle.{greatest_view, cannot_settle, Settling, settled, refused, calls_taken, plain_settle, max_turns, settle_from, settle}
use Rattle.model.specs.declared.refusals.Refusal.{Refusal}
use Rattle.model.specs.RefusalNumbers.{number}
use Rattle.model.proofs.RefusalNumbersLaws.{has-number}
use Rattle.store.specs.Layout.{stored_length}
use Rattle.store.specs.Valid.{ValidHall}
use Rattle.store.specs.StoredForm.{stored, hall_of, is_stored}
use Rattle.store.proofs.StoredFormLaws.{stored-block, is_stored-long, hall_of-valid, stored-hall_of, stored-slice, is_stored-first, hall_of-first}
use Rattle.store.proofs.KeepValid.{run-valid}
use Rattle.answer.specs.Meaning.{settled_meaning}
use Rattle.calls.specs.Calls.{run_on, settling_on, settle_on}
use Rattle.calls.specs.Steps.{Settles}
use Rattle.calls.proofs.RunLaw.{run-stored}
use Rattle.calls.proofs.SettleLaws.{settling-held, settling-broken, settle-hall-low}
use Rattle.progress.proofs.GreatestView.{greatest-last, formed-low}
use Rattle.hall.specs.declared.View.{View}
use Rattle.hall.specs.Parts.{ViewIs, view_in, in_view}
use Rattle.step.specs.Numbers.{bytes_number}
use Rattle.step.proofs.StepsLaws.{bytes-hold, bytes-hall, bytes-broken}
use Rattle.settling.specs.Turns.{InView, TurnsTaken, SettledCopy}

-- ## 42

no-view : (xs : List ℕ) → length xs ≡ 0 → greatest (λ g. g) xs ≡ 0
unfolding greatest
no-view [] e = refl
no-view (x ∷ xs) e = absurd (omega arith)

-- no view is formed
pub barred-none : (b : List ℕ) (count : ℕ) → count ≡ length (hall_of b).service.created → count ≡ 0 → true ≡ cannot_settle (hall_of b)
unfolding cannot_settle greatest_view
barred-none b count e z = sym (ap (λ (g : ℕ). eqb g 0 || not (is_primary (hall_of b) g)) (no-view (hall_of b).service.created (sym e ∙ z)))

-- the last formed view is the greatest
pub last_view : (b : List ℕ) (count : ℕ) → is_stored b ≡ true → count ≡ length (hall_of b).service.created → view_in b (count - 1) ≡ greatest_view (hall_of b)
unfolding view_in
last_view b count s e = ap (λ n. get_or (hall_of b).service.created (n - 1) 0) e ∙ greatest-last (hall_of b) (hall_of-valid b s)

-- a view is formed: it is the last one
pub barred-last : (b : List ℕ) (count : ℕ) → is_stored b ≡ true → count ≡ length (hall_of b).service.created → (count ≡ 0 → ⊥)
    → (p : Bool) → p ≡ in_view is_primary b (count - 1) → not p ≡ cannot_settle (hall_of b)
unfolding cannot_settle view_in
barred-last b count s e ne p i =
    let h = hall_of b in
    let last = last_view b count s e in
    let formed = key_has h.service.created (count - 1) (omega arith) in
    let low = formed-low h (hall_of-valid b s) (view_in b (count - 1)) formed in
    ap not (i ∙ ap (is_primary h) last)
    ∙ sym (ap (λ (t : Bool). t || not (is_primary h (greatest_view h))) (ne_eqb (greatest_view h) 0 (λ z. omega (arith, low, last))))

-- no 42
pub not-barred : (h : Hall) → 0 ≡ refuse (cannot_settle h) 42 → cannot_settle h ≡ false
unfolding refuse
not-barred h e = by_cases (cannot_settle h) (λ t. let z : ◌≡◌ {A = ℕ} 0 42 = e ∙ ap (λ (x : Bool). refuse x 42) t in absurd (omega arith)) (λ t. t)

-- a hall that is not barred has a view
pub view-there : (b : List ℕ) (count : ℕ) → count ≡ length (hall_of b).service.created → 0 ≡ refuse (cannot_settle (hall_of b)) 42 → 1 ≤ count
view-there b count e free =
    let some : count ≢ 0 = λ z. true≢false (barred-none b count e z ∙ not-barred (hall_of b) free) in
    omega (arith, some)

-- ## The settle of a slice, case by case

by-barred : Hall → Bool → Settling
by-barred h t = elim t [ true ↦ refused 42 | false ↦ settle_from hl3 max_turns (greatest_view h) h ]

settle-barred : (h : Hall) → cannot_settle h ≡ true → settle hl3 h ≡ refused 42
unfolding settle by-barred
settle-barred h t = ap (by-barred h) t

pub settle_goes : (h : Hall) → cannot_settle h ≡ false → settle hl3 h ≡ settle_from hl3 max_turns (greatest_view h) h
unfolding settle by-barred
settle_goes h t = ap (by-barred h) t

-- 42
barred-is : (h : Hall) (why : Refusal) → number why ≡ refuse (cannot_settle h) 42 → settle hl3 h ≡ refused (number why)
unfolding refuse
barred-is h why e =
    by_cases (cannot_settle h)
    (λ t. settle-barred h t ∙ ap refused (sym (e ∙ ap (λ (x : Bool). refuse x 42) t)))
    (λ t. absurd (has-number why (e ∙ ap (λ (x : Bool). refuse x 42) t)))

-- 31
broken-is : (b : List ℕ) (why : Refusal) → number why ≡ bytes_number b → settling_on b ≡ refused (number why)
broken-is b why e =
    by_cases (is_stored b)
    (λ t. absurd (has-number why (e ∙ sym (bytes-hall b t))))
    (λ t. settling-broken b t ∙ ap refused (bytes-broken b t ∙ sym e))

pub broken-number : (b : List ℕ) (why : Refusal) → number why ≡ bytes_number b → number why ≡ (settle_on b).answer.number
unfolding settle_on plain_settle
broken-number b why e = sym (ap (λ (x : Settling). (plain_settle x).number) (broken-is b why e))

-- at the exit of a `?`
module _ (x : Result ℕ Refusal) (why : Refusal) (exit : IsErrAnd x (λ y. y ≡ why)) where
  means : settled_meaning x ≡ settled_meaning (Err why)
  means = let p = err_from_is_err_and x exit in ap settled_meaning (p.1 ∙ ap Err p.2)

  refuses : (settled_meaning x).number ≡ 0 → ⊥
  refuses z = has-number why (sym (ap (λ (p : Plain). p.number) means) ∙ z)

  pub settle-broken : (b : List ℕ) → number why ≡ bytes_number b → Settles b x b
  unfolding settle_on plain_settle calls_taken run_on
  settle-broken b e =
      let on = broken-is b why e in
      record {
        answer = means ∙ sym (ap plain_settle on);
        bytes = sym (ap (λ (y : Settling). run_on b (calls_taken y)) on);
      }

  pub copy-barred : (b : List ℕ) → is_stored b ≡ true → number why ≡ refuse (cannot_settle (hall_of b)) 42 → (c : List ℕ) → SettledCopy b x c
  unfolding settle_on plain_settle
  copy-barred b s e c =
      record {
        answer = means ∙ sym (ap plain_settle (settling-held b s ∙ barred-is (hall_of b) why e));
        bytes = λ z. absurd (refuses z);
      }

  -- a settle refused on a copy leaves the bytes
  pub settle-refused : (b c : List ℕ) → SettledCopy b (Err why) c → Settles b x b
  unfolding settle_on plain_settle calls_taken run_on
  settle-refused b c copy = record { answer = means ∙ copy.answer; bytes = by (settling_on b) refl }
    where
      none-taken : (ws : List Words) → length ws ≡ 0 → b ≡ run_on b ws
      none-taken [] l = refl
      none-taken (w ∷ ws) l = absurd (omega arith)

      by : (y : Settling) → settling_on b ≡ y → b ≡ run_on b (calls_taken y)
      by (settled ws) i = none-taken ws (sym (ap (λ (p : Plain). get_or p.values 0 0) (copy.answer ∙ ap plain_settle i)))
      by (refused k) i = refl

-- ## The copy

take_whole : (n : ℕ) (xs : List ℕ) → length xs ≡ n → take n xs ≡ xs
take_whole n xs l = sym (ap (take n) (append-nil xs)) ∙ take_at xs [] n l

-- a list written over the beginning of another, and over one as long
pub front-written : (n : ℕ) (xs b : List ℕ) → length xs ≡ n → n ≤ length b → sets b 0 xs ≡ xs ++ drop n b
front-written n xs b l few =
    let at : 0 + length xs ≡ n = omega arith in
    sets-eq xs b 0 (omega arith) ∙ ap (λ k. xs ++ drop k b) at

pub whole-written : (n : ℕ) (xs w : List ℕ) → length xs ≡ n → length w ≡ n → sets w 0 xs ≡ xs
whole-written n xs w l m =
    front-written n xs w l (omega arith) ∙ ap (λ k. xs ++ drop k w) (sym m) ∙ ap (λ (r : List ℕ). xs ++ r) (drop-length w) ∙ append-nil xs

-- ## A run on a slice, and on a copy of its stored part

module _ (b : List ℕ) (s : is_stored b ≡ true) where
  abbrev h : Hall
  h = hall_of b

  abbrev rest : List ℕ
  rest = drop stored_length b

  valid : ValidHall h
  valid = hall_of-valid b s

  run-whole : (ws : List Words) → WordsIn ws → run_on b ws ≡ stored (run hl3 h ws) ++ rest
  run-whole ws low = ap (λ (x : List ℕ). run_on x ws) (sym (stored-slice b s)) ∙ (run-stored h rest ws valid low).0

  run-first : (ws : List Words) → WordsIn ws → stored (run hl3 h ws) ≡ take stored_length (run_on b ws)
  run-first ws low =
      sym (ap (take stored_length) (run-whole ws low) ∙ take_at (stored (run hl3 h ws)) rest stored_length (stored-block (run hl3 h ws) (run-valid hl3 h ws low valid)).len)

  pub run-copy : (ws : List Words) → WordsIn ws → run_on (take stored_length b) ws ≡ take stored_length (run_on b ws)
  run-copy ws low =
      ap (λ (x : List ℕ). run_on x ws) (sym (stored-hall_of b s) ∙ sym (append-nil (stored h)))
      ∙ (run-stored h [] ws valid low).0 ∙ append-nil (stored (run hl3 h ws)) ∙ run-first ws low

  -- the copy written back
  copy-back : take stored_length (settle_on b).bytes ++ drop stored_length b ≡ (settle_on b).bytes
  unfolding settle_on
  copy-back =
      let ws = calls_taken (settle hl3 h) in
      let on = ap (λ (y : Settling). run_on b (calls_taken y)) (settling-held b s) in
      ap (λ (x : List ℕ). take stored_length x ++ rest) on ∙ ap (λ (x : List ℕ). x ++ rest) (sym (run-first ws (settle-hall-low h valid))) ∙ sym (run-whole ws (settle-hall-low h valid)) ∙ sym on

-- b holds a hall, and c is a slice w of the stored length with the stored part of b written in it
module _ (b : List ℕ) (s : is_stored b ≡ true) (w : List ℕ) (long : length w ≡ stored_length) (c : List ℕ)
    (written : c ≡ sets w 0 (take stored_length b)) where
  copied : c ≡ take stored_length b
  copied = written ∙ whole-written stored_length (take stored_length b) w (length-take-le stored_length b (is_stored-long b s)) long

  copy-hall : hall_of c ≡ hall_of b
  copy-hall = ap hall_of copied ∙ hall_of-first b

  -- its view with the greatest number is b's
  pub copy-view : (v : View) → ViewIs (hall_of b) (greatest_view (hall_of b)) v → InView c v
  copy-view v i =
      record {
        holds = ap is_stored copied ∙ is_stored-first b (is_stored-long b s) ∙ s;
        view = subst (λ (x : Hall). ViewIs x (greatest_view x) v) (sym copy-hall) i;
      }

  -- turns on the copy are the settle's
  pub copy-settled : 0 ≡ refuse (cannot_settle (hall_of b)) 42 → (v : View) → ViewIs (hall_of b) (greatest_view (hall_of b)) v
      → (x : Result ℕ Refusal) (d : List ℕ) → TurnsTaken c v x d → SettledCopy b x d
  unfolding settle_on
  copy-settled free v i x d taken =
      let same : settle_from hl3 max_turns v.number (hall_of c) ≡ settle hl3 (hall_of b) =
      ap₂ (λ (g : ℕ) (k : Hall). settle_from hl3 max_turns g k) i.number copy-hall ∙ sym (settle_goes (hall_of b) (not-barred (hall_of b) free)) in
      let on = settling-held b s in
      record {
        answer = taken.answer ∙ ap plain_settle (same ∙ sym on);
        bytes = λ z.
            taken.bytes z ∙ ap (λ (y : Settling). run_on c (calls_taken y)) same
            ∙ ap (λ (y : List ℕ). run_on y (calls_taken (settle hl3 (hall_of b)))) copied
            ∙ run-copy b s (calls_taken (settle hl3 (hall_of b))) (settle-hall-low (hall_of b) (hall_of-valid b s))
            ∙ ap (λ (y : Settling). take stored_length (run_on b (calls_taken y))) (sym on);
      }

-- ## The answer of the whole

-- the check refuses nothing: the slice holds a hall
pub checked : (b : List ℕ) → 0 ≡ bytes_number b → is_stored b ≡ true
checked b e = bytes-hold b (sym e)

-- its copy is written back
pub settle-taken : (b : List ℕ) → is_stored b ≡ true → (n : ℕ) (c : List ℕ) → SettledCopy b (Ok n) c → length c ≡ stored_length
    → (d : List ℕ) → d ≡ sets b 0 (take stored_length c) → Settles b (Ok n) d
settle-taken b s n c copy l d is =
    let whole : take stored_length c ≡ c = take_whole stored_length c l in
    record {
      answer = copy.answer;
      bytes =
          is ∙ ap (sets b 0) whole ∙ front-written stored_length c b l (is_stored-long b s)
          ∙ ap (λ (r : List ℕ). r ++ drop stored_length b) (copy.bytes refl) ∙ copy-back b s;
    }
