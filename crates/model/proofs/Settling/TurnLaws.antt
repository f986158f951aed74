-- What a turn of a settle finds: the calls that were passed over, the call taken, the 40 met.
-- Assumes nothing.
use Prim.Native.Nat.{ℕ}
use mathlib.Core.Path.{◌≡◌, refl, sym, ap, ◌∙◌, subst}
use mathlib.Core.Logic.{⊎_elim}
use mathlib.Core.Bool.{Bool, true, false, true≢false}
use mathlib.Core.List.{List, [], ◌∷◌, ◌++◌, map}
use lib.Dec.{eqb}
use borrow.Author.Tests.{eqb-true, eqb-false}
use Rattle.base.specs.Lists.{has, Each}
use Rattle.base.proofs.ListsLaws.{has-cons, has-none, has-head, has-later, each_append, each_left, each_right}
use Rattle.model.specs.Hall.{Hall}
use Rattle.model.specs.Answers.{plain}
use Rattle.model.specs.Refusals.{Rules}
use Rattle.model.specs.Call.{Words, step}
use Rattle.model.specs.Settle.{settle_kinds, settle_call, calls_under, settle_calls, is_in_view, Turn, takes, full, none, tried, turn}

-- the number that a call is answered with, 0 for one that is accepted
abbrev pub number_at : Rules → Hall → Words → ℕ
number_at rules h w = (plain (step rules h w).answer).number

-- a call that a turn passes over: not in the view, or refused with another number than 40
abbrev pub Passed : Rules → Hall → ℕ → Words → Type 0
Passed rules h g w = is_in_view h g w ≡ true → (number_at rules h w ≡ 0 → ⊥) × (number_at rules h w ≡ 40 → ⊥)

-- the calls before w were passed over, and w, in the view, has number n
pub record Found (rules : Rules) (h : Hall) (g : ℕ) (calls : List Words) (w : Words) (n : ℕ) : Type 0 where
  pub before : List Words
  pub after : List Words
  pub split : calls ≡ before ++ (w ∷ after)
  pub passed : Each (Passed rules h g) before
  pub in_view : is_in_view h g w ≡ true
  pub number : number_at rules h w ≡ n

-- what a turn over these calls found
unfoldable pub Finds : Rules → Hall → ℕ → List Words → Turn → Type 0
Finds rules h g calls (takes w) = Found rules h g calls w 0
Finds rules h g calls full = (w : Words) × Found rules h g calls w 40
Finds rules h g calls none = Each (Passed rules h g) calls

-- one call more that is passed over
found-later : (rules : Rules) (h : Hall) (g : ℕ) (v : Words) (calls : List Words) (w : Words) (n : ℕ) → Passed rules h g v
    → Found rules h g calls w n → Found rules h g (v ∷ calls) w n
found-later rules h g v calls w n p f =
    record {
      before = v ∷ f.before;
      after = f.after;
      split = ap (λ (l : List Words). v ∷ l) f.split;
      passed = (p, f.passed);
      in_view = f.in_view;
      number = f.number;
    }

later : (rules : Rules) (h : Hall) (g : ℕ) (v : Words) (calls : List Words) (t : Turn) → Passed rules h g v
    → Finds rules h g calls t → Finds rules h g (v ∷ calls) t
unfolding Finds
later rules h g v calls (takes w) p f = found-later rules h g v calls w 0 p f
later rules h g v calls full p f = (f.0, found-later rules h g v calls f.0 40 p f.1)
later rules h g v calls none p f = (p, f)

pub finds : (rules : Rules) (h : Hall) (g : ℕ) (calls : List Words) → Finds rules h g calls (turn rules h g calls)
unfolding Finds turn tried
finds rules h g [] = tt
finds rules h g (w ∷ calls) = go (finds rules h g calls) (is_in_view h g w) refl
  where
    rest : Turn
    rest = turn rules h g calls

    n : ℕ
    n = number_at rules h w

    here : (k : ℕ) → is_in_view h g w ≡ true → n ≡ k → Found rules h g (w ∷ calls) w k
    here k i e = record { before = []; after = calls; split = refl; passed = tt; in_view = i; number = e }

    test : Finds rules h g calls rest → (s t : Bool) → eqb n 0 ≡ s → eqb n 40 ≡ t → is_in_view h g w ≡ true
        → Finds rules h g (w ∷ calls) (elim s [ true ↦ takes w | false ↦ elim t [ true ↦ full | false ↦ rest ] ])
    test r true t e f i = here 0 i (eqb-true n 0 e)
    test r false true e f i = (w, here 40 i (eqb-true n 40 f))
    test r false false e f i = later rules h g w calls rest (λ j. (eqb-false n 0 e, eqb-false n 40 f)) r

    go : Finds rules h g calls rest → (t : Bool) → is_in_view h g w ≡ t → Finds rules h g (w ∷ calls) (elim t [ true ↦ tried n w rest | false ↦ rest ])
    go r true i = test r (eqb n 0) (eqb n 40) refl refl i
    go r false i = later rules h g w calls rest (λ j. absurd (true≢false (sym j ∙ i))) r

-- ## The calls of a turn

-- P of each call under these kinds
module _ (P : Words → Type 0) where
  each_member : (g k : ℕ) (ms : List ℕ) (r : ℕ) → Each P (map (settle_call g k) ms) → has ms r ≡ true → P (settle_call g k r)
  each_member g k [] r p m = absurd (has-none r m)
  each_member g k (x ∷ ms) r p m =
      ⊎_elim (λ e. subst (λ r. P (settle_call g k r)) (sym e) p.0) (λ m'. each_member g k ms r p.1 m') (has-cons x ms r m)

  member-each : (g k : ℕ) (ms : List ℕ) → ((r : ℕ) → has ms r ≡ true → P (settle_call g k r)) → Each P (map (settle_call g k) ms)
  member-each g k [] p = tt
  member-each g k (x ∷ ms) p = (p x (has-head x ms), member-each g k ms (λ r m. p r (has-later x ms r m)))

  pub under-call : (g : ℕ) (ms ks : List ℕ) (k r : ℕ) → Each P (calls_under g ms ks) → has ks k ≡ true → has ms r ≡ true
      → P (settle_call g k r)
  unfolding calls_under
  under-call g ms [] k r p i m = absurd (has-none k i)
  under-call g ms (x ∷ ks) k r p i m =
      ⊎_elim
      (λ e. subst (λ k. P (settle_call g k r)) (sym e) (each_member g x ms r (each_left P (map (settle_call g x) ms) (calls_under g ms ks) p) m))
      (λ i'. under-call g ms ks k r (each_right P (map (settle_call g x) ms) (calls_under g ms ks) p) i' m)
      (has-cons x ks k i)

  pub call-under : (g : ℕ) (ms ks : List ℕ) → ((k r : ℕ) → has ks k ≡ true → has ms r ≡ true → P (settle_call g k r))
      → Each P (calls_under g ms ks)
  unfolding calls_under
  call-under g ms [] p = tt
  call-under g ms (x ∷ ks) p =
      each_append P (map (settle_call g x) ms) (calls_under g ms ks) (member-each g x ms (λ r m. p x r (has-head x ks) m))
      (call-under g ms ks (λ k r i m. p k r (has-later x ks k i) m))

-- a call found in the list: its kind and recorder
pub record IsCall (g : ℕ) (ms : List ℕ) (w : Words) : Type 0 where
  pub kind : ℕ
  pub recorder : ℕ
  pub listed : has settle_kinds kind ≡ true
  pub member : has ms recorder ≡ true
  pub words : w ≡ settle_call g kind recorder

pub call-of : (g : ℕ) (ms : List ℕ) (before after : List Words) (w : Words) → settle_calls g ms ≡ before ++ (w ∷ after) → IsCall g ms w
unfolding settle_calls
call-of g ms before after w e =
    (each_right (IsCall g ms) before (w ∷ after)
    (subst (Each (IsCall g ms)) e
    (call-under (IsCall g ms) g ms settle_kinds (λ k r i m. record { kind = k; recorder = r; listed = i; member = m; words = refl })))
    ).0
