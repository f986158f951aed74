-- Each call on a bench, and any list of them, keeps what Standing says. Assumes nothing.
use Prim.Native.Nat.{◌^◌, ◌<◌}
use mathlib.Core.Path.{◌≡◌, refl, sym, ap, ◌∙◌, subst}
use mathlib.Core.Bool.{Bool, true, false, true≢false}
use mathlib.Core.List.{List, [], ◌∷◌}
use mathlib.Core.Option.{Option, none, some}
use lib.Dec.{eqb}
use borrow.Author.Tests.{eqb-true, eqb-false}
use Rattle.base.proofs.Bools.{and_both}
use Rattle.model.specs.Answers.{accepted}
use Rattle.model.specs.Call.{Words}
use Rattle.model.specs.Settle.{calls_taken}
use Rattle.store.specs.StoredForm.{is_stored}
use Rattle.calls.specs.Calls.{settling_on}
use Rattle.calls.proofs.SettleLaws.{settle-low}
use Rattle.undo.specs.Buffer.{Slot, is_undo, held_in, newest_of, put_back}
use Rattle.undo.proofs.BufferLaws.{popped-is_undo}
use Rattle.undo.proofs.Rooms.{snoc_of}
use Rattle.stepback.specs.Held.{Bench, step_held_on, settle_held_on, leads, restored_by, can_step_back, back_on}
use Rattle.stepback.specs.Runs.{BenchCall, step, settle, back, CallsFit, after, after_all, Remaining, more, but_last, less, follow, follow_all, remaining}
use Rattle.stepback.specs.Promises.{Stands}
use Rattle.stepback.proofs.HeldLaws.{step-refused, step-taken, step-takes, settle-taken, settle-keeps-bench, back-taken, back-takes, back-keeps-bench}
use Rattle.stepback.proofs.RunsLaws.{settle-all, but_last_lem}
use Rattle.stepback.proofs.Standing.{remains, stands-start, stands-push, stands-run, stands-pop}

-- ## A step back that is accepted

module _ (x : Bench) (z : (back_on x).number ≡ 0) where
  by-newest : (s : Option Slot) → can_step_back x.hall s ≡ true → is_stored (restored_by x.hall s) ≡ true
  unfolding can_step_back restored_by leads
  by-newest none c = absurd (true≢false (sym c))
  by-newest (some s) c = (and_both (is_stored (put_back x.hall s)) _ c).0

  -- it leaves a hall and a buffer
  back-left : (is_stored (back_on x).left.hall ≡ true) × (is_undo (back_on x).left.undo ≡ true)
  back-left =
      let t = back-taken x z in
      let e = (back-takes x t.0 t.1 t.2).1 in (
        ap (λ (y : Bench). is_stored y.hall) e ∙ by-newest (newest_of (held_in x.undo)) t.2,
        ap (λ (y : Bench). is_undo y.undo) e ∙ popped-is_undo x.undo t.1,
      )

  -- on a buffer that holds one
  pub back-holds : held_in x.undo ≡ [] → ⊥
  unfolding can_step_back newest_of
  back-holds e = true≢false (sym (back-taken x z).2 ∙ ap (λ (l : List Slot). can_step_back x.hall (newest_of l)) e)

-- ## One call more

abbrev pub CallFits : BenchCall → Type 0
CallFits (step w) = w.a < 2 ^ 32
CallFits settle = Unit {0}
CallFits back = Unit {0}

module _ (t : Remaining) (y : Bench) (st : Stands t y) where
  less_by : List Words → Remaining
  less_by vs = elim vs [ [] ↦ remains (back_on y).left [] | w ∷ ws ↦ remains t.start (but_last (w ∷ ws)) ]

  by-actions : (back_on y).number ≡ 0 → (vs : List Words) → t.actions ≡ vs → Stands (less_by vs) (back_on y).left
  unfolding less_by
  by-actions z [] e = let l = back-left y z in stands-start (back_on y).left l.0 l.1
  by-actions z (v ∷ vs) e =
      let s = snoc_of v vs in
      subst (λ (l : List Words). Stands (remains t.start l) (back_on y).left) (sym (ap but_last s.joins ∙ but_last_lem s.front s.last))
      (stands-pop t y st s.front s.last (e ∙ s.joins) (back-holds y z))

  by-back : (v : Bool) → eqb (back_on y).number 0 ≡ v → Stands (elim v [ true ↦ less (back_on y).left t | false ↦ t ]) (back_on y).left
  unfolding less less_by
  by-back true v = by-actions (eqb-true (back_on y).number 0 v) t.actions refl
  by-back false v = subst (Stands t) (sym (back-keeps-bench y (eqb-false (back_on y).number 0 v))) st

  by-step : (w : Words) → w.a < 2 ^ 32 → (v : Bool) → accepted (step_held_on y w).answer ≡ v
      → Stands (elim v [ true ↦ more t (w ∷ []) | false ↦ t ]) (step_held_on y w).left
  by-step w low true v =
      let a = step-taken y w v in
      subst (Stands (more t (w ∷ []))) (sym (step-takes y w a.0 a.1 a.2)) (stands-push t y st w low a.2)
  by-step w low false v = subst (Stands t) (sym (step-refused y w v)) st

  by-settle : (v : Bool) → eqb (settle_held_on y).answer.number 0 ≡ v
      → Stands (elim v [ true ↦ more t (calls_taken (settling_on y.hall)) | false ↦ t ]) (settle_held_on y).left
  by-settle true v =
      let ws = calls_taken (settling_on y.hall) in
      subst (Stands (more t ws)) (sym (settle-taken y (eqb-true (settle_held_on y).answer.number 0 v)).2)
      (stands-run ws t y st (settle-low y.hall) (settle-all y.hall))
  by-settle false v = subst (Stands t) (sym (settle-keeps-bench y (eqb-false (settle_held_on y).answer.number 0 v))) st

  pub stands-call : (c : BenchCall) → CallFits c → Stands (follow y t c) (after y c)
  unfolding follow after
  stands-call (step w) fit = by-step w fit (accepted (step_held_on y w).answer) refl
  stands-call settle fit = by-settle (eqb (settle_held_on y).answer.number 0) refl
  stands-call back fit = by-back (eqb (back_on y).number 0) refl

pub fits-first : (c : BenchCall) (cs : List BenchCall) → CallsFit (c ∷ cs) → CallFits c × CallsFit cs
fits-first (step w) cs fit = fit
fits-first settle cs fit = (tt, fit)
fits-first back cs fit = (tt, fit)

stands-all : (t : Remaining) (y : Bench) → Stands t y → (cs : List BenchCall) → CallsFit cs → Stands (follow_all y t cs) (after_all y cs)
unfolding follow_all after_all
stands-all t y st [] fit = st
stands-all t y st (c ∷ cs) fit =
    let f = fits-first c cs fit in
    stands-all (follow y t c) (after y c) (stands-call t y st c f.0) cs f.1

-- from any bench with a hall and a buffer in form, after any list of calls
pub calls-stand : (x : Bench) → is_stored x.hall ≡ true → is_undo x.undo ≡ true → (cs : List BenchCall) → CallsFit cs
    → Stands (remaining x cs) (after_all x cs)
unfolding remaining
calls-stand x s i cs fit = stands-all (remains x []) x (stands-start x s i) cs fit
