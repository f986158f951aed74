-- Steps one after another on a slice. Assumes nothing.
use Prim.Native.Nat.{ℕ, ◌<◌}
use mathlib.Core.Path.{◌≡◌, refl, sym, ap, ◌∙◌}
use mathlib.Core.Bool.{Bool, true, false}
use mathlib.Core.List.{List, [], ◌∷◌, ◌++◌}
use lib.ListN.{length}
use Rattle.model.specs.Answers.{refused}
use Rattle.model.specs.Kinds.{Kind, KindWord, kind, no_kind, kind_of}
use Rattle.model.specs.Call.{Words}
use Rattle.store.specs.StoredForm.{is_stored}
use Rattle.calls.specs.Calls.{Outcome, step_on, run_on}
use Rattle.calls.proofs.ByKindLaws.{act_on, step-by-kind}
use Rattle.calls.specs.ByKind.{give}
use Rattle.runfile.specs.Answers.{actions_of}
use Rattle.runfile.proofs.WriteLaws.{first_four, actions_of-next, actions_of-none}

-- the next action, and those left after it
pub run-next : (b c ws x rest : List ℕ) → ws ≡ x ++ rest → length x ≡ 4 → c ≡ (step_on b (first_four x)).bytes
    → run_on c (actions_of rest) ≡ run_on b (actions_of ws)
unfolding run_on
run-next b c ws x rest e h f =
    ap (λ (z : List ℕ). run_on z (actions_of rest)) f ∙ sym (ap (run_on b) (actions_of-next ws x rest e h))

-- none are left
pub run-none : (b ws : List ℕ) → length ws < 4 → run_on b (actions_of ws) ≡ b
unfolding run_on
run-none b ws h = ap (run_on b) (actions_of-none ws h)

-- on bytes that hold no hall nothing is changed
step-broken : (b : List ℕ) (w : Words) → is_stored b ≡ false → (step_on b w).bytes ≡ b
step-broken b w s = ap (λ (o : Outcome). o.bytes) (step-by-kind b w) ∙ go (kind_of w.k)
  where
    by_bytes : Kind → Bool → Outcome
    by_bytes κ t = elim t [ true ↦ act_on b κ w.r w.a w.b | false ↦ give (refused 31) b ]

    by_kind : KindWord → Outcome
    by_kind k = elim k [ kind κ ↦ by_bytes κ (is_stored b) | no_kind ↦ give (refused 11) b ]

    go : (k : KindWord) → (by_kind k).bytes ≡ b
    go (kind κ) = ap (λ (t : Bool). (by_bytes κ t).bytes) s
    go no_kind = refl

pub run-broken : (b : List ℕ) (ws : List Words) → is_stored b ≡ false → b ≡ run_on b ws
unfolding run_on
run-broken b [] s = refl
run-broken b (w ∷ ws) s = run-broken b ws s ∙ ap (λ (c : List ℕ). run_on c ws) (sym (step-broken b w s))
