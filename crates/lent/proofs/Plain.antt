-- Plain answers of calls that are taken. Assumes nothing.
use Prim.Native.Nat.{ℕ}
use mathlib.Core.Path.{◌≡◌, sym, subst}
use mathlib.Core.List.{List}
use Rattle.model.specs.Answers.{Plain}
use Rattle.calls.specs.Lent.{taken, lent_call, Leaves}

-- a plain answer with the number 0
pub plain-taken : (x : Plain) (vs : List ℕ) → x.number ≡ 0 → vs ≡ x.values → taken vs ≡ x
plain-taken x vs e f = λ i. record { number = sym e i; values = f i }

-- what a call leaves goes by its plain answer
pub leaves-as : (b out : List ℕ) {x y : Plain} {h z : List ℕ} {n : ℕ} → x ≡ y → Leaves (lent_call x b b out) n h z → Leaves (lent_call y b b out) n h z
leaves-as b out {h} {z} {n} e l = subst (λ (p : Plain). Leaves (lent_call p b b out) n h z) e l
