-- Laws of specs/Text. Assumes nothing.
use Prim.Native.Nat.{ℕ, ◌+◌}
use native.Mathlib.Omega.{arith}
use mathlib.Core.Path.{◌≡◌, refl, sym, ap, ap₂, ◌∙◌}
use mathlib.Core.List.{List, [], ◌∷◌, ◌++◌}
use lib.ListN.{length, set, length-append}
use lib.Seq.{sets, length-sets}
use Rattle.codec.proofs.BytesLaws.{sets-append}
use Rattle.text.specs.Text.{Wrote}

pub wrote-length : {b xs a : List ℕ} {o n : ℕ} → Wrote b o xs a n → length a ≡ length b
wrote-length w = ap length w.bytes ∙ simp length-sets

-- one byte
pub wrote_one : (b : List ℕ) (o x : ℕ) → Wrote b o (x ∷ []) (set b o x) (o + 1)
wrote_one b o x = record { bytes = refl; next = refl }

-- two pieces, one after the other
pub then : {b xs m ys a : List ℕ} {o i n : ℕ} → Wrote b o xs m i → Wrote m i ys a n → Wrote b o (xs ++ ys) a n
then {b} {xs} {m} {ys} {o} v w =
    record {
      bytes = w.bytes ∙ ap₂ (λ (l : List ℕ) (k : ℕ). sets l k ys) v.bytes v.next ∙ sym (sets-append b o xs ys);
      next = omega (arith, v.next, w.next, length-append xs ys);
    }
