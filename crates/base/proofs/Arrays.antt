-- What an array's `map` gives, where the closure computes a function and is left as it was. Assumes nothing.
use Prim.Native.Nat.{ℕ, zero, suc, ◌+◌, ◌≤◌, ◌<◌}
use native.Mathlib.Omega.{arith}
use mathlib.Core.Path.{◌≡◌, sym, ap, subst, ◌∙◌}
use mathlib.Core.List.{List, map}
use lib.Dec.{eqb}
use lib.ListN.{length, get_or, length-map}
use lib.Seq.{ext_get_or}
use borrow.Author.Tests.{eqb-true, eqb-false}
use denote.Param.Members.{Mut, Called}
use Rattle.std.specs.Array.{MapsFrom, IsMapOf}
use Rattle.std.proofs.lemmas.List.{get_or-map}
use Rattle.base.proofs.Bools.{by_cases}

module _ {F : Type 0} (g : Mut F (ℕ × Unit {0}) ℕ) (f : F) (h : ℕ → ℕ)
    (computes : (x y : ℕ) (q : F) → Called g f (x, tt) y q → (q ≡ f) × (y ≡ h x)) where
  maps-at : (xs ys : List ℕ) (i n : ℕ) → MapsFrom g f xs ys i n → (j : ℕ) → i ≤ j → j < i + n → get_or ys j 0 ≡ h (get_or xs j 0)
  maps-at xs ys i zero m j low high = absurd (omega arith)
  maps-at xs ys i (suc n) (q, x, y, ex, ey, call, rest) j low high =
      let r = computes x y q call in
      by_cases (eqb i j)
      (λ t. subst (λ (k : ℕ). get_or ys k 0 ≡ h (get_or xs k 0)) (eqb-true i j t) (ey.1 0 ∙ r.1 ∙ ap h (sym (ex.1 0))))
      (λ t. let ne : i ≡ j → ⊥ = eqb-false i j t in
      maps-at xs ys (i + 1) n (subst (λ (p : F). MapsFrom g p xs ys (i + 1) n) r.0 rest) j (omega arith) (omega arith))

  pub array-map : (xs ys : List ℕ) (n : ℕ) → length xs ≡ n → IsMapOf g f xs ys n → ys ≡ map h xs
  array-map xs ys n l m =
      let e : length ys ≡ length (map h xs) = m.long ∙ sym l ∙ sym (length-map xs h) in
      ext_get_or 0 ys (map h xs) e
      (λ i k. maps-at xs ys 0 n m.each i (omega arith) (omega (arith, m.long)) ∙ sym (get_or-map h xs i 0 0 (omega (arith, m.long))))
