-- Parts of a list put back: a list that differs from b in two parts alone, with b's own two parts written in it, is b. The
-- parts may overlap. Assumes nothing.
use Prim.Native.Nat.{ℕ, suc, ◌+◌, ◌-◌, ◌≤◌, ◌<◌}
use native.Mathlib.Omega.{arith}
use mathlib.Core.Path.{◌≡◌, refl, sym, ap, ◌∙◌}
use mathlib.Core.Logic.{◌⊎◌, inl, inr, ⊎_elim}
use mathlib.Core.Bool.{Bool, true, false}
use mathlib.Core.List.{List, [], ◌∷◌}
use lib.Dec.{ltb}
use borrow.Author.Tests.{ltb-true, ltb-false}
use lib.ListN.{length, get_or, set, drop, length-drop, length-set}
use lib.Seq.{sets, length-sets, get_or-set_same, get_or-set_other, get_or-take, get_or-drop, ext_get_or, length-take-le}
use Rattle.codec.specs.Bytes.{part}
use Rattle.codec.specs.Covers.{Outside, Covers}

-- what is written elsewhere leaves place j
pub sets-outside : (vs l : List ℕ) (i j : ℕ) → Outside i (length vs) j → get_or (sets l i vs) j 0 ≡ get_or l j 0
sets-outside [] l i j h = refl
sets-outside (a ∷ vs) l i j h =
    sets-outside vs (set l i a) (suc i) j (⊎_elim (λ x. inl (omega arith)) (λ x. inr (omega arith)) h)
    ∙ get_or-set_other l i j a 0 (λ e. ⊎_elim (λ x. omega arith) (λ x. omega arith) h)

-- and what is written there stands there
sets-inside : (vs l : List ℕ) (i j : ℕ) → i ≤ j → j < i + length vs → i + length vs ≤ length l → get_or (sets l i vs) j 0 ≡ get_or vs (j - i) 0
sets-inside [] l i j low high room = absurd (omega arith)
sets-inside (a ∷ vs) l i j low high room =
    go (ltb i j) refl (λ lt. sets-inside vs (set l i a) (suc i) j (omega arith) (omega arith) (rw length-set (omega arith)))
  where
    go : (t : Bool) → ltb i j ≡ t → (i < j → get_or (sets (set l i a) (suc i) vs) j 0 ≡ get_or vs (j - suc i) 0)
        → get_or (sets (set l i a) (suc i) vs) j 0 ≡ get_or (a ∷ vs) (j - i) 0
    go true t later =
        let lt = ltb-true i j t in
        let e : j - i ≡ suc (j - suc i) = omega arith in
        later lt ∙ sym (ap (λ (k : ℕ). get_or (a ∷ vs) k 0) e)
    go false f later =
        let le = ltb-false i j f in
        let e : j ≡ i = omega arith in
        let z : j - i ≡ 0 = omega arith in
        sets-outside vs (set l i a) (suc i) j (inl (omega arith))
        ∙ ap (λ (k : ℕ). get_or (set l i a) k 0) e ∙ get_or-set_same l i a 0 (omega arith) ∙ sym (ap (λ (k : ℕ). get_or (a ∷ vs) k 0) z)

pub part_length : (o n : ℕ) (b : List ℕ) → o + n ≤ length b → length (part o n b) ≡ n
part_length o n b h = length-take-le n (drop o b) (rw length-drop (omega arith))

-- b's own part written into c: b's inside, c's outside
part_in : (b c : List ℕ) (o n j : ℕ) → o + n ≤ length b → length c ≡ length b → o ≤ j → j < o + n → get_or (sets c o (part o n b)) j 0 ≡ get_or b j 0
part_in b c o n j room len low high =
    let l = part_length o n b room in
    sets-inside (part o n b) c o j low (omega arith) (omega arith)
    ∙ get_or-take n (drop o b) (j - o) 0 (omega arith) ∙ get_or-drop o b (j - o) 0 ∙ ap (λ (k : ℕ). get_or b k 0) (omega arith)

part_out : (b c : List ℕ) (o n j : ℕ) → o + n ≤ length b → Outside o n j → get_or (sets c o (part o n b)) j 0 ≡ get_or c j 0
part_out b c o n j room h =
    let l = part_length o n b room in
    sets-outside (part o n b) c o j (⊎_elim (λ x. inl x) (λ x. inr (omega arith)) h)

either : (o n j : ℕ) → ((o ≤ j) × (j < o + n)) ⊎ Outside o n j
either o n j = go (ltb j o) refl (ltb j (o + n)) refl
  where
    go : (t : Bool) → ltb j o ≡ t → (u : Bool) → ltb j (o + n) ≡ u → ((o ≤ j) × (j < o + n)) ⊎ Outside o n j
    go true t u e = inr (inl (ltb-true j o t))
    go false f true e = inl (ltb-false j o f, ltb-true j (o + n) e)
    go false f false e = inr (inr (ltb-false j (o + n) e))

-- two writes do so
pub written-covers : (b : List ℕ) (o u : ℕ) (x y : List ℕ) → o + length x ≤ length b → u + length y ≤ length b
    → Covers b (sets (sets b o x) u y) o (length x) u (length y)
written-covers b o u x y one two =
    record {
      first = one;
      second = two;
      long = length-sets (sets b o x) u y ∙ length-sets b o x;
      same = λ j far away. sets-outside y (sets b o x) u j away ∙ sets-outside x b o j far;
    }

pub restored : (b c : List ℕ) (o n u m : ℕ) → Covers b c o n u m → sets (sets c o (part o n b)) u (part u m b) ≡ b
restored b c o n u m v =
    let d = sets c o (part o n b) in
    let long : length d ≡ length b = length-sets c o (part o n b) ∙ v.long in
    ext_get_or 0 _ b (length-sets d u (part u m b) ∙ long)
    (λ j h.
    ⊎_elim
    (λ k. part_in b d u m j v.second long k.0 k.1)
    (λ away. part_out b d u m j v.second away
    ∙ ⊎_elim (λ k. part_in b c o n j v.first v.long k.0 k.1) (λ far. part_out b c o n j v.first far ∙ v.same j far away) (either o n j))
    (either u m j))
