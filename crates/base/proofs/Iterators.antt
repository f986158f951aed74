-- What `all` and `any` over a range of numbers come to, where the closure answers a test and is left as it was.
-- Assumes nothing.
use Prim.Native.Nat.{ℕ, ◌+◌, ◌-◌, ◌≤◌, ◌<◌}
use native.Mathlib.Omega.{arith}
use mathlib.Core.Path.{◌≡◌, refl, sym, ap, ap₂, subst, ◌∙◌}
use mathlib.Core.Bool.{Bool, true, false, not, ◌&&◌, ◌||◌, false≢true}
use mathlib.Core.List.{List, [], ◌∷◌}
use denote.Param.Members.{Mut}
use Rattle.std.specs.Prelude.{Option, None, Some, IfSome, IsSomeAnd, IsTrue, MatchBool}
use Rattle.std.specs.Option.{option_map}
use Rattle.std.specs.Fn.{Called}
use Rattle.std.specs.Iterator.Runs.{Run, SomeRun, AllItems, ItemsCountUp, AllItemsGive, AnyItemGives}
use Rattle.std.specs.declared.ops.Range.{Range}
use Rattle.std.specs.declared.ops.RangeInclusive.{RangeInclusive}
use Rattle.std.specs.Range.{range_inclusive_start, range_inclusive_end, range_inclusive_exhausted}
use Rattle.std.proofs.iter.Yields.{nat_range_steps}
use Rattle.std.proofs.iter.runs.Sources.{nat_range_inclusive_steps, range_listed, inclusive_listed}
use Rattle.base.specs.Lists.{filter, all, any}
use Rattle.base.specs.Numbers.{up_to}
use Rattle.base.proofs.Bools.{by_cases, not-both}
use Rattle.base.proofs.ListsLaws.{all-has, has_all, filter-in, filter-out}
use Rattle.base.proofs.NumbersLaws.{up_to-range, has-up_to}

not-not : (b : Bool) → not (not b) ≡ b
not-not true = refl
not-not false = refl

-- ## A test of each number

-- t holds of each number from a up to b, or fails at one
abbrev pub Tells : (ℕ → Bool) → ℕ → ℕ → Bool → Type 0
Tells t a b r = MatchBool r ((k : ℕ) → a ≤ k → k < b → t k ≡ true) ((k : ℕ) × (a ≤ k) × (k < b) × (t k ≡ false))

-- the numbers 1 to n
pub tells_up_to : (t : ℕ → Bool) (n : ℕ) (r : Bool) → Tells t 1 (n + 1) r → r ≡ all t (up_to n)
tells_up_to t n true h = sym (has_all t (up_to n) (λ k m. let i = up_to-range n k m in h k i.0 (omega (arith, i.1))))
tells_up_to t n false h =
    by_cases (all t (up_to n))
    (λ e. absurd (not-both (all-has t (up_to n) h.0 e (has-up_to n h.0 h.1 (omega (arith, h.2)))) h.3))
    sym

-- the elements that q takes pass p, where none is taken that fails p
pub all-filter : (q p : ℕ → Bool) (xs : List ℕ) → all (λ k. not (q k && not (p k))) xs ≡ all p (filter q xs)
unfolding all filter
all-filter q p [] = refl
all-filter q p (x ∷ xs) =
    by_cases (q x)
    (λ e. ap rest e ∙ ap₂ ◌&&◌ (not-not (p x)) (all-filter q p xs) ∙ sym (ap (all p) (filter-in q x xs e)))
    (λ e. ap rest e ∙ all-filter q p xs ∙ sym (ap (all p) (filter-out q x xs e)))
  where
    rest : Bool → Bool
    rest u = not (u && not (p x)) && all (λ k. not (q k && not (p k))) xs

-- some element has t, where not all fail it
pub any-all : (t : ℕ → Bool) (xs : List ℕ) → any t xs ≡ not (all (λ k. not (t k)) xs)
unfolding any all
any-all t [] = refl
any-all t (x ∷ xs) = go (t x) (any-all t xs)
  where
    go : (u : Bool) → any t xs ≡ not (all (λ k. not (t k)) xs) → (u || any t xs) ≡ not (not u && all (λ k. not (t k)) xs)
    go true e = refl
    go false e = e

-- ## The items of a run

item : (o : Option ℕ) (x : ℕ) (P : ℕ → Type 0) → option_map (λ y. y) o ≡ Some x → IfSome o P → P x
item None x P e h = absurd (false≢true (ap (λ (z : Option ℕ). elim z [ None ↦ false | Some y ↦ true ]) e))
item (Some y) x P e h = subst P (ap (λ (z : Option ℕ). elim z [ None ↦ 0 | Some y ↦ y ]) e) h

both : (o : Option ℕ) (P Q : ℕ → Type 0) → IsSomeAnd o P → IfSome o Q → (x : ℕ) × P x × Q x
both None P Q h k = absurd h
both (Some x) P Q h k = (x, h, k)

-- what is said of each item is what t says
module _ (t : ℕ → Bool) (Says : ℕ → Bool → Type 0) (says : (x : ℕ) (v : Bool) → Says x v → v ≡ t x)
    {S : Type 0} {steps : S → Option ℕ → S → Type 0} (a b : ℕ) (q : Run steps) (up : ItemsCountUp q a b) where
  pub each-item : (v : Bool) → IsTrue q.whole → AllItems q (λ x. Says x v) → (k : ℕ) → a ≤ k → k < b → t k ≡ v
  each-item v w h k lo hi =
      let n : k - a < q.len = omega (arith, up.1 w) in
      let e : a + (k - a) ≡ k = omega arith in
      sym (says (a + (k - a)) v (item (q.at (k - a)) (a + (k - a)) (λ x. Says x v) (up.3 (k - a) n) (h (k - a))) ∙ ap t e)

  pub some-item : (v : Bool) (i : ℕ) → IsSomeAnd (q.at i) (λ x. Says x v) → (a + i < b) × (t (a + i) ≡ v)
  some-item v i h =
      let x = both (q.at i) (λ x. Says x v) (λ x. (x ≡ a + i) × (x < b)) h (up.2 i) in
      (omega (arith, x.2), ap t (sym x.2.0) ∙ sym (says x.0 v x.1))

-- `a..b` counts up from a to b, and `a..=b` to b + 1
pub range-counts : (a b : ℕ) (s : Range ℕ) → s.start ≡ a → s.end ≡ b → (q : Run nat_range_steps) → q.from ≡ s → ItemsCountUp q a b
range-counts a b s low high q w =
    let l = range_listed q q.seen in
    subst (λ m. ItemsCountUp q m b) (l.2 ∙ ap (λ z. z.start) w ∙ low)
    (subst (λ m. ItemsCountUp q l.0 m) (l.3 ∙ ap (λ z. z.end) w ∙ high) l.4)

pub inclusive-counts : (a b : ℕ) (s : RangeInclusive ℕ) → range_inclusive_start s ≡ a → range_inclusive_end s ≡ b → range_inclusive_exhausted s ≡ false
    → (q : Run nat_range_inclusive_steps) → q.from ≡ s → ItemsCountUp q a (b + 1)
inclusive-counts a b s low high more q w =
    let l = inclusive_listed q q.seen in
    subst (λ m. ItemsCountUp q m (b + 1)) (l.2 ∙ ap range_inclusive_start w ∙ low)
    (subst (λ m. ItemsCountUp q l.0 m) (l.3 ∙ ap (λ z. range_inclusive_end z + 1) w ∙ ap (λ z. z + 1) high) (l.4 (ap range_inclusive_exhausted w ∙ more)).0)

-- ## `all` and `any`

-- the closure answers t
module _ {F : Type 0} {g : Mut F (ℕ × Unit {0}) Bool} {f : F} (t : ℕ → Bool)
    (says : (x : ℕ) (v : Bool) (h : F) → Called g f (x, tt) v h → (h ≡ f) × (v ≡ t x)) where
  keeps : (y : ℕ × Unit {0}) (v : Bool) (h : F) → Called g f y v h → h ≡ f
  keeps y v h c = (says y.0 v h c).0

  Says : ℕ → Bool → Type 0
  Says x v = Called g f (x, tt) v f

  answers : (x : ℕ) (v : Bool) → Says x v → v ≡ t x
  unfolding Says
  answers x v c = (says x v f c).1

  module _ {S : Type 0} {steps : S → Option ℕ → S → Type 0} (a b : ℕ) (q : Run steps) (up : ItemsCountUp q a b) where
    all-run : (r : Bool) → MatchBool r (IsTrue q.whole × AllItemsGive q g f true) (AnyItemGives q g f false) → Tells t a b r
    unfolding Says
    all-run true w = each-item t Says answers a b q up true w.0 (w.1 keeps)
    all-run false w =
        let i = w keeps in
        let x = some-item t Says answers a b q up false i.0 i.2 in
        (a + i.0, omega arith, x.0, x.1)

    any-run : (r : Bool) → MatchBool r (AnyItemGives q g f true) (IsTrue q.whole × AllItemsGive q g f false) → Tells (λ k. not (t k)) a b (not r)
    unfolding Says
    any-run true w =
        let i = w keeps in
        let x = some-item t Says answers a b q up true i.0 i.2 in
        (a + i.0, omega arith, x.0, ap not x.1)
    any-run false w = λ k lo hi. ap not (each-item t Says answers a b q up false w.0 (w.1 keeps) k lo hi)

  -- `(a..b).all(f)`
  pub all-range : (a b : ℕ) (s : Range ℕ) (r : Bool) → s.start ≡ a → s.end ≡ b
      → SomeRun nat_range_steps s (λ q. MatchBool r (IsTrue q.whole × AllItemsGive q g f true) (AnyItemGives q g f false)) → Tells t a b r
  all-range a b s r low high w = all-run a b w.0 (range-counts a b s low high w.0 w.1) r w.2

  -- `(a..b).any(f)`: t fails of each, or not
  pub any-range : (a b : ℕ) (s : Range ℕ) (r : Bool) → s.start ≡ a → s.end ≡ b
      → SomeRun nat_range_steps s (λ q. MatchBool r (AnyItemGives q g f true) (IsTrue q.whole × AllItemsGive q g f false)) → Tells (λ k. not (t k)) a b (not r)
  any-range a b s r low high w = any-run a b w.0 (range-counts a b s low high w.0 w.1) r w.2

  -- `(1..n + 1).all(f)`
  pub all-first : (n : ℕ) (s : Range ℕ) (r : Bool) → s.start ≡ 1 → s.end ≡ n + 1
      → SomeRun nat_range_steps s (λ q. MatchBool r (IsTrue q.whole × AllItemsGive q g f true) (AnyItemGives q g f false)) → r ≡ all t (up_to n)
  all-first n s r low high w = tells_up_to t n r (all-range 1 (n + 1) s r low high w)

  -- `(1..n + 1).any(f)`
  pub any-first : (n : ℕ) (s : Range ℕ) (r : Bool) → s.start ≡ 1 → s.end ≡ n + 1
      → SomeRun nat_range_steps s (λ q. MatchBool r (AnyItemGives q g f true) (IsTrue q.whole × AllItemsGive q g f false)) → r ≡ any t (up_to n)
  any-first n s r low high w =
      sym (not-not r) ∙ ap not (tells_up_to (λ k. not (t k)) n (not r) (any-range 1 (n + 1) s r low high w)) ∙ sym (any-all t (up_to n))

  -- `(1..=n).all(f)`
  pub all-to : (n : ℕ) (s : RangeInclusive ℕ) (r : Bool) → range_inclusive_start s ≡ 1 → range_inclusive_end s ≡ n → range_inclusive_exhausted s ≡ false
      → SomeRun nat_range_inclusive_steps s (λ q. MatchBool r (IsTrue q.whole × AllItemsGive q g f true) (AnyItemGives q g f false)) → r ≡ all t (up_to n)
  all-to n s r low high more w = tells_up_to t n r (all-run 1 (n + 1) w.0 (inclusive-counts 1 n s low high more w.0 w.1) r w.2)

  -- `(1..=n).any(f)`
  pub any-to : (n : ℕ) (s : RangeInclusive ℕ) (r : Bool) → range_inclusive_start s ≡ 1 → range_inclusive_end s ≡ n → range_inclusive_exhausted s ≡ false
      → SomeRun nat_range_inclusive_steps s (λ q. MatchBool r (AnyItemGives q g f true) (IsTrue q.whole × AllItemsGive q g f false)) → r ≡ any t (up_to n)
  any-to n s r low high more w =
      sym (not-not r)
      ∙ ap not (tells_up_to (λ k. not (t k)) n (not r) (any-run 1 (n + 1) w.0 (inclusive-counts 1 n s low high more w.0 w.1) r w.2))
      ∙ sym (any-all t (up_to n))
