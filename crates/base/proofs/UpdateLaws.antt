-- Laws of functions changed at one place.
-- Assumes nothing.
use Prim.Native.Nat.{ℕ}
use mathlib.Core.Path.{◌≡◌, refl, sym, ap, ◌∙◌, subst, fun_ext}
use mathlib.Core.Logic.{◌⊎◌, inl, inr, ⊎_elim}
use mathlib.Core.Bool.{Bool, true, false}
use lib.Dec.{eqb}
use borrow.Author.Tests.{eqb-true, eqb-false, eq-eqb, ne_eqb}
use Rattle.base.specs.Update.{upd, upd₂}

-- two numbers are the same or not
pub same? : (q p : ℕ) → (q ≡ p) ⊎ (q ≡ p → ⊥)
same? q p = go (eqb q p) refl
  where
    go : (b : Bool) → eqb q p ≡ b → (q ≡ p) ⊎ (q ≡ p → ⊥)
    go true t = inl (eqb-true q p t)
    go false t = inr (eqb-false q p t)

-- what holds at p and everywhere else holds everywhere
pub at_place : (P : ℕ → Type 0) (p : ℕ) → P p → ((q : ℕ) → (q ≡ p → ⊥) → P q) → (q : ℕ) → P q
at_place P p here other q = ⊎_elim (λ e. subst P (sym e) here) (other q) (same? q p)

pub at-place₂ :
    (P : ℕ → ℕ → Type 0) (p g : ℕ) → P p g → ((q v : ℕ) → ((q ≡ p) → (v ≡ g) → ⊥) → P q v) → (q v : ℕ) → P q v
at-place₂ P p g here other q v =
    at_place (λ q. (v : ℕ) → P q v) p
    (at_place (P p) g here (λ v ne. other p v (λ e e'. ne e')))
    (λ q ne v. other q v (λ e e'. ne e)) q v

pub upd_same : {A : Type 0} (f : ℕ → A) (p : ℕ) (x : A) → upd f p x p ≡ x
unfolding upd
upd_same f p x = rw (eq-eqb p p refl, upd)

pub upd_other : {A : Type 0} (f : ℕ → A) (p : ℕ) (x : A) (q : ℕ) → (q ≡ p → ⊥) → upd f p x q ≡ f q
unfolding upd
upd_other f p x q ne = rw (ne_eqb q p ne, upd)

-- what holds of x at p and of f elsewhere holds of the changed function
pub upd-at : {A : Type 0} (P : ℕ → A → Type 0) (f : ℕ → A) (p : ℕ) (x : A)
    → P p x → ((q : ℕ) → (q ≡ p → ⊥) → P q (f q)) → (q : ℕ) → P q (upd f p x q)
upd-at P f p x here other =
    at_place (λ q. P q (upd f p x q)) p (rw (upd_same f p x) here) (λ q ne. rw (upd_other f p x q ne) (other q ne))

pub upd₂-same : {A : Type 0} (f : ℕ → ℕ → A) (p g : ℕ) (x : A) → upd₂ f p g x p g ≡ x
unfolding upd₂
upd₂-same f p g x = ap (λ k. k g) (upd_same f p (upd (f p) g x)) ∙ upd_same (f p) g x

pub upd₂-other : {A : Type 0} (f : ℕ → ℕ → A) (p g : ℕ) (x : A) (q v : ℕ) → ((q ≡ p) → (v ≡ g) → ⊥) → upd₂ f p g x q v ≡ f q v
unfolding upd₂
upd₂-other f p g x q v ne =
    ⊎_elim
    (λ e.
    subst (λ k. upd f p (upd (f p) g x) k v ≡ f k v) (sym e)
    (ap (λ k. k v) (upd_same f p (upd (f p) g x)) ∙ upd_other (f p) g x v (ne e)))
    (λ n. ap (λ k. k v) (upd_other f p (upd (f p) g x) q n))
    (same? q p)

pub upd₂-at : {A : Type 0} (P : ℕ → ℕ → A → Type 0) (f : ℕ → ℕ → A) (p g : ℕ) (x : A)
    → P p g x → ((q v : ℕ) → ((q ≡ p) → (v ≡ g) → ⊥) → P q v (f q v)) → (q v : ℕ) → P q v (upd₂ f p g x q v)
upd₂-at P f p g x here other =
    at-place₂ (λ q v. P q v (upd₂ f p g x q v)) p g
    (rw (upd₂-same f p g x) here)
    (λ q v ne. rw (upd₂-other f p g x q v ne) (other q v ne))

-- the same of three functions changed at one place, and of two
pub upd-at-three : {A B C : Type 0} (P : ℕ → A → B → C → Type 0) (f : ℕ → A) (g : ℕ → B) (k : ℕ → C) (p : ℕ) (x : A) (y : B) (z : C)
    → P p x y z → ((q : ℕ) → (q ≡ p → ⊥) → P q (f q) (g q) (k q)) → (q : ℕ) → P q (upd f p x q) (upd g p y q) (upd k p z q)
upd-at-three P f g k p x y z here other =
    at_place (λ q. P q (upd f p x q) (upd g p y q) (upd k p z q)) p
    (rw (upd_same f p x, upd_same g p y, upd_same k p z) here)
    (λ q ne. rw (upd_other f p x q ne, upd_other g p y q ne, upd_other k p z q ne) (other q ne))

pub upd-at-both : {A B : Type 0} (P : ℕ → A → B → Type 0) (f : ℕ → A) (g : ℕ → B) (p : ℕ) (x : A) (y : B)
    → P p x y → ((q : ℕ) → (q ≡ p → ⊥) → P q (f q) (g q)) → (q : ℕ) → P q (upd f p x q) (upd g p y q)
upd-at-both P f g p x y = upd-at-three (λ q a b c. P q a b) f g f p x y x

-- a function that differs from f only at p is f changed there
pub upd-ext : {A : Type 0} (f k : ℕ → A) (p : ℕ) (x : A) → k p ≡ x → ((q : ℕ) → (q ≡ p → ⊥) → k q ≡ f q) → k ≡ upd f p x
upd-ext f k p x here other = fun_ext (λ q. sym (upd-at (λ q y. y ≡ k q) f p x (sym here) (λ q ne. sym (other q ne)) q))

pub upd₂-ext : {A : Type 0} (f k : ℕ → ℕ → A) (p g : ℕ) (x : A) → k p g ≡ x
    → ((q v : ℕ) → ((q ≡ p) → (v ≡ g) → ⊥) → k q v ≡ f q v) → k ≡ upd₂ f p g x
upd₂-ext f k p g x here other =
    fun_ext (λ q. fun_ext (λ v.
    sym (upd₂-at (λ q v y. y ≡ k q v) f p g x (sym here) (λ q v ne. sym (other q v ne)) q v)))
