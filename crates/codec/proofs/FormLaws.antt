-- The laws that each stored form keeps. Assumes nothing.
use Prim.Native.Nat.{ℕ}
use mathlib.Core.Path.{◌≡◌, sym, ap, subst, ◌∙◌}
use mathlib.Core.Bool.{Bool, true, and-eq-true_iff}
use mathlib.Core.List.{List}
use Rattle.codec.specs.Bytes.{Block}
use Rattle.codec.specs.Form.{Form, mapped, renamed, guarded}

-- the laws of a form: values that are ok and bytes that are valid correspond one to one
pub record Lawful {A : Type 0} {n : ℕ} (F : Form A n) : Type 0 where
  pub stored : (a : A) → F.ok a → Block n (F.encode a)
  pub accepts : (a : A) → F.ok a → F.valid (F.encode a) ≡ true
  pub back : (a : A) → F.ok a → F.decode (F.encode a) ≡ a
  pub sound : (b : List ℕ) → Block n b → F.valid b ≡ true → F.ok (F.decode b)
  pub forth : (b : List ℕ) → Block n b → F.valid b ≡ true → F.encode (F.decode b) ≡ b

module _ {A B : Type 0} {n : ℕ} where
  -- `to` and `from` undo one another in range
  pub record Inverse (F : Form A n) (to : A → B) (from : B → A) (ok : B → Type 0) : Type 0 where
    pub to-ok : (a : A) → F.ok a → ok (to a)
    pub from-ok : (x : B) → ok x → F.ok (from x)
    pub to-from : (x : B) → ok x → to (from x) ≡ x
    pub from-to : (a : A) → F.ok a → from (to a) ≡ a

  pub mapped-lawful : (F : Form A n) (to : A → B) (from : B → A) (ok : B → Type 0)
      → Lawful F → Inverse F to from ok → Lawful (mapped F to from ok)
  unfolding mapped
  mapped-lawful F to from ok L I =
      record {
        stored = λ x h. L.stored (from x) (I.from-ok x h);
        accepts = λ x h. L.accepts (from x) (I.from-ok x h);
        back = λ x h. ap to (L.back (from x) (I.from-ok x h)) ∙ I.to-from x h;
        sound = λ b k v. I.to-ok (F.decode b) (L.sound b k v);
        forth = λ b k v. ap F.encode (I.from-to (F.decode b) (L.sound b k v)) ∙ L.forth b k v;
      }

module _ {A B : Type 0} {n : ℕ} (F : Form A n) (to : A → B) (from : B → A) where
  module _ (same : (x : B) → to (from x) ≡ x) (again : (a : A) → from (to a) ≡ a) where
    pub renaming : Inverse F to from (λ x. F.ok (from x))
    renaming =
        record {
          to-ok = λ a h. subst F.ok (sym (again a)) h;
          from-ok = λ x h. h;
          to-from = λ x h. same x;
          from-to = λ a h. again a;
        }

    pub renamed-lawful : Lawful F → Lawful (renamed F to from)
    unfolding renamed
    renamed-lawful L = mapped-lawful F to from (λ x. F.ok (from x)) L renaming

module _ {A : Type 0} {n : ℕ} where
  pub guarded-lawful : (F : Form A n) (p : A → Bool) → Lawful F → Lawful (guarded F p)
  unfolding guarded
  guarded-lawful F p L =
      record {
        stored = λ a h. L.stored a h.0;
        accepts =
            λ a h. (and-eq-true_iff (F.valid (F.encode a)) (p (F.decode (F.encode a)))).1
            (L.accepts a h.0, ap p (L.back a h.0) ∙ h.1);
        back = λ a h. L.back a h.0;
        sound =
            λ b k v. let t = (and-eq-true_iff (F.valid b) (p (F.decode b))).0 v in
            (L.sound b k t.0, t.1);
        forth = λ b k v. L.forth b k ((and-eq-true_iff (F.valid b) (p (F.decode b))).0 v).0;
      }
