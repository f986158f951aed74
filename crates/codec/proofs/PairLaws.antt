-- Laws of specs/Pair. Assumes nothing.
use Prim.Native.Nat.{ℕ}
use mathlib.Core.Path.{◌≡◌, ap₂, ◌∙◌}
use mathlib.Core.Bool.{true, ◌&&◌, and-eq-true_iff}
use mathlib.Core.List.{List, ◌++◌}
use lib.ListN.{take, drop, take-append-drop}
use lib.Seq.{take_at, drop_at}
use Rattle.codec.proofs.BytesLaws.{block-append, block-take, block-drop}
use Rattle.codec.specs.Form.{Form}
use Rattle.codec.proofs.FormLaws.{Lawful}
use Rattle.codec.specs.Pair.{given, pair}

module _ {A B : Type 0} {m n : ℕ} where
  pub given-lawful : (H : Form A m) (G : A → Form B n) → Lawful H → ((a : A) → H.ok a → Lawful (G a)) → Lawful (given H G)
  unfolding given
  given-lawful H G K L =
      record {
        stored = λ p h. block-append (K.stored p.0 h.0) ((L p.0 h.0).stored p.1 h.1);
        accepts =
            λ p h. rw (front p h, rear p h)
            ((and-eq-true_iff (H.valid (H.encode p.0)) ((G (H.decode (H.encode p.0))).valid ((G p.0).encode p.1))).1
            (K.accepts p.0 h.0, rw (K.back p.0 h.0) ((L p.0 h.0).accepts p.1 h.1)));
        back =
            λ p h. rw (front p h, rear p h, K.back p.0 h.0)
            (λ i. (p.0, (L p.0 h.0).back p.1 h.1 i));
        sound =
            λ b k v.
            let t = split b v in
            let a = K.sound (take m b) (block-take m n k) t.0 in
            (a, (L (H.decode (take m b)) a).sound (drop m b) (block-drop m n k) t.1);
        forth =
            λ b k v.
            let t = split b v in
            let a = K.sound (take m b) (block-take m n k) t.0 in
            ap₂ ◌++◌ (K.forth (take m b) (block-take m n k) t.0)
            ((L (H.decode (take m b)) a).forth (drop m b) (block-drop m n k) t.1)
            ∙ take-append-drop m b;
      }
    where
      front : (p : A × B) → H.ok p.0 × (G p.0).ok p.1 → take m (H.encode p.0 ++ (G p.0).encode p.1) ≡ H.encode p.0
      front p h = take_at (H.encode p.0) ((G p.0).encode p.1) m (K.stored p.0 h.0).len

      rear : (p : A × B) → H.ok p.0 × (G p.0).ok p.1 → drop m (H.encode p.0 ++ (G p.0).encode p.1) ≡ (G p.0).encode p.1
      rear p h = drop_at (H.encode p.0) ((G p.0).encode p.1) m (K.stored p.0 h.0).len

      split : (b : List ℕ) → H.valid (take m b) && (G (H.decode (take m b))).valid (drop m b) ≡ true
          → (H.valid (take m b) ≡ true) × ((G (H.decode (take m b))).valid (drop m b) ≡ true)
      split b v = (and-eq-true_iff (H.valid (take m b)) ((G (H.decode (take m b))).valid (drop m b))).0 v

  pub pair-lawful : (H : Form A m) (G : Form B n) → Lawful H → Lawful G → Lawful (pair H G)
  pair-lawful H G K L = given-lawful H (λ a. G) K (λ a h. L)
