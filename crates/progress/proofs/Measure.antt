-- How far a hall is from settled in view g: what the kinds 6, 4, 3, 2, 7, 8 and 9 may still do (`work`), and what 10 and 11 may
-- (`reports`). An action of the first group takes exactly 1 from the one, 10 and 11 take 1 from the other.
-- Assumes nothing.
use Prim.Native.Nat.{ℕ, ◌+◌, ◌-◌, ◌*◌, ◌≤◌, ◌<◌}
use native.Mathlib.Omega.{arith}
use mathlib.Core.Path.{◌≡◌, refl, sym, ap, ◌∙◌, subst}
use mathlib.Core.Bool.{true, not}
use mathlib.Core.List.{List, [], ◌∷◌, ◌++◌}
use lib.Dec.{eqb}
use lib.ListN.{length, length-append}
use borrow.Author.Tests.{eq-eqb, ne_eqb}
use Rattle.base.specs.Lists.{has, rising, bit}
use Rattle.base.specs.Numbers.{up_to}
use Rattle.base.specs.Update.{upd, upd₂}
use Rattle.base.proofs.UpdateLaws.{upd_same, upd_other, upd₂-same, upd₂-other}
use Rattle.base.proofs.NumbersLaws.{has-up_to, rising-up_to}
use Rattle.model.specs.Hall.{max_pending, max_queue, max_order, Entries, Message, Service, Recorders}
use Rattle.model.specs.Service.{newview, gpsnd, vs_order, gprcv, safe}
use Rattle.model.specs.Ordering.{is_labelled, numbers, label_entry, confirmed, reported}
use Rattle.model.proofs.ServiceLaws.{order-pending}
use Rattle.progress.proofs.Sums.{sum, sum-falls}

-- an entry without a label
abbrev pub bare : Entries → ℕ → ℕ
bare es e = bit (not (is_labelled es e))

module _ (g : ℕ) where
  -- what is left to a member: to enter, to send, to receive, to take notice
  abbrev pub left : Service → ℕ → ℕ
  left v r =
      bit (not (eqb (v.current r) g))
      + (max_pending - length (v.pending r g))
      + (max_queue + 1 - v.next r g)
      + (max_queue + 1 - v.next_safe r g)

  unfoldable pub work : List ℕ → Entries → Service → ℕ
  work ms es v = sum (bare es) (numbers es) + sum (left v) ms + 2 * (max_queue - length (v.queue g))

  module _ (ms : List ℕ) (rises : rising 0 ms ≡ true) (es : Entries) (v : Service) (r : ℕ) (member : has ms r ≡ true) where
    -- a service in which r has 1 less left
    less : (v' : Service) → v'.queue g ≡ v.queue g → left v r ≡ left v' r + 1 → ((q : ℕ) → (q ≡ r → ⊥) → left v q ≡ left v' q)
        → work ms es v ≡ work ms es v' + 1
    unfolding work
    less v' same here other = omega (arith, sum-falls (left v) (left v') r 0 ms rises member here other, ap length same)

    -- 6
    pub enter-work : (v.current r ≡ g → ⊥) → work ms es v ≡ work ms es (newview r g v) + 1
    unfolding newview
    enter-work ne =
        let was : bit (not (eqb (v.current r) g)) ≡ 1 = rw (ne_eqb (v.current r) g ne) in
        let is : bit (not (eqb (upd v.current r g r) g)) ≡ 0 = rw (upd_same v.current r g, eq-eqb g g refl) in
        less (newview r g v) refl (omega arith)
        (λ q n. let s = ap (λ c. bit (not (eqb c g))) (upd_other v.current r g q n) in omega arith)

    -- 3, 4
    pub send-work : (m : Message) → v.current r ≡ g → length (v.pending r g) < max_pending → work ms es v ≡ work ms es (gpsnd r m v) + 1
    unfolding gpsnd
    send-work m here room =
        let now : (gpsnd r m v).pending r g ≡ v.pending r g ++ (m ∷ []) =
        subst (λ c. upd₂ v.pending r c (v.pending r c ++ (m ∷ [])) r g ≡ v.pending r g ++ (m ∷ [])) (sym here) (upd₂-same v.pending r g _) in
        let n : length ((gpsnd r m v).pending r g) ≡ length (v.pending r g) + 1 = ap length now ∙ length-append (v.pending r g) (m ∷ []) in
        less (gpsnd r m v) refl (omega arith)
        (λ q ne.
        let s : length ((gpsnd r m v).pending q g) ≡ length (v.pending q g) = ap length (upd₂-other v.pending r (v.current r) _ q g (λ e f. ne e)) in
        omega arith)

    -- 8
    pub receive-work : v.current r ≡ g → v.next r g ≤ max_queue → work ms es v ≡ work ms es (gprcv r v) + 1
    unfolding gprcv
    receive-work here room =
        let now : (gprcv r v).next r g ≡ v.next r g + 1 =
        subst (λ c. upd₂ v.next r c (v.next r c + 1) r g ≡ v.next r g + 1) (sym here) (upd₂-same v.next r g _) in
        less (gprcv r v) refl (omega arith)
        (λ q ne.
        let s : (gprcv r v).next q g ≡ v.next q g = upd₂-other v.next r (v.current r) _ q g (λ e f. ne e) in
        omega arith)

    -- 9
    pub notice-work : v.current r ≡ g → v.next_safe r g ≤ max_queue → work ms es v ≡ work ms es (safe r v) + 1
    unfolding safe
    notice-work here room =
        let now : (safe r v).next_safe r g ≡ v.next_safe r g + 1 =
        subst (λ c. upd₂ v.next_safe r c (v.next_safe r c + 1) r g ≡ v.next_safe r g + 1) (sym here) (upd₂-same v.next_safe r g _) in
        less (safe r v) refl (omega arith)
        (λ q ne.
        let s : (safe r v).next_safe q g ≡ v.next_safe q g = upd₂-other v.next_safe r (v.current r) _ q g (λ e f. ne e) in
        omega arith)

    -- 7
    pub place-work : (m : Message) (others : List Message) → v.pending r g ≡ m ∷ others → length (v.pending r g) ≤ max_pending
        → length (v.queue g) < max_queue → work ms es v ≡ work ms es (vs_order r g v) + 1
    unfolding work vs_order
    place-work m others head most room =
        let now : (vs_order r g v).pending r g ≡ others = ap (λ f. f r g) (order-pending v r g m others head) ∙ upd₂-same v.pending r g others in
        let n : length (v.pending r g) ≡ length ((vs_order r g v).pending r g) + 1 = omega (arith, ap length head, ap length now) in
        let rose : sum (left (vs_order r g v)) ms ≡ sum (left v) ms + 1 =
        sum-falls (left (vs_order r g v)) (left v) r 0 ms rises member (omega arith)
        (λ q ne.
        let s : length ((vs_order r g v).pending q g) ≡ length (v.pending q g) = ap length (upd₂-other v.pending r g _ q g (λ e f. ne e)) in
        omega arith) in
        let long : length ((vs_order r g v).queue g) ≡ length (v.queue g) + 1 =
        ap length (upd_same v.queue g _) ∙ length-append (v.queue g) _ in
        omega arith

  -- 2
  pub label-work : (ms : List ℕ) (es : Entries) (v : Service) (e k n : ℕ) → 1 ≤ e → e ≤ es.count → es.label_seq e ≡ 0 → 1 ≤ n
      → work ms es v ≡ work ms (label_entry e k n es) v + 1
  unfolding work label_entry numbers is_labelled
  label-work ms es v e k n low high was new =
      let before : bare es e ≡ 1 = rw (eq-eqb (es.label_seq e) 0 was) in
      let after : bare (label_entry e k n es) e ≡ 0 = rw (upd_same es.label_seq e n, ne_eqb n 0 (λ z. omega arith)) in
      omega (
        arith,
        sum-falls (bare es) (bare (label_entry e k n es)) e 0 (up_to es.count) (rising-up_to es.count) (has-up_to es.count e low high) (omega arith)
            (λ d ne. ap (λ z. bit (not (not (eqb z 0)))) (sym (upd_other es.label_seq e n d ne))),
      )

-- ## Confirming and delivering

abbrev pub unreported : Recorders → ℕ → ℕ
unreported s r = (max_order + 1 - s.confirm r) + (max_order + 1 - s.report r)

unfoldable pub reports : List ℕ → Recorders → ℕ
reports ms s = sum (unreported s) ms

module _ (ms : List ℕ) (rises : rising 0 ms ≡ true) (s : Recorders) (r : ℕ) (member : has ms r ≡ true) where
  -- 10
  pub confirm-reports : s.confirm r ≤ max_order → reports ms s ≡ reports ms (confirmed r s) + 1
  unfolding reports confirmed
  confirm-reports room =
      sum-falls (unreported s) (unreported (confirmed r s)) r 0 ms rises member (omega (arith, upd_same s.confirm r (s.confirm r + 1)))
      (λ q ne. omega (arith, upd_other s.confirm r (s.confirm r + 1) q ne))

  -- 11
  pub deliver-reports : s.report r ≤ max_order → reports ms s ≡ reports ms (reported r s) + 1
  unfolding reports reported
  deliver-reports room =
      sum-falls (unreported s) (unreported (reported r s)) r 0 ms rises member (omega (arith, upd_same s.report r (s.report r + 1)))
      (λ q ne. omega (arith, upd_other s.report r (s.report r + 1) q ne))
