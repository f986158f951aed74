-- A reached hall has at most 64 entries and at most 8 recorders, and the members of its views are among them.
-- Assumes nothing.
use Prim.Native.Nat.{ℕ, ◌≤◌}
use native.Mathlib.Omega.{arith}
use mathlib.Core.Path.{◌≡◌}
use mathlib.Core.Bool.{true}
use mathlib.Core.List.{List, []}
use Rattle.base.specs.Lists.{has}
use Rattle.base.proofs.ListsLaws.{has-none}
use Rattle.base.proofs.UpdateLaws.{upd-at}
use Rattle.quorum.specs.Sets.{members}
use Rattle.quorum.proofs.SetLaws.{members-range}
use Rattle.model.specs.Hall.{max_entries, max_recorders, Hall}
use Rattle.model.specs.Service.{createview, newview, gpsnd, vs_order, gprcv, safe}
use Rattle.model.specs.Ordering.{label_entry}
use Rattle.model.specs.Refusals.{Rules}
use Rattle.model.specs.Actions.{do_submit, do_form}
use Rattle.model.specs.Opening.{Opening, open_refusal, open_hall, open_service, no_entries, opened, founder_mask, founder_set}
use Rattle.model.proofs.Accepting.Moves.{Move, submits, labels, sends_entry, sends_summary, forms, enters, places, receives, receives_primary, hears, hears_last, notices, notices_primary, notices_summary, notices_last, confirms, delivers}
use Rattle.store.proofs.KeepValid.{opening-in}

-- every member of every view is one of recorders 1 to n
abbrev MembersIn : ℕ → (ℕ → List ℕ) → Type 0
MembersIn n S = (g p : ℕ) → has (S g) p ≡ true → (1 ≤ p) × (p ≤ n)

pub record Sizes (count n : ℕ) (S : ℕ → List ℕ) : Type 0 where
  pub entries : count ≤ max_entries
  pub size : n ≤ max_recorders
  pub inside : MembersIn n S

abbrev pub SizesOf : Hall → Type 0
SizesOf h = Sizes h.entries.count h.size h.service.members

founders-in : (o : Opening) (p : ℕ) → has (founder_set o) p ≡ true → (1 ≤ p) × (p ≤ o.size)
unfolding founder_set
founders-in o = members-range o.size (founder_mask o.founders)

pub sizes-opened : (o : Opening) → open_refusal o ≡ 0 → SizesOf (opened o)
unfolding opened open_hall open_service no_entries
sizes-opened o taken =
    record {
      entries = omega arith;
      size = (opening-in o taken).0.1;
      inside = upd-at (λ g ms. (p : ℕ) → has ms p ≡ true → (1 ≤ p) × (p ≤ o.size)) (λ g. []) 1 (founder_set o) (founders-in o)
          (λ g ne p m. absurd (has-none p m));
    }

pub sizes-keep : (rules : Rules) (h h' : Hall) → Move rules h h' → SizesOf h → SizesOf h'
unfolding do_submit do_form createview newview gpsnd vs_order gprcv safe label_entry
sizes-keep rules h _ (submits r a x y room) s = record { entries = omega (arith, room); size = s.size; inside = s.inside }
sizes-keep rules h _ (labels r e c) s = s
sizes-keep rules h _ (sends_entry r e c) s = s
sizes-keep rules h _ (sends_summary r c) s = s
sizes-keep rules h _ (forms a b c) s =
    record {
      entries = s.entries;
      size = s.size;
      inside = upd-at (λ g ms. (p : ℕ) → has ms p ≡ true → (1 ≤ p) × (p ≤ h.size)) h.service.members a (members h.size b)
          (members-range h.size b) (λ g ne. s.inside g);
    }
sizes-keep rules h _ (enters r a c) s = s
sizes-keep rules h _ (places r a m c) s = s
sizes-keep rules h _ (receives r q e c t) s = s
sizes-keep rules h _ (receives_primary r q e c t) s = s
sizes-keep rules h _ (hears r q c t) s = s
sizes-keep rules h _ (hears_last r q c t) s = s
sizes-keep rules h _ (notices r q e c t) s = s
sizes-keep rules h _ (notices_primary r q e c t) s = s
sizes-keep rules h _ (notices_summary r q c t) s = s
sizes-keep rules h _ (notices_last r q c t p) s = s
sizes-keep rules h _ (confirms r c) s = s
sizes-keep rules h _ (delivers r c) s = s
