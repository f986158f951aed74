-- No call of a settle forms a view: the formed views and their members stay, and so does the greatest view.
-- Assumes nothing.
use Prim.Native.Nat.{ℕ}
use mathlib.Core.Path.{◌≡◌, refl, sym, ◌∙◌, subst}
use mathlib.Core.Logic.{⊎_elim}
use mathlib.Core.Bool.{true, false≢true}
use Rattle.base.specs.Lists.{has}
use Rattle.model.specs.Hall.{Hall}
use Rattle.model.specs.Service.{newview, gpsnd, vs_order, gprcv, safe}
use Rattle.model.specs.Refusals.{Rules}
use Rattle.model.specs.Kinds.{Kind, submit, label, send_entry, send_summary, form, enter, place, receive, notice, confirm, deliver}
use Rattle.model.specs.Actions.{Outcome, do_submit, do_label, do_send_entry, do_send_summary, do_form, do_enter, do_place, do_receive, do_notice, do_confirm, do_deliver, perform}
use Rattle.model.specs.Call.{step}
use Rattle.model.specs.Settle.{greatest_view, settle_kinds, settle_call}
use Rattle.model.proofs.Accepting.Performed.{number_of}
use Rattle.model.proofs.Accepting.Accepted.{performed-or-refused}

-- the formed views and their members are the same
pub record SameViews (h h' : Hall) : Type 0 where
  pub created : h'.service.created ≡ h.service.created
  pub members : h'.service.members ≡ h.service.members

pub same-views : (h h' h'' : Hall) → SameViews h h' → SameViews h' h'' → SameViews h h''
same-views h h' h'' s t = record { created = t.created ∙ s.created; members = t.members ∙ s.members }

-- the greatest view is the same
pub same-greatest : (h h' : Hall) → SameViews h h' → greatest_view h' ≡ greatest_view h
unfolding greatest_view
same-greatest h h' s = rw s.created

pub performed-views : (rules : Rules) (h : Hall) (κ : Kind) (r a b : ℕ) → has settle_kinds (number_of κ) ≡ true → SameViews h (perform rules h κ r a b).hall
unfolding perform do_submit do_label do_send_entry do_send_summary do_form do_enter do_place do_receive do_notice do_confirm do_deliver newview gpsnd vs_order gprcv safe has settle_kinds number_of
performed-views rules h submit r a b t = record { created = refl; members = refl }
performed-views rules h label r a b t = record { created = refl; members = refl }
performed-views rules h send_entry r a b t = record { created = refl; members = refl }
performed-views rules h send_summary r a b t = record { created = refl; members = refl }
performed-views rules h form r a b t = absurd (false≢true t)
performed-views rules h enter r a b t = record { created = refl; members = refl }
performed-views rules h place r a b t = record { created = refl; members = refl }
performed-views rules h receive r a b t = record { created = refl; members = refl }
performed-views rules h notice r a b t = record { created = refl; members = refl }
performed-views rules h confirm r a b t = record { created = refl; members = refl }
performed-views rules h deliver r a b t = record { created = refl; members = refl }

-- a call of a settle, taken or refused
pub settle-views : (rules : Rules) (h : Hall) (g k r : ℕ) → has settle_kinds k ≡ true → SameViews h (step rules h (settle_call g k r)).hall
unfolding settle_call
settle-views rules h g k r t =
    let w = settle_call g k r in
    ⊎_elim
    (λ p.
    subst (λ (o : Outcome). SameViews h o.hall) (sym p.outcome)
    (performed-views rules h p.what r w.a 0 (subst (λ n. has settle_kinds n ≡ true) p.is_kind t)))
    (λ p. subst (λ (o : Outcome). SameViews h o.hall) (sym p.outcome) (record { created = refl; members = refl }))
    (performed-or-refused rules h w)
