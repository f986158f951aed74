-- The number of a kind, and what is past the last one's. Assumes nothing.
use Rattle.std.proofs.Common.{◌≡◌, ℕ, zero, suc, ◌<◌, arith}
use mathlib.Core.Path.{refl, sym, ap}
use Rattle.model.specs.Kinds.{no_kind, kinds, last_kind, kind_of}
use Rattle.model.proofs.KindLaws.{past-last}
use Rattle.model.proofs.kinds.KindTryFromU32.try_from.Goals as goal

pub returns-in-1 : goal.returns-in-1
unfolding kind_of kinds
returns-in-1 c = (ap kind_of c.in-1.is, sym c.in-1.is)

pub returns-in-2 : goal.returns-in-2
unfolding kind_of kinds
returns-in-2 c = (ap kind_of c.in-2.is, sym c.in-2.is)

pub returns-in-3 : goal.returns-in-3
unfolding kind_of kinds
returns-in-3 c = (ap kind_of c.in-3.is, sym c.in-3.is)

pub returns-in-4 : goal.returns-in-4
unfolding kind_of kinds
returns-in-4 c = (ap kind_of c.in-4.is, sym c.in-4.is)

pub returns-in-5 : goal.returns-in-5
unfolding kind_of kinds
returns-in-5 c = (ap kind_of c.in-5.is, sym c.in-5.is)

pub returns-in-6 : goal.returns-in-6
unfolding kind_of kinds
returns-in-6 c = (ap kind_of c.in-6.is, sym c.in-6.is)

pub returns-in-7 : goal.returns-in-7
unfolding kind_of kinds
returns-in-7 c = (ap kind_of c.in-7.is, sym c.in-7.is)

pub returns-in-8 : goal.returns-in-8
unfolding kind_of kinds
returns-in-8 c = (ap kind_of c.in-8.is, sym c.in-8.is)

pub returns-in-9 : goal.returns-in-9
unfolding kind_of kinds
returns-in-9 c = (ap kind_of c.in-9.is, sym c.in-9.is)

pub returns-in-10 : goal.returns-in-10
unfolding kind_of kinds
returns-in-10 c = (ap kind_of c.in-10.is, sym c.in-10.is)

pub returns-in-11 : goal.returns-in-11
unfolding kind_of kinds
returns-in-11 c = (ap kind_of c.in-11.is, sym c.in-11.is)

pub returns-in_default : goal.returns-in_default
unfolding kind_of kinds last_kind
returns-in_default c = (no-kind c.args.k (λ h. omega arith), refl)
  where
    no-kind : (k : ℕ) → (0 < k → last_kind < k) → kind_of k ≡ no_kind
    no-kind zero h = refl
    no-kind (suc k) h = past-last (suc k) (h (omega arith))
