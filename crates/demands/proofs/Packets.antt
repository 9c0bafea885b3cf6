-- A packet's own events are no late events: cause 1 is given by lateness alone. Assumes nothing.
use mathlib.Core.Path.{◌≡◌, refl}
use mathlib.Core.Bool.{false}
use mathlib.Core.List.{List, [], ◌∷◌}
use Prim.Native.Nat.{ℕ}
use lib.Dec.{eqb}
use Rattle.events.specs.declared.Event.{Event}
use Rattle.events.specs.Faults as fault
use Rattle.calls.specs.Cores.{Held}
use Rattle.calls.specs.Steps.{step1}
use Rattle.calls.proofs.Own.{Given, Each, packet_own}
use Rattle.demands.proofs.Late.{stamps_of}

-- no event of the list has cause 1
abbrev pub NoneLate : List Event → Type 0
NoneLate [] = Unit
NoneLate (e ∷ es) = (eqb e.cause fault.late ≡ false) × NoneLate es

pub none_stamps : (f i : ℕ) (es : List Event) → NoneLate es → stamps_of f i es ≡ []
unfolding stamps_of
none_stamps f i [] a = refl
none_stamps f i (e ∷ es) a = rw a.0 (none_stamps f i es a.1)

each_none : (t : ℕ) (p : List ℕ) (es : List Event) → Each (Given t p) es → NoneLate es
each_none t p [] o = tt
each_none t p (e ∷ es) o = (o.0.not_late, each_none t p es o.1)

pub packet_none_late : (t : ℕ) (p counters : List ℕ) (h : Held) → NoneLate (step1 t p counters h).events
packet_none_late t p counters h = each_none t p (step1 t p counters h).events (packet_own t p counters h).each
