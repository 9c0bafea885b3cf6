use mathlib.Core.Path.{◌≡◌}
use Prim.Native.Nat.{◌+◌}
use lib.ListN.{length, take}
use Rattle.events.specs.Events.{events_laid}
use Rattle.watches.specs.Late.{late_events}
use Rattle.watches.proofs.late_row.Given as goal

abbrev pub invariant-loop-limit : goal.invariant-loop-limit
invariant-loop-limit l =
    (l.m ≡ l.n + length (late_events (take l.limit-index l.limits) l.fault l.id l.p l.t l.since))
    × (l.list ≡ events_laid l.initial.list l.n (late_events (take l.limit-index l.limits) l.fault l.id l.p l.t l.since))
