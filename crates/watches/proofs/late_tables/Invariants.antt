use mathlib.Core.Path.{◌≡◌}
use Prim.Native.Nat.{◌+◌}
use lib.ListN.{length, take}
use Rattle.events.specs.Events.{events_laid}
use Rattle.watches.specs.Tables.{fixed_tables}
use Rattle.watches.specs.Late.{table_rows, rows_late}
use Rattle.watches.proofs.late_tables.Given as goal

abbrev pub invariant-loop-k : goal.invariant-loop-k
invariant-loop-k l =
    (l.m ≡ l.n + length (rows_late l.p l.t (take l.k (table_rows fixed_tables l.since))))
    × (l.list ≡ events_laid l.initial.list l.n (rows_late l.p l.t (take l.k (table_rows fixed_tables l.since))))
