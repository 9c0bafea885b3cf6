use mathlib.Core.Path.{◌≡◌}
use Prim.Native.Nat.{ℕ, ◌+◌, ◌<◌}
use lib.ListN.{length, get_or, take}
use Rattle.events.specs.Events.{events_laid}
use Rattle.watches.specs.Tables.{no_entry}
use Rattle.watches.specs.Late.{entry_rows, rows_late}
use Rattle.arrays.specs.Lent.{count_in, entries_in, latest_at}
use Rattle.engine.proofs.lent.late_entries.Given as goal

abbrev pub invariant-loop-k : goal.invariant-loop-k
invariant-loop-k l =
    (l.count ≡ count_in l.words)
    × (l.m ≡ l.n + length (rows_late (get_or l.times latest_at 0) l.time (entry_rows (take l.k (entries_in l.times l.words)))))
    × (l.numbers ≡ events_laid l.initial.numbers l.n (rows_late (get_or l.times latest_at 0) l.time (entry_rows (take l.k (entries_in l.times l.words)))))
    × ((i : ℕ) → i < l.k → (get_or (entries_in l.times l.words) i no_entry).number < 65536)
