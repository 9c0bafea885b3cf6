-- Late events: document 01, "Watches and lateness" ("Each gap strictly longer than the limit gives one event: cause 1, stamp gap start +
-- limit, id the PID (for a PMT the programme number)"). p is the latest accepted time before the call, t the call's time.
--
--   Row              == a watch as lateness sees it: its limits, the lowest first, the fault and the id of its events, the start of its gap
--   late_events ls f i p t s == the events of a watch with the limits ls, the fault f and the id i, whose gap began at s
--   row_late p t w    == those of a row, one for each limit that falls due
--   rows_late p t ws  == those of rows one after the other
--   table_row, entry_row == the row of a fixed table; of a listed programme
--   table_rows rs ss  == the rows of fixed tables in the table's order, each with the start of its gap
--   entry_rows es     == those of listed programmes in list order
use Rattle.std.specs.Prelude.{ℕ, List, [], ◌∷◌, ◌++◌, map}
use Rattle.lateness.specs.Gaps.{due}
use Rattle.events.specs.declared.Event.{Event}
use Rattle.events.specs.Faults.{late}
use Rattle.events.specs.Events.{event_at}
use Rattle.watches.specs.declared.Entry.{Entry}
use Rattle.watches.specs.declared.Table.{Table}
use Rattle.watches.specs.Tables.{pmt_table}

pub record Row : Type 0 where
  pub limits : List ℕ
  pub fault : ℕ
  pub id : ℕ
  pub since : ℕ

abbrev pub late_events : List ℕ → ℕ → ℕ → ℕ → ℕ → ℕ → List Event
late_events ls f i p t s = map (λ x. event_at x f late i) (due ls s p t)

abbrev pub row_late : ℕ → ℕ → Row → List Event
row_late p t w = late_events w.limits w.fault w.id p t w.since

unfoldable pub rows_late : ℕ → ℕ → List Row → List Event
rows_late p t [] = []
rows_late p t (w ∷ ws) = row_late p t w ++ rows_late p t ws

abbrev pub table_row : Table → ℕ → Row
table_row r s = record { limits = r.limits; fault = r.fault; id = r.pid; since = s }

abbrev pub entry_row : Entry → Row
entry_row e = record { limits = pmt_table.limits; fault = pmt_table.fault; id = e.number; since = e.since }

unfoldable pub table_rows : List Table → List ℕ → List Row
table_rows [] ss = []
table_rows (r ∷ rs) [] = []
table_rows (r ∷ rs) (s ∷ ss) = table_row r s ∷ table_rows rs ss

abbrev pub entry_rows : List Entry → List Row
entry_rows es = map entry_row es
