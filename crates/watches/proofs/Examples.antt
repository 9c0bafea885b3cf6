-- Worked examples of the board: what falls due of a watch with several limits, and of watches one after the other. Assumes nothing.
use mathlib.Core.Path.{◌≡◌, refl}
use mathlib.Core.List.{[], ◌∷◌, map}
use Prim.Native.Nat.{ℕ}
use Rattle.events.specs.Events.{event_at}
use Rattle.watches.specs.declared.Entry.{Entry}
use Rattle.watches.specs.declared.Table.{Table}
use Rattle.watches.specs.Tables.{pat_pid, nit_pid, sdt_pid, eit_pid, tdt_pid, fixed_tables, fixed_count, pmt_table, table_of, no_entry, latest_time}
use Rattle.watches.specs.Late.{Row, row_late, rows_late, table_rows, entry_row, entry_rows}

-- three limits, a gap from 5 on: stamps 15, 25 and 35
abbrev graded : Row
graded = record { limits = 10 ∷ 20 ∷ 30 ∷ []; fault = 7; id = 8; since = 5 }

abbrev programme : Entry
programme = record { number = 300; pid = 0x0100; since = 1 }

abbrev programme_since : ℕ → ℕ → Entry
programme_since n s = record { number = n; pid = 0x0100; since = s }

pub record Board : Type 0 where
  -- no event at the first stamp
  pub none_yet : row_late 5 15 graded ≡ []
  -- one when time goes past it: cause 1, stamp gap start + limit
  pub the_first : row_late 15 16 graded ≡ event_at 15 7 1 8 ∷ []
  -- the next limit when time goes past its own stamp
  pub the_next : row_late 16 35 graded ≡ event_at 25 7 1 8 ∷ []
  -- each limit that time goes past in one call, the lowest first
  pub all_at_once : row_late 5 36 graded ≡ event_at 15 7 1 8 ∷ event_at 25 7 1 8 ∷ event_at 35 7 1 8 ∷ []
  -- each once: none at later calls
  pub never_again : row_late 36 99 graded ≡ []
  -- watches one after the other, each in full
  pub row_by_row : rows_late 5 26 (graded ∷ entry_row programme ∷ graded ∷ []) ≡ event_at 15 7 1 8 ∷ event_at 25 7 1 8 ∷ event_at 15 7 1 8 ∷ event_at 25 7 1 8 ∷ []
  -- a fixed table's events have its PID as id, a programme's the programme number
  pub down_the_table : rows_late 0 810_000_001 (table_rows fixed_tables (0 ∷ 0 ∷ 0 ∷ 0 ∷ 0 ∷ []))
      ≡ event_at 13_500_000 0x0009 1 0x0000 ∷ event_at 270_000_000 0x0001 1 0x0010 ∷ event_at 54_000_000 0x0002 1 0x0011
      ∷ event_at 54_000_000 0x0004 1 0x0012 ∷ event_at 810_000_000 0x0008 1 0x0014 ∷ []
  -- a PAT gap of 13,500,000 is silent
  pub pat_in_time : rows_late 0 13_500_000 (table_rows fixed_tables (0 ∷ 0 ∷ 0 ∷ 0 ∷ 0 ∷ [])) ≡ []
  -- SDT and EIT gaps of 54,000,000 are silent
  pub others_in_time : rows_late 13_500_001 54_000_000 (table_rows fixed_tables (0 ∷ 0 ∷ 0 ∷ 0 ∷ 0 ∷ [])) ≡ []
  -- a NIT gap of 270,000,000 is silent
  pub nit_in_time : rows_late 54_000_001 270_000_000 (table_rows fixed_tables (0 ∷ 0 ∷ 0 ∷ 0 ∷ 0 ∷ [])) ≡ []
  -- a TDT gap of 810,000,000 is silent
  pub tdt_in_time : rows_late 270_000_001 810_000_000 (table_rows fixed_tables (0 ∷ 0 ∷ 0 ∷ 0 ∷ 0 ∷ [])) ≡ []
  -- the table_ids of the fixed tables, down the table
  pub table_ids : map (λ (r : Table). r.id) fixed_tables ≡ 0x00 ∷ 0x40 ∷ 0x42 ∷ 0x4E ∷ 0x70 ∷ []
  -- and past them 0x02, that of a PMT
  pub past_them : (table_of fixed_count).id ∷ (table_of 99).id ∷ [] ≡ 0x02 ∷ 0x02 ∷ []
  -- a programme's gap above 13,500,000: 0x000F cause 1, id the programme number
  pub a_programme : row_late 1 13_500_002 (entry_row programme) ≡ event_at 13_500_001 0x000F 1 300 ∷ []
  -- a programme's gap of 13,500,000 is silent
  pub not_at_its_stamp : row_late 1 13_500_001 (entry_row programme) ≡ []
  -- the first call whose time exceeds the stamp hands it over, the call before having been at the stamp
  pub first_past_the_stamp : row_late 13_500_001 13_500_002 (entry_row programme) ≡ event_at 13_500_001 0x000F 1 300 ∷ []
  -- and no later call does
  pub past_it_already : row_late 13_500_002 99_000_000 (entry_row programme) ≡ []
  -- each fixed table has a start of its own
  pub starts_of_their_own : rows_late 60_000_000 70_000_000 (table_rows fixed_tables (50_000_000 ∷ 0 ∷ 9_000_000 ∷ 3_000_000 ∷ 0 ∷ [])) ≡ event_at 63_500_000 0x0009 1 0x0000 ∷ event_at 63_000_000 0x0002 1 0x0011 ∷ []
  -- programmes in list order
  pub in_list_order : rows_late 0 13_500_008 (entry_rows (programme_since 2 7 ∷ programme_since 1 5 ∷ programme_since 3 8 ∷ [])) ≡ event_at 13_500_007 0x000F 1 2 ∷ event_at 13_500_005 0x000F 1 1 ∷ []

board : Board
unfolding rows_late table_rows
board =
    record {
      none_yet = refl;
      the_first = refl;
      the_next = refl;
      all_at_once = refl;
      never_again = refl;
      row_by_row = refl;
      down_the_table = refl;
      pat_in_time = refl;
      others_in_time = refl;
      nit_in_time = refl;
      tdt_in_time = refl;
      table_ids = refl;
      past_them = refl;
      a_programme = refl;
      not_at_its_stamp = refl;
      first_past_the_stamp = refl;
      past_it_already = refl;
      starts_of_their_own = refl;
      in_list_order = refl;
    }

-- THE TABLE as the paper has it, row by row
pub record Rows : Type 0 where
  -- the PIDs of the fixed watches: PAT, NIT, SDT, EIT, TDT
  pub pids : pat_pid ∷ nit_pid ∷ sdt_pid ∷ eit_pid ∷ tdt_pid ∷ [] ≡ 0x0000 ∷ 0x0010 ∷ 0x0011 ∷ 0x0012 ∷ 0x0014 ∷ []
  -- PAT: PID 0x0000, table_id 0x00, limit 13,500,000, fault 0x0009
  pub pat : table_of 0 ≡ record { pid = 0x0000; id = 0x00; limits = 13_500_000 ∷ []; fault = 0x0009 }
  -- NIT actual: PID 0x0010, table_id 0x40, limit 270,000,000, fault 0x0001
  pub nit_actual : table_of 1 ≡ record { pid = 0x0010; id = 0x40; limits = 270_000_000 ∷ []; fault = 0x0001 }
  -- SDT actual: PID 0x0011, table_id 0x42, limit 54,000,000, fault 0x0002
  pub sdt_actual : table_of 2 ≡ record { pid = 0x0011; id = 0x42; limits = 54_000_000 ∷ []; fault = 0x0002 }
  -- EIT p/f actual: PID 0x0012, table_id 0x4E, limit 54,000,000, fault 0x0004
  pub eit_actual : table_of 3 ≡ record { pid = 0x0012; id = 0x4E; limits = 54_000_000 ∷ []; fault = 0x0004 }
  -- TDT: PID 0x0014, table_id 0x70, limit 810,000,000, fault 0x0008
  pub tdt : table_of 4 ≡ record { pid = 0x0014; id = 0x70; limits = 810_000_000 ∷ []; fault = 0x0008 }
  -- each listed programme: table_id 0x02, limit 13,500,000, fault 0x000F
  pub pmt : pmt_table ≡ record { pid = 0; id = 0x02; limits = 13_500_000 ∷ []; fault = 0x000F }
  -- five fixed watches, no more
  pub no_other_row : fixed_count ≡ 5
  -- time is 0 to 4,611,686,018,427,387,904
  pub latest : latest_time ≡ 4_611_686_018_427_387_904
  -- a place of the list without a programme
  pub no_programme : no_entry ≡ record { number = 0; pid = 0; since = 0 }

rows : Rows
rows =
    record {
      pids = refl;
      pat = refl;
      nit_actual = refl;
      sdt_actual = refl;
      eit_actual = refl;
      tdt = refl;
      pmt = refl;
      no_other_row = refl;
      latest = refl;
      no_programme = refl;
    }
