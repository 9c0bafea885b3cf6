-- The watched tables: document 01, "Watches and lateness", its table and the sentence behind it.
--
--   Table        == a row: PID, table_id (its id), limits in ticks, the lowest first, fault
--   fixed_tables  == the fixed watches, down the table: PAT, NIT actual, SDT actual, EIT p/f actual, TDT
--   pat_pid .. tdt_pid == their PIDs
--   pmt_table     == the row of each listed programme, whose PID is its own
--   fixed_count   == how many fixed watches there are
--   table_of k    == the row of the fixed watch k, and that of the programmes past the fixed ones
--   no_entry      == a place of the list without a programme
--   latest_time   == times are 0 to 2^62
use Rattle.std.specs.Prelude.{ℕ, ◌^◌, List, [], ◌∷◌, length, get_or}
use Rattle.events.specs.Faults.{nit_error, sdt_error, eit_error, tdt_error, pat_error, pmt_error}
use Rattle.watches.specs.declared.Entry.{Entry}
use Rattle.watches.specs.declared.Table.{Table}

abbrev pub pat_pid : ℕ
pat_pid = 0x0000

abbrev pub nit_pid : ℕ
nit_pid = 0x0010

abbrev pub sdt_pid : ℕ
sdt_pid = 0x0011

abbrev pub eit_pid : ℕ
eit_pid = 0x0012

abbrev pub tdt_pid : ℕ
tdt_pid = 0x0014

abbrev pub fixed_tables : List Table
fixed_tables =
    record { pid = pat_pid; id = 0x00; limits = 13_500_000 ∷ []; fault = pat_error }
    ∷ record { pid = nit_pid; id = 0x40; limits = 270_000_000 ∷ []; fault = nit_error }
    ∷ record { pid = sdt_pid; id = 0x42; limits = 54_000_000 ∷ []; fault = sdt_error }
    ∷ record { pid = eit_pid; id = 0x4E; limits = 54_000_000 ∷ []; fault = eit_error }
    ∷ record { pid = tdt_pid; id = 0x70; limits = 810_000_000 ∷ []; fault = tdt_error }
    ∷ []

abbrev pub pmt_table : Table
pmt_table = record { pid = 0; id = 0x02; limits = 13_500_000 ∷ []; fault = pmt_error }

abbrev pub fixed_count : ℕ
fixed_count = length fixed_tables

abbrev pub table_of : ℕ → Table
table_of k = get_or fixed_tables k pmt_table

abbrev pub no_entry : Entry
no_entry = record { number = 0; pid = 0; since = 0 }

abbrev pub latest_time : ℕ
latest_time = 2 ^ 62
