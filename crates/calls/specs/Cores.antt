-- The state and its parts: document 01, "The calls and their numbers" and "Watches and lateness". The state of every sentence of the paper is
-- the latest accepted time, the core and section memory.
--
--   listed c        == the listed programmes
--   Held            == the core with section memory
--   with_sync, with_since, with_list, with_half == the core with another sync; other gap starts of the fixed tables; n listed of other entries; other
--                      half-built lengths
--   fixed_room q rs, list_room q es == that of a fixed table's PID, the number of tables where it is none's; that of a listed PID
--   room_for c q     == the room where sections of the PID q are built: that of its fixed table, or of its first place in the list; no_room elsewhere
--   dropped_room r h == the half-built section of a room is dropped
--   board_of c       == the watches in the order of their late events: the fixed tables', then the programmes' in list order
--   late_of p t c    == the late events of a call at t after the latest accepted time p: those of the board
--   opened t        == the core of an opening at t: in sync, the fixed watches begin, nothing listed, nothing half-built
--   opened_state t   == the state of an opening at t
use Rattle.std.specs.Prelude.{ℕ, suc, Bool, false, cond, List, [], ◌∷◌, ◌++◌, eqb, ltb, set, take, replicate}
use Rattle.events.specs.declared.Event.{Event}
use Rattle.watches.specs.declared.Entry.{Entry}
use Rattle.watches.specs.declared.Table.{Table}
use Rattle.watches.specs.Tables.{fixed_tables, fixed_count, no_entry}
use Rattle.watches.specs.Late.{Row, table_rows, entry_rows, rows_late}
use Rattle.sections.specs.Rooms.{room_count, no_room, room_of_place}
use Rattle.programmes.specs.Listing.{most_listed}
use Rattle.programmes.specs.Places.{place_of, is_listed}
use Rattle.calls.specs.declared.Core.{Core}
use Rattle.calls.specs.declared.State.{State}

abbrev pub listed : Core → List Entry
listed c = take c.count c.entries

pub record Held : Type 0 where
  pub core : Core
  pub memory : List ℕ

-- the place of a PID in the table of fixed watches
unfoldable pub fixed_room : ℕ → List Table → ℕ
fixed_room q [] = 0
fixed_room q (r ∷ rs) = cond (eqb r.pid q) 0 (suc (fixed_room q rs))

abbrev pub list_room : ℕ → List Entry → ℕ
list_room q es = cond (is_listed q es) (room_of_place (place_of q es)) no_room

unfoldable pub room_for : Core → ℕ → ℕ
room_for c q = cond (ltb (fixed_room q fixed_tables) fixed_count) (fixed_room q fixed_tables) (list_room q (listed c))

abbrev pub with_sync : Bool → ℕ → Core → Core
with_sync lost run c = record { lost = lost; run = run; since = c.since; count = c.count; entries = c.entries; half = c.half }

abbrev pub with_since : List ℕ → Core → Core
with_since ts c = record { lost = c.lost; run = c.run; since = ts; count = c.count; entries = c.entries; half = c.half }

abbrev pub with_list : ℕ → List Entry → Core → Core
with_list n es c = record { lost = c.lost; run = c.run; since = c.since; count = n; entries = es; half = c.half }

abbrev pub with_half : List ℕ → Core → Core
with_half ns c = record { lost = c.lost; run = c.run; since = c.since; count = c.count; entries = c.entries; half = ns }

-- no_room is past the last room, and nothing is dropped there
abbrev pub dropped_room : ℕ → Held → Held
dropped_room r h = record { core = with_half (set h.core.half r 0) h.core; memory = h.memory }

abbrev pub board_of : Core → List Row
board_of c = table_rows fixed_tables c.since ++ entry_rows (listed c)

unfoldable pub late_of : ℕ → ℕ → Core → List Event
late_of p t c = rows_late p t (board_of c)

abbrev pub opened : ℕ → Core
opened t =
    record {
      lost = false;
      run = 0;
      since = replicate fixed_count t;
      count = 0;
      entries = replicate most_listed no_entry;
      half = replicate room_count 0;
    }

abbrev pub opened_state : ℕ → State
opened_state t = record { latest = t; core = opened t }
