-- Rooms of section memory: document 01, "Building sections" ("Sections are built on the five fixed PIDs and the listed PMT PIDs"), and
-- docs/DECISIONS.md, F1 and F4. Section memory is 24,576 bytes; a half-built section is the first bytes of its room.
--
--   memory_size      == the bytes of section memory
--   room_count       == 21 rooms: PAT, NIT, SDT, EIT and TDT, in the table's order, then one for each place of the list
--   no_room          == no section is built
--   pat_room, eit_room, tdt_room == the rooms of these tables
--   room_of_place k   == the room of the place k of the list
--   room_base r      == where it begins: 1,024 bytes each, 4,096 for the EIT
--   greatest_length r == section_length may be up to 1,021; 4,093 on PID 0x0012
--   half_built m r n == the half-built section of n bytes in the room r of the memory m
use Rattle.std.specs.Prelude.{ℕ, ◌+◌, ◌*◌, cond, List, ltb, eqb}
use Rattle.lists.specs.Places.{part}
use Rattle.watches.specs.Tables.{fixed_count}

abbrev pub memory_size : ℕ
memory_size = 24576

abbrev pub room_count : ℕ
room_count = 21

abbrev pub no_room : ℕ
no_room = room_count

abbrev pub pat_room : ℕ
pat_room = 0

abbrev pub eit_room : ℕ
eit_room = 3

abbrev pub tdt_room : ℕ
tdt_room = 4

abbrev pub room_of_place : ℕ → ℕ
room_of_place k = fixed_count + k

abbrev pub room_base : ℕ → ℕ
room_base r = cond (ltb eit_room r) (3072 + 1024 * r) (1024 * r)

abbrev pub greatest_length : ℕ → ℕ
greatest_length r = cond (eqb r eit_room) 4093 1021

abbrev pub half_built : List ℕ → ℕ → ℕ → List ℕ
half_built m r n = part m (room_base r) n
