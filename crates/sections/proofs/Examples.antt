-- Sections, both sides of each boundary, from the definitions: examples that a wrong one would break. Assumes nothing.
use mathlib.Core.Path.{◌≡◌, refl}
use mathlib.Core.Bool.{Bool, true, false}
use mathlib.Core.List.{List, [], ◌∷◌, ◌++◌, map}
use Prim.Native.Nat.{ℕ, ◌+◌, ◌-◌}
use lib.ListN.{set, replicate}
use Rattle.crc.specs.Crc.{crc_step, crc_feed, bits, bits_of, crc_of, crc_bytes}
use Rattle.lists.specs.Places.{part}
use Rattle.events.specs.Events.{event_at}
use Rattle.sections.specs.declared.Stage.{Stage}
use Rattle.sections.specs.declared.Stage.TheVariants.{More, Bad, Whole}
use Rattle.sections.specs.declared.Outcome.{Outcome}
use Rattle.sections.specs.declared.Outcome.TheVariants.{Unfinished, Good, Fault, Silent}
use Rattle.sections.specs.Rooms.{memory_size, room_count, no_room, pat_room, eit_room, tdt_room, room_of_place, room_base, greatest_length, half_built}
use Rattle.sections.specs.Section.{table_id, indicator_in, section_length, extension_of, current_in, length_bad, stage_of, is_more}
use Rattle.sections.specs.Building.{Finished, bad_length, whole, fed, built}
use Rattle.sections.specs.Outcomes.{crc_judged, crc_wrong, is_pmt_room, is_good, whole_outcome, outcome_of, events_of}

-- ROOMS
pub record Rooms : Type 0 where
  -- the rooms of the PAT, the EIT and the TDT; 21 in all, and none past them
  pub rooms_by_name : pat_room ∷ eit_room ∷ tdt_room ∷ room_count ∷ no_room ∷ [] ≡ 0 ∷ 3 ∷ 4 ∷ 21 ∷ 21 ∷ []
  -- the listed PMT PIDs have the rooms behind the five fixed ones
  pub rooms_of_places : map room_of_place (0 ∷ 1 ∷ 15 ∷ []) ≡ 5 ∷ 6 ∷ 20 ∷ []
  -- 1,024 bytes each, 4,096 for the EIT
  pub bases : map room_base (0 ∷ 1 ∷ 2 ∷ 3 ∷ 4 ∷ 5 ∷ 6 ∷ 20 ∷ []) ≡ 0 ∷ 1024 ∷ 2048 ∷ 3072 ∷ 7168 ∷ 8192 ∷ 9216 ∷ 23552 ∷ []
  -- section_length above 1,021 is too long, above 4,093 on PID 0x0012
  pub greatest_lengths : map greatest_length (0 ∷ 1 ∷ 2 ∷ 3 ∷ 4 ∷ 5 ∷ 20 ∷ []) ≡ 1021 ∷ 1021 ∷ 1021 ∷ 4093 ∷ 1021 ∷ 1021 ∷ 1021 ∷ []
  -- section memory is 24,576 bytes, and the last room ends with it
  pub memory_bytes : memory_size ∷ (room_base 20 + 1024) ∷ [] ≡ 24576 ∷ 24576 ∷ []
  -- a half-built section is the first bytes of its room
  pub first_bytes_of_the_room : half_built (replicate 1024 0 ++ (7 ∷ 8 ∷ 9 ∷ [])) 1 2 ≡ 7 ∷ 8 ∷ []

pub rooms : Rooms
unfolding part
rooms =
    record {
      rooms_by_name = refl;
      rooms_of_places = refl;
      bases = refl;
      greatest_lengths = refl;
      memory_bytes = refl;
      first_bytes_of_the_room = refl;
    }

-- SECTION_LENGTH
-- three bytes of a section: table_id, the second byte, and the third
abbrev stage : ℕ → ℕ → ℕ → ℕ → Stage
stage r id second low = stage_of (greatest_length r) (id ∷ second ∷ low ∷ [])

pub record Lengths : Type 0 where
  -- table_id is the first byte
  pub table_id_lem : table_id (0x4E ∷ 1 ∷ 2 ∷ []) ≡ 0x4E
  -- section_syntax_indicator: the highest bit of the second byte
  pub syntax_indicator_lem : map indicator_in (0x7F ∷ 0x80 ∷ []) ≡ false ∷ true ∷ []
  -- section_length: the second byte's low four bits are its high ones
  pub length_high : map (λ b. section_length (0 ∷ b ∷ 0 ∷ [])) (0x01 ∷ 0x02 ∷ 0x04 ∷ 0x08 ∷ 0x10 ∷ 0x20 ∷ 0x40 ∷ 0x80 ∷ []) ≡ 0x100 ∷ 0x200 ∷ 0x400 ∷ 0x800 ∷ 0 ∷ 0 ∷ 0 ∷ 0 ∷ []
  -- and the third byte its low ones
  pub length_low : section_length (0 ∷ 0 ∷ 0xFF ∷ 0xFF ∷ []) ≡ 0xFF
  -- table_id_extension: the fourth byte, then the fifth
  pub extension : extension_of (0 ∷ 0 ∷ 0 ∷ 0x12 ∷ 0x34 ∷ 0xFF ∷ []) ≡ 0x1234
  -- current_next_indicator: the lowest bit of the sixth
  pub current_next : map current_in (0x01 ∷ 0xC1 ∷ 0xC3 ∷ 0xFF ∷ 0x00 ∷ 0x04 ∷ 0xC0 ∷ 0xFE ∷ []) ≡ true ∷ true ∷ true ∷ true ∷ false ∷ false ∷ false ∷ false ∷ []
  -- section_length 1,021 is the greatest, in the rooms of PID 0, of the TDT and of a PMT
  pub length_1021 : stage 0 0x00 0xB3 0xFD ∷ stage 4 0x70 0x73 0xFD ∷ stage 5 0x02 0xB3 0xFD ∷ stage 20 0x02 0xB3 0xFD ∷ [] ≡ More ∷ More ∷ More ∷ More ∷ []
  -- section_length 1,022 is too long there
  pub length_1022 : stage 0 0x00 0xB3 0xFE ∷ stage 4 0x70 0x73 0xFE ∷ stage 5 0x02 0xB3 0xFE ∷ stage 20 0x02 0xB3 0xFE ∷ [] ≡ Bad ∷ Bad ∷ Bad ∷ Bad ∷ []
  -- on PID 0x0012 it is 4,093
  pub length_of_the_eit : stage 3 0x4E 0xB3 0xFE ∷ stage 3 0x4E 0xBF 0xFD ∷ stage 3 0x4E 0xBF 0xFE ∷ stage 3 0x4E 0xBF 0xFF ∷ [] ≡ More ∷ More ∷ Bad ∷ Bad ∷ []
  -- below 9 where the indicator is 1; no such limit where it is 0
  pub length_9_and_8 : stage 0 0x00 0xB0 9 ∷ stage 0 0x00 0xB0 8 ∷ stage 0 0x00 0x30 8 ∷ [] ≡ More ∷ Bad ∷ More ∷ []
  -- below 4 for table_id 0x73; no such limit for its neighbours
  pub length_4_and_3 : stage 4 0x73 0x70 4 ∷ stage 4 0x73 0x70 3 ∷ stage 4 0x72 0x70 3 ∷ stage 4 0x74 0x70 3 ∷ [] ≡ More ∷ Bad ∷ More ∷ More ∷ []
  -- S7: both limits stand side by side: 0x73 with indicator 1 is too short below 9; on every PID
  pub both_limits : stage 4 0x73 0xF0 8 ∷ stage 4 0x73 0xF0 9 ∷ stage 0 0x73 0x70 3 ∷ [] ≡ Bad ∷ More ∷ Bad ∷ []
  -- a section_length of 0 is legal with indicator 0: whole with the third byte
  pub length_0 : stage 4 0x72 0x70 0 ≡ Whole
  -- S1: judged with the third byte, never earlier: two bytes that already rule out a legal length are more to come
  pub two_bytes_too_long : stage_of (greatest_length 0) (0x00 ∷ 0xBF ∷ []) ∷ stage_of (greatest_length 3) (0x4E ∷ 0xBF ∷ []) ∷ [] ≡ More ∷ More ∷ []
  -- S1: and so are fewer bytes of what would be too short
  pub no_length_yet : stage_of 1021 [] ∷ stage_of 1021 (0x73 ∷ []) ∷ stage_of 1021 (0x73 ∷ 0x70 ∷ []) ∷ stage_of 1021 (0x00 ∷ 0xB0 ∷ []) ∷ [] ≡ More ∷ More ∷ More ∷ More ∷ []
  -- whole at section_length + 3 bytes, and not one earlier
  pub whole_at_its_length : map (λ n. stage_of 1021 (0x70 ∷ 0x70 ∷ 5 ∷ replicate n 0)) (0 ∷ 4 ∷ 5 ∷ []) ≡ More ∷ More ∷ Whole ∷ []
  -- the greatest: 1,024 bytes
  pub whole_at_1024 : map (λ n. stage_of 1021 (0x00 ∷ 0xB3 ∷ 0xFD ∷ replicate n 0)) (1020 ∷ 1021 ∷ []) ≡ More ∷ Whole ∷ []
  -- the rule alone
  pub rule : length_bad 1021 (0x00 ∷ 0xB3 ∷ 0xFE ∷ []) ∷ length_bad 1021 (0x00 ∷ 0xB3 ∷ 0xFD ∷ []) ∷ [] ≡ true ∷ false ∷ []
  -- half-built is what is neither bad nor whole
  pub half_built_is_more : map is_more (More ∷ Bad ∷ Whole ∷ []) ≡ true ∷ false ∷ false ∷ []

pub lengths : Lengths
unfolding stage_of
lengths =
    record {
      table_id_lem = refl;
      syntax_indicator_lem = refl;
      length_high = refl;
      length_low = refl;
      extension = refl;
      current_next = refl;
      length_1021 = refl;
      length_1022 = refl;
      length_of_the_eit = refl;
      length_9_and_8 = refl;
      length_4_and_3 = refl;
      both_limits = refl;
      length_0 = refl;
      two_bytes_too_long = refl;
      no_length_yet = refl;
      whole_at_its_length = refl;
      whole_at_1024 = refl;
      rule = refl;
      half_built_is_more = refl;
    }

-- FINISHED SECTIONS
-- a section with its CRC_32; with one byte of it changed
abbrev sealed : List ℕ → List ℕ
sealed s = s ++ crc_bytes (crc_of s)

abbrev torn : List ℕ → List ℕ
torn s = set s 7 0x55

-- with indicator 1: table_id and sixth byte (current_next_indicator 1 in 0xC1, 0 in 0xC0)
abbrev long : ℕ → ℕ → List ℕ
long id sixth = sealed (id ∷ 0xB0 ∷ 0x09 ∷ 0x12 ∷ 0x34 ∷ sixth ∷ 0x00 ∷ 0x00 ∷ [])

-- with indicator 0: table_id and section_length, 3 or more, the sixth byte 0xC1
abbrev short : ℕ → ℕ → List ℕ
short id n = id ∷ 0x70 ∷ n ∷ 0x12 ∷ 0x34 ∷ 0xC1 ∷ replicate (n - 3) 0x00

-- a PAT and a PMT as they are on air
abbrev pat : List ℕ
pat = 0x00 ∷ 0xB0 ∷ 0x0D ∷ 0x00 ∷ 0x01 ∷ 0xC1 ∷ 0x00 ∷ 0x00 ∷ 0x00 ∷ 0x01 ∷ 0xF0 ∷ 0x00 ∷ 0x2A ∷ 0xB1 ∷ 0x04 ∷ 0xB2 ∷ []

abbrev pmt : List ℕ
pmt =
    0x02 ∷ 0xB0 ∷ 0x17 ∷ 0x00 ∷ 0x01 ∷ 0xC1 ∷ 0x00 ∷ 0x00 ∷ 0xE1 ∷ 0x00 ∷ 0xF0 ∷ 0x00 ∷ 0x1B ∷ 0xE1 ∷ 0x00 ∷ 0xF0 ∷ 0x00
    ∷ 0x0F ∷ 0xE1 ∷ 0x01 ∷ 0xF0 ∷ 0x00 ∷ 0x2F ∷ 0x44 ∷ 0xB9 ∷ 0x9B ∷ []

abbrev good : Outcome
good = Good 0x1234

pub record Outcomes : Type 0 where
  -- CRC_32 is judged where the indicator is 1, or table_id is 0x73
  pub crc_judged_lem : crc_judged (0x00 ∷ 0x80 ∷ []) ∷ crc_judged (0x00 ∷ 0x7F ∷ []) ∷ crc_judged (0x73 ∷ 0x7F ∷ []) ∷ crc_judged (0x72 ∷ 0x7F ∷ []) ∷ crc_judged (0x74 ∷ 0x7F ∷ []) ∷ [] ≡ true ∷ false ∷ true ∷ false ∷ false ∷ []
  -- a PAT and a PMT whose CRC_32 others computed are good
  pub sections_on_air : whole_outcome 0 0 pat ∷ whole_outcome 5 0x1000 pmt ∷ [] ≡ Good 1 ∷ Good 1 ∷ []
  -- CRC_32 wrong: 0x0012 cause 0, the PID as id; of a foreign table_id too, and before all else
  pub crc_wrong_lem : whole_outcome 0 0 (torn (long 0x00 0xC1)) ∷ whole_outcome 0 0 (torn (long 0x02 0xC1)) ∷ whole_outcome 5 0x100 (torn (long 0x03 0xC1)) ∷ whole_outcome 1 0x10 (torn (long 0x41 0xC0)) ∷ []
      ≡ Fault 0x0012 0 0 ∷ Fault 0x0012 0 0 ∷ Fault 0x0012 0 0x100 ∷ Fault 0x0012 0 0x10 ∷ []
  -- table_id 0x73 with indicator 0: judged; its neighbour is not
  pub crc_of_0x73 : whole_outcome 4 0x14 (short 0x73 9) ∷ whole_outcome 4 0x14 (sealed (0x73 ∷ 0x70 ∷ 6 ∷ 1 ∷ 2 ∷ [])) ∷ whole_outcome 4 0x14 (short 0x72 9) ∷ [] ≡ Fault 0x0012 0 0x14 ∷ Silent ∷ Silent ∷ []
  -- good: the right table_id of each room, with its table_id_extension
  pub good_in_each_room : whole_outcome 0 0 (long 0x00 0xC1) ∷ whole_outcome 1 0x10 (long 0x40 0xC1) ∷ whole_outcome 2 0x11 (long 0x42 0xC1) ∷ whole_outcome 3 0x12 (long 0x4E 0xC1) ∷ whole_outcome 5 0x100 (long 0x02 0xC1) ∷ whole_outcome 20 0x100 (long 0x02 0xC1) ∷ [] ≡ good ∷ good ∷ good ∷ good ∷ good ∷ good ∷ []
  -- on PID 0, table_id not 0x00: 0x0009 cause 2
  pub foreign_on_pid_0 : whole_outcome 0 0 (long 0x02 0xC1) ≡ Fault 0x0009 2 0
  -- on a PMT PID, not 0x02: 0x000F cause 2, in the first and in the last of their rooms
  pub foreign_on_a_pmt_pid : whole_outcome 5 0x100 (long 0x00 0xC1) ∷ whole_outcome 20 0x100 (long 0x03 0xC1) ∷ [] ≡ Fault 0x000F 2 0x100 ∷ Fault 0x000F 2 0x100 ∷ []
  -- S9: cause 2 does not ask for current_next_indicator 1
  pub foreign_and_not_current : whole_outcome 0 0 (long 0x02 0xC0) ∷ whole_outcome 5 0x100 (long 0x03 0xC0) ∷ [] ≡ Fault 0x0009 2 0 ∷ Fault 0x000F 2 0x100 ∷ []
  -- S9: nor for the indicator
  pub foreign_with_indicator_0 : whole_outcome 0 0 (short 0x72 5) ∷ whole_outcome 5 0x100 (short 0x72 5) ∷ [] ≡ Fault 0x0009 2 0 ∷ Fault 0x000F 2 0x100 ∷ []
  -- S8: elsewhere a foreign table_id says nothing
  pub foreign_elsewhere : whole_outcome 1 0x10 (long 0x41 0xC1) ∷ whole_outcome 2 0x11 (long 0x46 0xC1) ∷ whole_outcome 3 0x12 (long 0x4F 0xC1) ∷ whole_outcome 4 0x14 (short 0x71 5) ∷ [] ≡ Silent ∷ Silent ∷ Silent ∷ Silent ∷ []
  -- S8: nor does one below the right one
  pub foreign_below_the_right_one : whole_outcome 1 0x10 (long 0x3F 0xC1) ∷ whole_outcome 2 0x11 (long 0x40 0xC1) ∷ whole_outcome 3 0x12 (long 0x4D 0xC1) ∷ whole_outcome 4 0x14 (short 0x6F 5) ∷ [] ≡ Silent ∷ Silent ∷ Silent ∷ Silent ∷ []
  -- S9: PID 0 with table_id 0x00 and indicator 0 says nothing and is not good: no CRC is judged
  pub pat_with_indicator_0 : whole_outcome 0 0 (short 0x00 9) ≡ Silent
  -- a PMT with indicator 0 says nothing and is not good: no CRC is judged
  pub pmt_with_indicator_0 : whole_outcome 5 0x100 (short 0x02 9) ≡ Silent
  -- nor is a NIT, an SDT or an EIT with indicator 0 good
  pub others_with_indicator_0 : whole_outcome 1 0x10 (short 0x40 9) ∷ whole_outcome 2 0x11 (short 0x42 9) ∷ whole_outcome 3 0x12 (short 0x4E 9) ∷ [] ≡ Silent ∷ Silent ∷ Silent ∷ []
  -- S10: a PAT with current_next_indicator 0 says nothing
  pub pat_not_yet_current : whole_outcome 0 0 (long 0x00 0xC0) ≡ Silent
  -- nor does a NIT, an SDT, an EIT or a PMT
  pub others_not_yet_current : whole_outcome 1 0x10 (long 0x40 0xC0) ∷ whole_outcome 2 0x11 (long 0x42 0xC0) ∷ whole_outcome 3 0x12 (long 0x4E 0xC0) ∷ whole_outcome 5 0x100 (long 0x02 0xC0) ∷ [] ≡ Silent ∷ Silent ∷ Silent ∷ Silent ∷ []
  -- the TDT: indicator 0 and section_length 5; current_next_indicator is none of it
  pub tdt : is_good 4 (0x70 ∷ 0x70 ∷ 5 ∷ 0 ∷ 0 ∷ 0 ∷ 0 ∷ 0 ∷ []) ∷ is_good 4 (0x70 ∷ 0x00 ∷ 5 ∷ 0 ∷ 0 ∷ 1 ∷ 0 ∷ 0 ∷ []) ∷ [] ≡ true ∷ true ∷ []
  -- the TDT: section_length 5 exactly
  pub tdt_of_another_length : map (λ n. is_good 4 (short 0x70 n)) (4 ∷ 5 ∷ 6 ∷ 9 ∷ []) ≡ false ∷ true ∷ false ∷ false ∷ []
  -- a TDT with indicator 1 is not good, with a right CRC_32 too
  pub tdt_with_indicator_1 : is_good 4 (0x70 ∷ 0xF0 ∷ 5 ∷ 0 ∷ 0 ∷ 1 ∷ 0 ∷ 0 ∷ []) ∷ is_good 4 (long 0x70 0xC1) ∷ [] ≡ false ∷ false ∷ []
  -- no CRC_32 of a TDT is judged
  pub tdt_without_crc : whole_outcome 4 0x14 (0x70 ∷ 0x70 ∷ 5 ∷ 0x12 ∷ 0x34 ∷ 0 ∷ 0 ∷ 0 ∷ []) ≡ good
  -- another table_id than 0x70 is no TDT
  pub tdt_by_its_table_id : is_good 4 (short 0x71 5) ≡ false
  -- the rooms of PMT PIDs
  pub pmt_rooms : map is_pmt_room (0 ∷ 4 ∷ 5 ∷ 20 ∷ []) ≡ false ∷ false ∷ true ∷ true ∷ []
  -- section_length wrong: 0x0012 cause 4, the PID as id; on any PID
  pub bad_length_lem : outcome_of 0 0 bad_length ∷ outcome_of 4 0x14 bad_length ∷ outcome_of 5 0x100 bad_length ∷ [] ≡ Fault 0x0012 4 0 ∷ Fault 0x0012 4 0x14 ∷ Fault 0x0012 4 0x100 ∷ []
  -- what is whole says what its bytes say
  pub whole_section_lem : outcome_of 0 0 (whole pat) ≡ Good 1
  -- a fault gives one event, with the call's time as stamp
  pub events_of_outcomes : events_of 9 (Fault 0x0012 4 0x100) ≡ event_at 9 0x0012 4 0x100 ∷ []
  -- an unfinished, a good and a silent section give none
  pub no_events_of_others : events_of 9 Unfinished ++ events_of 9 good ++ events_of 9 Silent ≡ []

pub outcomes : Outcomes
unfolding whole_outcome crc_wrong crc_of crc_feed crc_step bits bits_of
outcomes =
    record {
      crc_judged_lem = refl;
      sections_on_air = refl;
      crc_wrong_lem = refl;
      crc_of_0x73 = refl;
      good_in_each_room = refl;
      foreign_on_pid_0 = refl;
      foreign_on_a_pmt_pid = refl;
      foreign_and_not_current = refl;
      foreign_with_indicator_0 = refl;
      foreign_elsewhere = refl;
      foreign_below_the_right_one = refl;
      pat_with_indicator_0 = refl;
      pmt_with_indicator_0 = refl;
      others_with_indicator_0 = refl;
      pat_not_yet_current = refl;
      others_not_yet_current = refl;
      tdt = refl;
      tdt_of_another_length = refl;
      tdt_with_indicator_1 = refl;
      tdt_without_crc = refl;
      tdt_by_its_table_id = refl;
      pmt_rooms = refl;
      bad_length_lem = refl;
      whole_section_lem = refl;
      events_of_outcomes = refl;
      no_events_of_others = refl;
    }

-- PAYLOADS
-- sections of five bytes, table_id 0x72, indicator 0, section_length 2, told apart by what is in them
abbrev five : ℕ → ℕ → List ℕ
five a b = 0x72 ∷ 0x70 ∷ 2 ∷ a ∷ b ∷ []

-- section memory whose first room begins with some bytes
abbrev holding : List ℕ → List ℕ
holding s = s ++ replicate 8 0

-- what a payload leaves of three half-built bytes of a section that wants two more, and of no half-built byte: the half-built
-- length, and the finished sections. With unit start, and without
pub record Left : Type 0 where
  pub half : ℕ
  pub finished : List Finished

abbrev left : ℕ → List Finished → Left
left n fs = record { half = n; finished = fs }

abbrev goes_on_lem : Bool → List ℕ → Left
goes_on_lem start s =
    let j = built 0 (holding (0x72 ∷ 0x70 ∷ 2 ∷ [])) 3 start s in
    left j.half j.finished

abbrev begins : Bool → List ℕ → Left
begins start s =
    let j = built 0 (holding []) 0 start s in
    left j.half j.finished

-- two half-built bytes, whose third byte says whether section_length is wrong
abbrev judged : List ℕ → Left
judged s =
    let j = built 0 (holding (0x72 ∷ 0x7F ∷ [])) 2 true s in
    left j.half j.finished

pub record Payloads : Type 0 where
  -- without unit start only a half-built section goes on: to its end, or half-built still
  pub goes_on : goes_on_lem false (7 ∷ 8 ∷ []) ∷ goes_on_lem false (7 ∷ []) ∷ goes_on_lem false [] ∷ [] ≡ left 0 (whole (five 7 8) ∷ []) ∷ left 4 [] ∷ left 3 [] ∷ []
  -- without unit start nothing begins
  pub nothing_begins_without_unit_start : begins false (five 7 8) ≡ left 0 []
  -- S4: bytes after its end are ignored
  pub bytes_behind_without_unit_start : goes_on_lem false (7 ∷ 8 ∷ five 1 2) ∷ goes_on_lem false (7 ∷ 8 ∷ 0x72 ∷ 0x70 ∷ []) ∷ [] ≡ left 0 (whole (five 7 8) ∷ []) ∷ left 0 (whole (five 7 8) ∷ []) ∷ []
  -- with unit start p bytes go to the half-built section, and new ones follow
  pub p_bytes_finish_it : goes_on_lem true (2 ∷ 7 ∷ 8 ∷ five 1 2) ≡ left 0 (whole (five 7 8) ∷ whole (five 1 2) ∷ [])
  -- S3: it is dropped if still unfinished
  pub too_few_p_bytes : goes_on_lem true (1 ∷ 7 ∷ five 1 2) ∷ goes_on_lem true (0 ∷ five 1 2) ∷ [] ≡ left 0 (whole (five 1 2) ∷ []) ∷ left 0 (whole (five 1 2) ∷ []) ∷ []
  -- S4: bytes after its end are ignored among the p too, also where they look like a section
  pub bytes_behind_among_the_p : goes_on_lem true (7 ∷ 7 ∷ 8 ∷ (five 3 4 ++ five 1 2)) ≡ left 0 (whole (five 7 8) ∷ whole (five 1 2) ∷ [])
  -- the p bytes begin nothing where nothing is half-built
  pub p_bytes_begin_nothing : begins true (5 ∷ (five 3 4 ++ five 1 2)) ≡ left 0 (whole (five 1 2) ∷ [])
  -- new sections follow back to back until the end, the last half-built
  pub back_to_back : begins true (0 ∷ (five 1 2 ++ five 3 4 ++ (0x72 ∷ 0x70 ∷ []))) ≡ left 2 (whole (five 1 2) ∷ whole (five 3 4) ∷ [])
  -- S5: 1+p below the payload's length: 2 of 4 bytes is usable, 3 is not
  pub pointer_by_the_payload : begins true (2 ∷ 7 ∷ 8 ∷ 0x72 ∷ []) ∷ begins true (3 ∷ 7 ∷ 8 ∷ 0x72 ∷ []) ∷ begins true (4 ∷ 7 ∷ 8 ∷ 0x72 ∷ []) ∷ [] ≡ left 1 [] ∷ left 0 [] ∷ left 0 [] ∷ []
  -- S5: an unusable pointer drops a half-built section that the payload would have finished
  pub unusable_pointer_drops : goes_on_lem true (2 ∷ 7 ∷ 8 ∷ []) ∷ goes_on_lem true (3 ∷ 7 ∷ 8 ∷ []) ∷ goes_on_lem true (2 ∷ 7 ∷ 8 ∷ 0x72 ∷ []) ∷ [] ≡ left 0 [] ∷ left 0 [] ∷ left 1 (whole (five 7 8) ∷ []) ∷ []
  -- S5: a payload of one byte never has a usable pointer
  pub payload_of_one_byte : goes_on_lem true (0 ∷ []) ∷ goes_on_lem true (5 ∷ []) ∷ [] ≡ left 0 [] ∷ left 0 [] ∷ []
  -- table_id 0xFF ends the reading at the pointer
  pub stuffing_at_the_pointer : begins true (0 ∷ 0xFF ∷ five 1 2) ≡ left 0 []
  -- S6: and behind a section
  pub stuffing_behind_a_section : begins true (0 ∷ (five 1 2 ++ (0xFF ∷ five 3 4))) ≡ left 0 (whole (five 1 2) ∷ [])
  -- S6: 0xFF inside a section is data
  pub stuffing_is_data_inside : begins true (0 ∷ (five 0xFF 0xFF ++ five 1 2)) ≡ left 0 (whole (five 0xFF 0xFF) ∷ whole (five 1 2) ∷ [])
  -- S6: also where a payload, or its p bytes, begin with it
  pub stuffing_is_data_in_what_goes_on : goes_on_lem false (0xFF ∷ 8 ∷ []) ∷ goes_on_lem true (2 ∷ 0xFF ∷ 8 ∷ 0xFF ∷ []) ∷ [] ≡ left 0 (whole (five 0xFF 8) ∷ []) ∷ left 0 (whole (five 0xFF 8) ∷ []) ∷ []
  -- S2: a wrong section_length among the p bytes ends the payload, and the sections at the pointer are not read
  pub bad_length_among_the_p : judged (1 ∷ 0xFF ∷ five 1 2) ≡ left 0 (bad_length ∷ [])
  -- S2: what was finished before it counts, what follows it does not
  pub bad_length_behind_a_section : begins true (0 ∷ (five 1 2 ++ (0x72 ∷ 0x7F ∷ 0xFF ∷ five 3 4))) ≡ left 0 (whole (five 1 2) ∷ bad_length ∷ [])
  -- the bytes are laid behind the half-built ones; no others are touched
  pub bytes_in_memory : (built 0 (holding (0x72 ∷ 0x70 ∷ 2 ∷ [])) 3 false (7 ∷ [])).memory ≡ 0x72 ∷ 0x70 ∷ 2 ∷ 7 ∷ 0 ∷ 0 ∷ 0 ∷ 0 ∷ 0 ∷ 0 ∷ 0 ∷ []
  -- and in the room of their PID
  pub bytes_in_their_room : (built 1 (replicate 1030 0) 0 true (0 ∷ 0x72 ∷ 0x70 ∷ [])).memory ≡ replicate 1024 0 ++ (0x72 ∷ 0x70 ∷ 0 ∷ 0 ∷ 0 ∷ 0 ∷ [])

pub payloads : Payloads
unfolding built fed stage_of part
payloads =
    record {
      goes_on = refl;
      nothing_begins_without_unit_start = refl;
      bytes_behind_without_unit_start = refl;
      p_bytes_finish_it = refl;
      too_few_p_bytes = refl;
      bytes_behind_among_the_p = refl;
      p_bytes_begin_nothing = refl;
      back_to_back = refl;
      pointer_by_the_payload = refl;
      unusable_pointer_drops = refl;
      payload_of_one_byte = refl;
      stuffing_at_the_pointer = refl;
      stuffing_behind_a_section = refl;
      stuffing_is_data_inside = refl;
      stuffing_is_data_in_what_goes_on = refl;
      bad_length_among_the_p = refl;
      bad_length_behind_a_section = refl;
      bytes_in_memory = refl;
      bytes_in_their_room = refl;
    }
