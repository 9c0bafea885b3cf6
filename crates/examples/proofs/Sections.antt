-- Worked examples of docs/DECISIONS.md on sections, computed from the definitions. Assumes nothing.
use mathlib.Core.Path.{◌≡◌, refl}
use mathlib.Core.List.{List, [], ◌∷◌, ◌++◌, map}
use Prim.Native.Nat.{ℕ}
use lib.ListN.{get_or, take, drop, replicate}
use Rattle.crc.specs.Crc.{crc_step, crc_feed, bits, bits_of, crc_of}
use Rattle.lists.specs.Places.{part}
use Rattle.lateness.specs.Logs.{Call, clock, packet}
use Rattle.events.specs.declared.Event.{Event}
use Rattle.events.specs.Events.{event_at}
use Rattle.watches.specs.Late.{rows_late, table_rows}
use Rattle.header.specs.Header.{header_of}
use Rattle.continuity.specs.Continuity.{counted_of}
use Rattle.sections.specs.Section.{stage_of}
use Rattle.sections.specs.Building.{fed, built}
use Rattle.sections.specs.Outcomes.{crc_wrong, whole_outcome}
use Rattle.programmes.specs.Listing.{is_number, entry_for, read_on, list_of}
use Rattle.programmes.specs.Places.{place_of, places_from}
use Rattle.calls.specs.declared.Core.{Core}
use Rattle.calls.specs.Cores.{fixed_room, room_for, late_of}
use Rattle.calls.specs.Steps.{absorbed_all, sections_taken, step1}
use Rattle.calls.specs.Sound.{times_sound, number_among, entries_sound, rooms_from, state_sound}
use Rattle.calls.specs.Calls.{open_refusal, packet_refusal, clock_refusal, packet_call, clock_call}
use Rattle.examples.specs.Packets.{packet_of, sealed, entry, pat_of, pmt_of, starting, results_from, refusals, events, cores}

-- PACKETS on PID 0: unit start with these payload bytes, and none
abbrev begun : ℕ → ℕ → List ℕ → Call (List ℕ)
begun t n load = packet t (packet_of 0x47 1 0 n load)

abbrev goes_on_lem : ℕ → ℕ → List ℕ → Call (List ℕ)
goes_on_lem t n load = packet t (packet_of 0x47 0 0 n load)

abbrev pat : List ℕ
pat = pat_of (entry 1 0x100)

-- the PAT's gap began at
abbrev pat_since : List (Call (List ℕ)) → List ℕ
pat_since cs = map (λ (c : Core). get_or c.since 0 0) (cores cs)

abbrev pat_half : List (Call (List ℕ)) → List ℕ
pat_half cs = map (λ (c : Core). get_or c.half 0 0) (cores cs)

-- a payload that ends with the first bytes of a section, behind 180 bytes before the pointer's end
abbrev tail3 : List ℕ → List ℕ
tail3 s = 180 ∷ (replicate 180 0xFF ++ s)

-- one section behind another, in one payload
abbrev two : List ℕ → List ℕ → List ℕ
two a b = starting (a ++ b)

abbrev no_events : List Event
no_events = []

pub record Table : Type 0 where
  -- S1: two bytes whose nibble already says 1,024 or more are half-built, and no refusal 5
  pub judged_with_the_third_byte : refusals (begun 0 0 (181 ∷ (replicate 181 0xFF ++ (0x00 ∷ 0xBF ∷ []))) ∷ clock 0 ∷ []) ≡ 0 ∷ 0 ∷ []
  -- S2: the third byte comes before the pointer's end and is bad: the good PAT at the pointer is not read
  pub bad_length_before_the_pointer : events (begun 0 0 (181 ∷ (replicate 181 0xFF ++ (0x00 ∷ 0xBF ∷ []))) ∷ begun 5 1 (1 ∷ 0x00 ∷ pat) ∷ []) ≡ [] ∷ (event_at 5 0x0012 4 0 ∷ []) ∷ []
  -- S2: so the gap goes on
  pub and_no_arrival : pat_since (begun 0 0 (181 ∷ (replicate 181 0xFF ++ (0x00 ∷ 0xBF ∷ []))) ∷ begun 5 1 (1 ∷ 0x00 ∷ pat) ∷ []) ≡ 0 ∷ 0 ∷ []
  -- S3: a unit start with pointer 0 drops the half-built section without an event, and the new one counts
  pub cut_off_is_silent : events (begun 0 0 (tail3 (take 3 pat)) ∷ begun 5 1 (starting pat) ∷ []) ≡ [] ∷ [] ∷ []
  -- S3
  pub and_the_new_one_arrives : pat_since (begun 0 0 (tail3 (take 3 pat)) ∷ begun 5 1 (starting pat) ∷ []) ≡ 0 ∷ 5 ∷ []
  -- S4: behind the end of a continued section, without unit start, nothing begins
  pub nothing_begins_behind_a_section : pat_half (begun 0 0 (tail3 (take 3 pat)) ∷ goes_on_lem 5 1 (drop 3 pat ++ (0x00 ∷ 0xB0 ∷ [])) ∷ []) ≡ 3 ∷ 0 ∷ []
  -- a section over two packets arrives with the second
  pub continued_section_arrives : pat_since (begun 0 0 (tail3 (take 3 pat)) ∷ goes_on_lem 5 1 (drop 3 pat) ∷ []) ≡ 0 ∷ 5 ∷ []
  -- S6: 0xFF where a section would begin ends the reading, also behind another section
  pub stuffing_ends_the_reading : events (begun 5 0 (two pat (0xFF ∷ pmt_of 1)) ∷ []) ≡ no_events ∷ []
  -- S7: table_id 0x73 with indicator 1 and length 5 is too short
  pub two_tests_for_too_short : events (begun 5 0 (starting (0x73 ∷ 0xB0 ∷ 0x05 ∷ [])) ∷ []) ≡ (event_at 5 0x0012 4 0 ∷ []) ∷ []
  -- CRC_32 wrong: cause 0, nothing else derived
  pub torn_section : events (begun 5 0 (starting (take 12 pat ++ (0 ∷ 0 ∷ 0 ∷ 0 ∷ []))) ∷ []) ≡ (event_at 5 0x0012 0 0 ∷ []) ∷ []
  -- S9: another table_id on PID 0
  pub foreign_table_on_pid_0 : events (begun 5 0 (starting (pmt_of 1)) ∷ []) ≡ (event_at 5 0x0009 2 0 ∷ []) ∷ []
  -- S10: a PAT with current_next_indicator 0 says nothing: no arrival, no list
  pub not_yet_current_lem : pat_since (begun 5 0 (starting (sealed (0x00 ∷ 0xB0 ∷ 0x0D ∷ 0x00 ∷ 0x01 ∷ 0xC0 ∷ 0x00 ∷ 0x00 ∷ entry 1 0x100))) ∷ []) ≡ 0 ∷ []

pub table : Table
unfolding results_from packet_call clock_call packet_refusal clock_refusal open_refusal state_sound times_sound entries_sound number_among rooms_from late_of rows_late table_rows room_for fixed_room place_of step1 sections_taken absorbed_all built fed stage_of part whole_outcome crc_wrong crc_of crc_feed crc_step bits bits_of header_of counted_of list_of read_on is_number entry_for places_from
table =
    record {
      judged_with_the_third_byte = refl;
      bad_length_before_the_pointer = refl;
      and_no_arrival = refl;
      cut_off_is_silent = refl;
      and_the_new_one_arrives = refl;
      nothing_begins_behind_a_section = refl;
      continued_section_arrives = refl;
      stuffing_ends_the_reading = refl;
      two_tests_for_too_short = refl;
      torn_section = refl;
      foreign_table_on_pid_0 = refl;
      not_yet_current_lem = refl;
    }
