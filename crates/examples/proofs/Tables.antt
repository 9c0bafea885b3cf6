-- Worked examples of docs/DECISIONS.md: the tables of each PID, shared PIDs, and what refusal 5 judges. Assumes nothing.
use mathlib.Core.Path.{◌≡◌, refl}
use mathlib.Core.Bool.{false}
use mathlib.Core.List.{List, [], ◌∷◌, ◌++◌, map}
use Prim.Native.Nat.{ℕ, suc, ◌-◌, ◌^◌}
use lib.ListN.{length, get_or, set, replicate}
use Rattle.crc.specs.Crc.{crc_step, crc_feed, bits, bits_of, crc_of}
use Rattle.lists.specs.Places.{part}
use Rattle.lateness.specs.Logs.{Call, packet}
use Rattle.events.specs.declared.Event.{Event}
use Rattle.events.specs.Events.{event_at}
use Rattle.events.specs.Capacity.{least_capacity}
use Rattle.watches.specs.declared.Entry.{Entry}
use Rattle.watches.specs.Tables.{no_entry}
use Rattle.watches.specs.Late.{rows_late, table_rows}
use Rattle.header.specs.Header.{header_of}
use Rattle.continuity.specs.Continuity.{counted_of}
use Rattle.sections.specs.Section.{stage_of}
use Rattle.sections.specs.Building.{fed, built}
use Rattle.sections.specs.Outcomes.{crc_wrong, whole_outcome}
use Rattle.sections.specs.Rooms.{room_count}
use Rattle.programmes.specs.Listing.{is_number, entry_for, read_on, list_of}
use Rattle.programmes.specs.Places.{place_of, places_from}
use Rattle.calls.specs.declared.Core.{Core}
use Rattle.calls.specs.declared.State.{State}
use Rattle.calls.specs.Cores.{fixed_room, room_for, late_of, opened_state}
use Rattle.calls.specs.Steps.{absorbed_all, sections_taken, step1}
use Rattle.calls.specs.Sound.{times_sound, number_among, entries_sound, rooms_from, state_sound}
use Rattle.calls.specs.Calls.{open_refusal, packet_refusal, clock_refusal, packet_call, clock_call}
use Rattle.examples.specs.Packets.{packet_of, entry, pat_of, long_table, short_table, starting, results_from, events, cores}

-- PACKETS
abbrev begun : ℕ → ℕ → ℕ → List ℕ → Call (List ℕ)
begun t pid n s = packet t (packet_of 0x47 1 pid n (starting s))

abbrev arrived : ℕ → List (Call (List ℕ)) → List ℕ
arrived k cs = map (λ (c : Core). get_or c.since k 0) (cores cs)

-- the last byte of the CRC_32 changed
abbrev torn : List ℕ → List ℕ
torn s = set s (length s - 1) 0x00

abbrev listed_twice : Call (List ℕ)
listed_twice = begun 1 0 0 (pat_of (entry 1 0x100 ++ entry 2 0x100))

abbrev scrambled_pmt : Call (List ℕ)
scrambled_pmt = packet 2 (0x47 ∷ 0x01 ∷ 0x00 ∷ 0x90 ∷ replicate 184 0)

abbrev quiet : List Event
quiet = []

-- STATES that are handed in: the opening's, with one thing changed
abbrev forged : ℕ → List ℕ → ℕ → Entry → List ℕ → State
forged latest since count e half =
    record {
      latest = latest;
      core = record { lost = false; run = 0; since = since; count = count; entries = e ∷ replicate 15 no_entry; half = half };
    }

abbrev gaps : List ℕ
gaps = replicate 5 0

abbrev no_half : List ℕ
no_half = replicate room_count 0

abbrev programme : ℕ → ℕ → ℕ → Entry
programme n q s = record { number = n; pid = q; since = s }

-- the half-built lengths with three bytes in the last PMT room, whose PID is not listed
abbrev last_half : List ℕ
last_half = set no_half 20 3

-- section memory that says section_length 0x3FF, above 1,021, there
abbrev memory : List ℕ
memory = replicate 23552 0 ++ (0x02 ∷ 0xB3 ∷ 0xFF ∷ replicate 1021 0)

abbrev clock_on : State → List ℕ → ℕ
clock_on s m = clock_refusal s 9 m least_capacity

pub record Table : Type 0 where
  -- S8: NIT other and SDT other on their PIDs end no gap and give nothing; a torn section of any table_id is seen
  pub foreign_tables_are_silent : events (begun 5 0x10 0 (long_table 0x41) ∷ begun 5 0x11 0 (long_table 0x46) ∷ []) ≡ quiet ∷ quiet ∷ []
  pub and_end_no_gap : arrived 1 (begun 5 0x10 0 (long_table 0x41) ∷ begun 6 0x10 1 (long_table 0x40) ∷ []) ≡ 0 ∷ 6 ∷ []
  pub torn_foreign_table : events (begun 5 0x10 0 (torn (long_table 0x41)) ∷ []) ≡ (event_at 5 0x0012 0 0x10 ∷ []) ∷ []
  -- S8: table_id 0x73 has its CRC_32 judged with indicator 0 too
  pub torn_time_offset : events (begun 5 0x14 0 (short_table 0x73 9) ∷ []) ≡ (event_at 5 0x0012 0 0x14 ∷ []) ∷ []
  -- S11: a TDT has indicator 0 and section_length 5 exactly
  pub tdt_of_length_5 : arrived 4 (begun 5 0x14 0 (short_table 0x70 6) ∷ begun 6 0x14 1 (long_table 0x70) ∷ begun 7 0x14 2 (short_table 0x70 5) ∷ []) ≡ 0 ∷ 0 ∷ 7 ∷ []
  -- S12: EIT other ends nothing, EIT p/f actual does
  pub eit_actual_alone : arrived 3 (begun 5 0x12 0 (long_table 0x4F) ∷ begun 6 0x12 1 (long_table 0x50) ∷ begun 7 0x12 2 (long_table 0x4E) ∷ []) ≡ 0 ∷ 0 ∷ 7 ∷ []
  -- K7: one event with the PID, though two programmes share it
  pub scrambled_once : events (listed_twice ∷ scrambled_pmt ∷ []) ≡ quiet ∷ (event_at 2 0x000F 3 0x100 ∷ []) ∷ []
  pub foreign_table_once : events (listed_twice ∷ begun 2 0x100 0 (long_table 0x03) ∷ []) ≡ quiet ∷ (event_at 2 0x000F 2 0x100 ∷ []) ∷ []
  -- C1: what the paper names is judged: times, the listed entries, every half-built length
  pub a_gap_start_too_late : clock_on (forged 5 (set gaps 4 (suc (2 ^ 62))) 0 no_entry no_half) [] ≡ 5
  pub a_listed_number_0 : clock_on (forged 5 gaps 1 (programme 0 0x100 0) no_half) [] ≡ 5
  pub a_listed_pid_001f : clock_on (forged 5 gaps 1 (programme 1 0x001F 0) no_half) [] ≡ 5
  pub a_listed_pid_1fff : clock_on (forged 5 gaps 1 (programme 1 0x1FFF 0) no_half) [] ≡ 5
  pub bytes_of_an_unlisted_place : clock_on (forged 5 gaps 0 no_entry last_half) memory ≡ 5
  -- C1: and nothing else is: a gap start after the latest time, an entry behind the list
  pub a_gap_start_to_come : clock_on (forged 5 (set gaps 4 7) 0 no_entry no_half) [] ≡ 0
  pub an_entry_behind_the_list : clock_on (forged 5 gaps 0 (programme 0 0x1FFF (suc (2 ^ 62))) no_half) [] ≡ 0
  -- C2: the table byte is looked at where the packet is judged no further: a wrong first byte
  pub byte_of_a_wrong_packet : packet_refusal (opened_state 0) 0 (replicate 188 0) (1 ∷ replicate 8191 0) [] least_capacity ≡ 5

pub table : Table
unfolding results_from packet_call clock_call packet_refusal clock_refusal open_refusal state_sound times_sound entries_sound number_among rooms_from late_of rows_late table_rows room_for fixed_room place_of step1 sections_taken absorbed_all built fed stage_of part whole_outcome crc_wrong crc_of crc_feed crc_step bits bits_of header_of counted_of list_of read_on is_number entry_for places_from
table =
    record {
      foreign_tables_are_silent = refl;
      and_end_no_gap = refl;
      torn_foreign_table = refl;
      torn_time_offset = refl;
      tdt_of_length_5 = refl;
      eit_actual_alone = refl;
      scrambled_once = refl;
      foreign_table_once = refl;
      a_gap_start_too_late = refl;
      a_listed_number_0 = refl;
      a_listed_pid_001f = refl;
      a_listed_pid_1fff = refl;
      bytes_of_an_unlisted_place = refl;
      a_gap_start_to_come = refl;
      an_entry_behind_the_list = refl;
      byte_of_a_wrong_packet = refl;
    }
