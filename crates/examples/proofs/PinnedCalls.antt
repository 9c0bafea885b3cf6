-- What only shows in calls one after the other, each fact one that another reading of the paper would break. Assumes nothing.
use mathlib.Core.Path.{◌≡◌, refl}
use mathlib.Core.List.{List, [], ◌∷◌, ◌++◌, map}
use Prim.Native.Nat.{ℕ, ◌+◌, ◌-◌}
use lib.ListN.{length, get_or, take, drop, replicate}
use Rattle.crc.specs.Crc.{crc_step, crc_feed, bits, bits_of, crc_of}
use Rattle.lists.specs.Places.{part}
use Rattle.lateness.specs.Logs.{Call, clock, packet}
use Rattle.events.specs.declared.Event.{Event}
use Rattle.events.specs.Events.{event_at}
use Rattle.watches.specs.declared.Entry.{Entry}
use Rattle.watches.specs.Late.{rows_late, table_rows}
use Rattle.header.specs.Header.{header_of}
use Rattle.continuity.specs.Continuity.{counted_of}
use Rattle.sections.specs.Section.{stage_of}
use Rattle.sections.specs.Building.{fed, built}
use Rattle.sections.specs.Outcomes.{crc_wrong, whole_outcome}
use Rattle.programmes.specs.Listing.{is_number, entry_for, read_on, list_of}
use Rattle.programmes.specs.Places.{place_of, places_from}
use Rattle.calls.specs.declared.Core.{Core}
use Rattle.calls.specs.Cores.{fixed_room, room_for, late_of}
use Rattle.calls.specs.Steps.{absorbed_all, sections_taken, step1}
use Rattle.calls.specs.Sound.{times_sound, number_among, entries_sound, rooms_from, state_sound}
use Rattle.calls.specs.Calls.{packet_refusal, clock_refusal, packet_call, clock_call}
use Rattle.examples.specs.Packets.{packet_of, sealed, entry, pat_of, pmt_of, long_table, short_table, starting, results_from, events, cores}

-- PACKETS: a unit start with a section at its pointer; what goes on without one
abbrev begun : ℕ → ℕ → ℕ → List ℕ → Call (List ℕ)
begun t pid n s = packet t (packet_of 0x47 1 pid n (starting s))

abbrev goes_on_lem : ℕ → ℕ → ℕ → List ℕ → Call (List ℕ)
goes_on_lem t pid n load = packet t (packet_of 0x47 0 pid n load)

-- the first n bytes of a section, at the end of a payload
abbrev begins_by : ℕ → ℕ → ℕ → ℕ → List ℕ → Call (List ℕ)
begins_by n t pid counter s = packet t (packet_of 0x47 1 pid counter ((183 - n) ∷ (replicate (183 - n) 0x00 ++ take n s)))

-- a unit start under control 11, behind an adaptation field of this length: the rest is the payload
abbrev short_load : ℕ → ℕ → List ℕ → Call (List ℕ)
short_load t n load = packet t (0x47 ∷ 0x40 ∷ 0x00 ∷ (0x30 + n) ∷ (183 - length load) ∷ 0x00 ∷ (replicate (182 - length load) 0xFF ++ load))

abbrev pat : List ℕ
pat = pat_of (entry 1 0x100)

-- a PAT with current_next_indicator 0, whose list is bad: one spare byte
abbrev not_yet_current : List ℕ
not_yet_current = sealed (0x00 ∷ 0xB0 ∷ 0x0E ∷ 0x00 ∷ 0x01 ∷ 0xC0 ∷ 0x00 ∷ 0x00 ∷ (entry 1 0x100 ++ (0x00 ∷ [])))

-- a table with current_next_indicator 0
abbrev next_table : ℕ → List ℕ
next_table id = sealed (id ∷ 0xB0 ∷ 0x09 ∷ 0x00 ∷ 0x01 ∷ 0xC0 ∷ 0x00 ∷ 0x00 ∷ [])

-- what calls leave: when the gaps of the PAT and of the listed programmes began; the half-built length of the PAT's room
abbrev sinces : List (Call (List ℕ)) → List (List ℕ)
sinces cs = map (λ (c : Core). get_or c.since 0 0 ∷ map (λ (e : Entry). e.since) (take c.count c.entries)) (cores cs)

abbrev pat_half : List (Call (List ℕ)) → List ℕ
pat_half cs = map (λ (c : Core). get_or c.half 0 0) (cores cs)

abbrev quiet : List Event
quiet = []

-- the log of a sync loss: two wrong first bytes, then n packets that are not judged
abbrev wrong_sync : Call (List ℕ)
wrong_sync = packet 0 (packet_of 0x46 0 0x100 0 [])

abbrev counted : ℕ → Call (List ℕ)
counted n = packet 0 (packet_of 0x47 0 0x100 n [])

abbrev sync_lost : List (List Event)
sync_lost = quiet ∷ (event_at 0 0x000D 0 0x100 ∷ []) ∷ (event_at 0 0x000D 0 0x100 ∷ event_at 0 0x000C 0 0x100 ∷ []) ∷ quiet ∷ quiet ∷ quiet ∷ quiet ∷ []

pub record Table : Type 0 where
  -- S1: two bytes that rule out a legal length wait for the third, and then give 0x0012 cause 4
  pub third_byte_judges : events (begins_by 2 0 0 0 (0x00 ∷ 0xBF ∷ []) ∷ clock 0 ∷ goes_on_lem 5 0 1 (0xFF ∷ []) ∷ []) ≡ quiet ∷ quiet ∷ (event_at 5 0x0012 4 0 ∷ []) ∷ []
  -- S1: until then they are half-built
  pub two_bytes_are_half_built : pat_half (begins_by 2 0 0 0 (0x00 ∷ 0xBF ∷ []) ∷ clock 0 ∷ goes_on_lem 5 0 1 (0xFF ∷ []) ∷ []) ≡ 2 ∷ 2 ∷ 0 ∷ []
  -- S2: nothing of a section that is too long is swallowed later: the next packet starts clean
  pub clean_after_a_bad_length : sinces (begun 5 0 0 (0x00 ∷ 0xBF ∷ 0xFF ∷ []) ∷ begun 6 0 1 pat ∷ []) ≡ (0 ∷ []) ∷ (6 ∷ 6 ∷ []) ∷ []
  -- S5: the measure is the payload's own length: of 4 bytes, pointer 2 is usable and 3 is not
  pub pointer_of_a_short_payload : pat_half (short_load 0 0 (2 ∷ 7 ∷ 7 ∷ 0x00 ∷ []) ∷ []) ++ pat_half (short_load 0 0 (3 ∷ 7 ∷ 7 ∷ 0x00 ∷ []) ∷ []) ≡ 1 ∷ 0 ∷ []
  -- S5: an unusable pointer drops a section that the payload would have finished: no arrival, and nothing half-built
  pub unusable_pointer_drops : sinces (begins_by 14 5 0 0 pat ∷ short_load 6 1 (2 ∷ drop 14 pat) ∷ []) ≡ (0 ∷ []) ∷ (0 ∷ []) ∷ []
  -- S5: with one byte more the same pointer is usable, and the section arrives
  pub usable_pointer_finishes : sinces (begins_by 14 5 0 0 pat ∷ short_load 6 1 (2 ∷ (drop 14 pat ++ (0xFF ∷ []))) ∷ []) ≡ (0 ∷ []) ∷ (6 ∷ 6 ∷ []) ∷ []
  -- S6: behind a section 0xFF ends the reading: what follows begins no section of another table_id
  pub stuffing_behind_a_section : events (begun 5 0 0 (pat ++ (0xFF ∷ 0x00 ∷ 0x20 ∷ [])) ∷ []) ≡ quiet ∷ []
  -- S9: another table_id on PID 0 gives cause 2 though its current_next_indicator is 0
  pub foreign_and_not_current : events (begun 5 0 0 (next_table 0x02) ∷ []) ≡ (event_at 5 0x0009 2 0 ∷ []) ∷ []
  -- S9: and with indicator 0
  pub foreign_with_indicator_0 : events (begun 5 0 0 (short_table 0x72 5) ∷ []) ≡ (event_at 5 0x0009 2 0 ∷ []) ∷ []
  -- S9: table_id 0x00 with indicator 0 gives no event, whatever its last bytes
  pub pat_with_indicator_0 : events (begun 5 0 0 (short_table 0x00 13) ∷ []) ++ events (begun 5 0 0 (long_table 0x00) ∷ []) ≡ quiet ∷ quiet ∷ []
  -- S9: and is not good
  pub pat_with_indicator_0_ends_no_gap : sinces (begun 5 0 0 (short_table 0x00 13) ∷ begun 6 0 1 (long_table 0x00) ∷ []) ≡ (0 ∷ []) ∷ (6 ∷ []) ∷ []
  -- a PMT with indicator 0: no CRC_32 judged, no event
  pub pmt_with_indicator_0 : events (begun 1 0 0 pat ∷ begun 5 0x100 0 (short_table 0x02 13) ∷ []) ≡ quiet ∷ quiet ∷ []
  -- and it is not good: its gap goes on
  pub pmt_with_indicator_0_ends_no_gap : sinces (begun 1 0 0 pat ∷ begun 5 0x100 0 (0x02 ∷ 0x30 ∷ drop 2 (pmt_of 1)) ∷ begun 6 0x100 1 (pmt_of 1) ∷ []) ≡ (1 ∷ 1 ∷ []) ∷ (1 ∷ 1 ∷ []) ∷ (1 ∷ 6 ∷ []) ∷ []
  -- S10: a PAT that is not yet current gives no cause 4
  pub not_yet_current_no_cause_4 : events (begun 5 0 0 not_yet_current ∷ []) ≡ quiet ∷ []
  -- S10: it ends no gap, and the list stays
  pub not_yet_current_no_list : sinces (begun 1 0 0 (pat_of (entry 2 0x200)) ∷ begun 5 0 1 not_yet_current ∷ []) ≡ (1 ∷ 1 ∷ []) ∷ (1 ∷ 1 ∷ []) ∷ []
  -- K5: a repeat is told by the counter alone: other bytes under the last counter give no event
  pub repeat_of_other_bytes : events (begun 1 0 3 (long_table 0x00) ∷ begun 5 0 3 pat ∷ []) ≡ quiet ∷ quiet ∷ []
  -- K5: and are skipped
  pub repeat_of_other_bytes_skipped : sinces (begun 1 0 3 (long_table 0x00) ∷ begun 5 0 3 pat ∷ []) ≡ (1 ∷ []) ∷ (1 ∷ []) ∷ []
  -- K5: the second repeat keeps the half-built section too, which then goes on
  pub second_repeat_keeps : sinces (begins_by 3 0 0 3 pat ∷ goes_on_lem 1 0 3 [] ∷ goes_on_lem 2 0 3 [] ∷ goes_on_lem 6 0 4 (drop 3 pat) ∷ []) ≡ (0 ∷ []) ∷ (0 ∷ []) ∷ (0 ∷ []) ∷ (6 ∷ 6 ∷ []) ∷ []
  -- K8: the packet that restores sync is judged by the counters from before the loss: the next one is silent
  pub counters_from_before : events (counted 3 ∷ wrong_sync ∷ wrong_sync ∷ counted 9 ∷ counted 9 ∷ counted 9 ∷ counted 9 ∷ counted 4 ∷ []) ≡ sync_lost ++ (quiet ∷ [])
  -- K8: and one that follows the packets that were not judged is a jump
  pub counters_from_before_jump : events (counted 3 ∷ wrong_sync ∷ wrong_sync ∷ counted 5 ∷ counted 6 ∷ counted 7 ∷ counted 8 ∷ counted 9 ∷ []) ≡ sync_lost ++ ((event_at 0 0x000E 0 0x100 ∷ []) ∷ [])
  -- K8: a clock call breaks no run
  pub run_over_a_clock_call : events (wrong_sync ∷ clock 0 ∷ wrong_sync ∷ []) ≡ (event_at 0 0x000D 0 0x100 ∷ []) ∷ quiet ∷ (event_at 0 0x000D 0 0x100 ∷ event_at 0 0x000C 0 0x100 ∷ []) ∷ []
  -- a bad list gives one event, however many things are wrong with it
  pub one_event_of_a_bad_list : events (begun 5 0 0 (pat_of (entry 1 0x001F ++ entry 1 0x100 ++ entry 2 0x1FFF ++ (0 ∷ []))) ∷ []) ≡ (event_at 5 0x0009 4 0 ∷ []) ∷ []
  -- W3: a pair that went and came back begins anew, also between two sections of one packet
  pub went_and_came_back : sinces (begun 1 0 0 pat ∷ begun 5 0 1 (pat_of [] ++ pat) ∷ []) ≡ (1 ∷ 1 ∷ []) ∷ (5 ∷ 5 ∷ []) ∷ []
  -- a PID has no section half-built from before it was listed
  pub half_built_before_it_was_listed : sinces (begins_by 3 0 0x100 0 (pmt_of 1) ∷ begun 1 0 0 pat ∷ goes_on_lem 5 0x100 1 (drop 3 (pmt_of 1)) ∷ []) ≡ (0 ∷ []) ∷ (1 ∷ 1 ∷ []) ∷ (1 ∷ 1 ∷ []) ∷ []

pub table : Table
unfolding results_from packet_call clock_call packet_refusal clock_refusal state_sound times_sound entries_sound number_among rooms_from late_of rows_late table_rows room_for fixed_room place_of step1 sections_taken absorbed_all built fed stage_of part whole_outcome crc_wrong crc_of crc_feed crc_step bits bits_of header_of counted_of list_of read_on is_number entry_for places_from
table =
    record {
      third_byte_judges = refl;
      two_bytes_are_half_built = refl;
      clean_after_a_bad_length = refl;
      pointer_of_a_short_payload = refl;
      unusable_pointer_drops = refl;
      usable_pointer_finishes = refl;
      stuffing_behind_a_section = refl;
      foreign_and_not_current = refl;
      foreign_with_indicator_0 = refl;
      pat_with_indicator_0 = refl;
      pat_with_indicator_0_ends_no_gap = refl;
      pmt_with_indicator_0 = refl;
      pmt_with_indicator_0_ends_no_gap = refl;
      not_yet_current_no_cause_4 = refl;
      not_yet_current_no_list = refl;
      repeat_of_other_bytes = refl;
      repeat_of_other_bytes_skipped = refl;
      second_repeat_keeps = refl;
      counters_from_before = refl;
      counters_from_before_jump = refl;
      run_over_a_clock_call = refl;
      one_event_of_a_bad_list = refl;
      went_and_came_back = refl;
      half_built_before_it_was_listed = refl;
    }
