-- Worked examples of docs/DECISIONS.md on steps 1 to 5 and on refusals, computed from the definitions. Assumes nothing.
use mathlib.Core.Path.{◌≡◌, refl}
use mathlib.Core.List.{List, [], ◌∷◌, ◌++◌, map}
use Prim.Native.Nat.{ℕ, suc, ◌+◌, ◌^◌, ◌-◌}
use lib.ListN.{get_or, replicate}
use Rattle.crc.specs.Crc.{crc_step, crc_feed, bits, bits_of, crc_of}
use Rattle.lists.specs.Places.{part}
use Rattle.lateness.specs.Logs.{Call, packet}
use Rattle.events.specs.declared.Event.{Event}
use Rattle.events.specs.Events.{event_at}
use Rattle.events.specs.Capacity.{least_capacity}
use Rattle.watches.specs.Late.{rows_late, table_rows}
use Rattle.header.specs.Header.{header_of}
use Rattle.continuity.specs.Continuity.{counted_of}
use Rattle.sections.specs.Section.{stage_of}
use Rattle.sections.specs.Building.{fed, built}
use Rattle.sections.specs.Outcomes.{crc_wrong, whole_outcome}
use Rattle.programmes.specs.Listing.{is_number, entry_for, read_on, list_of}
use Rattle.programmes.specs.Places.{place_of, places_from}
use Rattle.calls.specs.declared.Core.{Core}
use Rattle.calls.specs.Cores.{fixed_room, room_for, late_of, opened_state}
use Rattle.calls.specs.Steps.{absorbed_all, sections_taken, step1}
use Rattle.calls.specs.Sound.{times_sound, number_among, entries_sound, rooms_from, state_sound}
use Rattle.calls.specs.Calls.{open_refusal, packet_refusal, clock_refusal, packet_call, clock_call, table_size}
use Rattle.examples.specs.Packets.{packet_of, adapted, results_from, events, cores}

-- PACKETS on PID 0x100, which no list holds, and on PID 0
abbrev counted : ℕ → Call (List ℕ)
counted n = packet 0 (packet_of 0x47 0 0x100 n [])

-- control 10 and 11, with a length, a flags byte and a counter
abbrev empty : ℕ → ℕ → ℕ → Call (List ℕ)
empty len flags n = packet 0 (adapted 0x100 2 len flags n [])

abbrev partial : ℕ → ℕ → ℕ → Call (List ℕ)
partial len flags n = packet 0 (adapted 0 3 len flags n [])

abbrev pat_half : List (Call (List ℕ)) → List ℕ
pat_half cs = map (λ (c : Core). get_or c.half 0 0) (cores cs)

-- the first three bytes of a section on PID 0, counter 0
abbrev begins_three : Call (List ℕ)
begins_three = packet 0 (packet_of 0x47 1 0 0 (180 ∷ (replicate 180 0xFF ++ (0x00 ∷ 0xB0 ∷ 0x0D ∷ []))))

abbrev scrambled_on : ℕ → ℕ → Call (List ℕ)
scrambled_on pid n = packet 0 (0x47 ∷ 0 ∷ pid ∷ (0x80 + 16 + n) ∷ replicate 184 0)

abbrev wrong_sync : Call (List ℕ)
wrong_sync = packet 0 (0x46 ∷ 0 ∷ 0 ∷ 0x11 ∷ replicate 184 0)

abbrev jump : ℕ → Event
jump pid = event_at 0 0x000E 0 pid

abbrev quiet : List Event
quiet = []

-- forged states: the opening's, with one thing changed
abbrev zeros : List ℕ
zeros = replicate table_size 0

abbrev refusal_of : ℕ → List ℕ → List ℕ → ℕ → ℕ
refusal_of t p counters room = packet_refusal (opened_state 5) t p counters [] room

pub record Table : Type 0 where
  -- K1: control 11 with a wrong length drops the half-built section also where the counter makes it a repeat
  pub repeat_with_wrong_length : pat_half (begins_three ∷ partial 183 0 0 ∷ []) ≡ 3 ∷ 0 ∷ []
  -- K5: a repeat keeps it
  pub repeat_keeps : pat_half (begins_three ∷ partial 182 0 0 ∷ []) ≡ 3 ∷ 3 ∷ []
  -- K2: the discontinuity indicator with the last counter is no repeat: the payload is taken
  pub indicator_before_counter : pat_half (begins_three ∷ partial 10 0x80 0 ∷ []) ≡ 3 ∷ 0 ∷ []
  -- length 0 has no discontinuity indicator: an equal counter is a repeat
  pub indicator_with_length_0 : pat_half (begins_three ∷ partial 0 0x80 0 ∷ []) ≡ 3 ∷ 3 ∷ []
  -- K3: a PID first seen by control 10 is seen
  pub seen_by_control_10 : events (empty 183 0 4 ∷ counted 6 ∷ []) ≡ quiet ∷ (jump 0x100 ∷ []) ∷ []
  -- K4: under control 10 the next counter is another one
  pub control_10_next_counter : events (counted 4 ∷ empty 183 0 5 ∷ []) ≡ quiet ∷ (jump 0x100 ∷ []) ∷ []
  -- K4: an equal one keeps 48+c, so the next equal one is again
  pub control_10_equal_keeps_the_repeat : events (counted 4 ∷ counted 4 ∷ empty 183 0 4 ∷ counted 4 ∷ []) ≡ quiet ∷ quiet ∷ quiet ∷ (jump 0x100 ∷ []) ∷ []
  -- K6: scrambling is judged on repeats too
  pub scrambled_repeat : events (scrambled_on 0 1 ∷ scrambled_on 0 1 ∷ []) ≡ (event_at 0 0x0009 3 0 ∷ []) ∷ (event_at 0 0x0009 3 0 ∷ []) ∷ []
  -- and gives no event elsewhere
  pub scrambled_elsewhere : events (scrambled_on 0x21 1 ∷ []) ≡ quiet ∷ []
  -- K9: 0x000E stands before cause 3
  pub continuity_before_scrambling : events (scrambled_on 0 1 ∷ scrambled_on 0 5 ∷ []) ≡ (event_at 0 0x0009 3 0 ∷ []) ∷ (jump 0 ∷ event_at 0 0x0009 3 0 ∷ []) ∷ []
  -- K8: one wrong byte keeps every half-built section, the second drops them
  pub one_wrong_byte_keeps : pat_half (begins_three ∷ wrong_sync ∷ wrong_sync ∷ []) ≡ 3 ∷ 3 ∷ 0 ∷ []
  -- K8: the transport error bit is looked at before PID 0x1FFF
  pub error_before_null : events (packet 0 (0x47 ∷ 0x9F ∷ 0xFF ∷ 0x10 ∷ replicate 184 0) ∷ []) ≡ (event_at 0 0x0011 0 0x1FFF ∷ []) ∷ []
  -- C1: all that is wrong at once, and then each put right in turn
  pub lowest_number_wins : refusal_of 4 [] [] 0 ∷ refusal_of (suc (2 ^ 62)) (replicate 188 0) [] 0 ∷ refusal_of (suc (2 ^ 62)) (replicate 188 0) zeros (least_capacity - 1) ∷ refusal_of (suc (2 ^ 62)) (replicate 188 0) zeros least_capacity ∷ refusal_of 4 (replicate 188 0) (1 ∷ replicate 8191 0) least_capacity ∷ refusal_of 4 (replicate 188 0) zeros least_capacity ∷ refusal_of 5 (replicate 188 0) zeros least_capacity ∷ [] ≡ 1 ∷ 2 ∷ 3 ∷ 4 ∷ 5 ∷ 6 ∷ 0 ∷ []
  -- opening: 2 before 4
  pub table_before_time : open_refusal (suc (2 ^ 62)) [] ∷ open_refusal (suc (2 ^ 62)) zeros ∷ open_refusal (2 ^ 62) zeros ∷ [] ≡ 2 ∷ 4 ∷ 0 ∷ []

pub table : Table
unfolding results_from packet_call clock_call packet_refusal clock_refusal open_refusal state_sound times_sound entries_sound number_among rooms_from late_of rows_late table_rows room_for fixed_room place_of step1 sections_taken absorbed_all built fed stage_of part whole_outcome crc_wrong crc_of crc_feed crc_step bits bits_of header_of counted_of list_of read_on is_number entry_for places_from
table =
    record {
      repeat_with_wrong_length = refl;
      repeat_keeps = refl;
      indicator_before_counter = refl;
      indicator_with_length_0 = refl;
      seen_by_control_10 = refl;
      control_10_next_counter = refl;
      control_10_equal_keeps_the_repeat = refl;
      scrambled_repeat = refl;
      scrambled_elsewhere = refl;
      continuity_before_scrambling = refl;
      one_wrong_byte_keeps = refl;
      error_before_null = refl;
      lowest_number_wins = refl;
      table_before_time = refl;
    }
