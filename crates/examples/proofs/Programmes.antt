-- Worked examples of docs/DECISIONS.md on the programme list, computed from the definitions. Assumes nothing.
use mathlib.Core.Path.{◌≡◌, refl}
use mathlib.Core.List.{List, [], ◌∷◌, ◌++◌, map}
use Prim.Native.Nat.{ℕ}
use lib.ListN.{take, drop, replicate}
use Rattle.crc.specs.Crc.{crc_step, crc_feed, bits, bits_of, crc_of}
use Rattle.lists.specs.Places.{part}
use Rattle.lateness.specs.Logs.{Call, packet}
use Rattle.events.specs.Events.{event_at}
use Rattle.watches.specs.declared.Entry.{Entry}
use Rattle.watches.specs.Late.{rows_late, table_rows}
use Rattle.header.specs.Header.{header_of}
use Rattle.continuity.specs.Continuity.{counted_of}
use Rattle.sections.specs.Section.{stage_of}
use Rattle.sections.specs.Building.{fed, built}
use Rattle.sections.specs.Outcomes.{crc_wrong, whole_outcome}
use Rattle.programmes.specs.Listing.{is_number, entry_for, read_on, list_of}
use Rattle.programmes.specs.Places.{place_of, places_from}
use Rattle.calls.specs.declared.Core.{Core}
use Rattle.calls.specs.Cores.{fixed_room, room_for, late_of}
use Rattle.calls.specs.Steps.{absorbed_all, sections_taken, step1}
use Rattle.calls.specs.Sound.{times_sound, number_among, entries_sound, rooms_from, state_sound}
use Rattle.calls.specs.Calls.{open_refusal, packet_refusal, clock_refusal, packet_call, clock_call}
use Rattle.examples.specs.Packets.{packet_of, entry, pat_of, pmt_of, starting, results_from, events, cores}

-- PACKETS
abbrev pat_at : ℕ → ℕ → List ℕ → Call (List ℕ)
pat_at t n es = packet t (packet_of 0x47 1 0 n (starting (pat_of es)))

abbrev pmt_at : ℕ → ℕ → ℕ → ℕ → Call (List ℕ)
pmt_at t pid n number = packet t (packet_of 0x47 1 pid n (starting (pmt_of number)))

-- the listed programmes' numbers, and the starts of their gaps
abbrev numbers : List (Call (List ℕ)) → List (List ℕ)
numbers cs = map (λ (c : Core). map (λ (e : Entry). e.number) (take c.count c.entries)) (cores cs)

abbrev sinces : List (Call (List ℕ)) → List (List ℕ)
sinces cs = map (λ (c : Core). map (λ (e : Entry). e.since) (take c.count c.entries)) (cores cs)

-- a PMT of programme 2 on PID 0x200 in two packets, and between them a list that moves its PID
abbrev first_part : Call (List ℕ)
first_part = packet 2 (packet_of 0x47 1 0x200 0 (170 ∷ (replicate 170 0xFF ++ take 13 (pmt_of 2))))

abbrev rest : ℕ → Call (List ℕ)
rest t = packet t (packet_of 0x47 0 0x200 1 (drop 13 (pmt_of 2)))

pub record Table : Type 0 where
  -- a PMT counts for a programme only on the PID and under the number that the list gives
  pub index_and_pages : sinces (pat_at 1 0 (entry 1 0x100) ∷ pmt_at 5 0x100 0 1 ∷ pmt_at 6 0x100 1 2 ∷ pmt_at 7 0x200 0 1 ∷ []) ≡ (1 ∷ []) ∷ (5 ∷ []) ∷ (5 ∷ []) ∷ (5 ∷ []) ∷ []
  -- two programmes on one PID: each by its own number
  pub shared_pid : sinces (pat_at 1 0 (entry 1 0x100 ++ entry 2 0x100) ∷ pmt_at 5 0x100 0 2 ∷ []) ≡ (1 ∷ 1 ∷ []) ∷ (1 ∷ 5 ∷ []) ∷ []
  -- W7: a PID that stays listed at another place keeps its half-built section
  pub moved_pid_keeps_its_bytes : sinces (pat_at 1 0 (entry 1 0x100 ++ entry 2 0x200) ∷ first_part ∷ pat_at 3 1 (entry 2 0x200) ∷ rest 4 ∷ []) ≡ (1 ∷ 1 ∷ []) ∷ (1 ∷ 1 ∷ []) ∷ (1 ∷ []) ∷ (4 ∷ []) ∷ []
  -- W7: one that leaves loses it, even if it comes back in the same packet
  pub left_pid_loses_its_bytes : sinces (pat_at 1 0 (entry 2 0x200) ∷ first_part ∷ packet 3 (packet_of 0x47 1 0 1 (starting (pat_of [] ++ pat_of (entry 2 0x200)))) ∷ rest 4 ∷ []) ≡ (1 ∷ []) ∷ (1 ∷ []) ∷ (3 ∷ []) ∷ (3 ∷ []) ∷ []
  -- W2: an old number on a new PID is a new pair
  pub new_pid_begins_anew : sinces (pat_at 1 0 (entry 1 0x100) ∷ pat_at 5 1 (entry 1 0x101) ∷ []) ≡ (1 ∷ []) ∷ (5 ∷ []) ∷ []
  -- a pair that was listed before keeps its watch
  pub kept_pair_keeps_its_watch : sinces (pat_at 1 0 (entry 1 0x100) ∷ pat_at 5 1 (entry 7 0x107 ++ entry 1 0x100) ∷ []) ≡ (1 ∷ []) ∷ (5 ∷ 1 ∷ []) ∷ []
  -- W1: a watch that ends in a call has its late event in that call, in the old list's order
  pub ended_late : events (pat_at 1 0 (entry 1 0x100 ++ entry 2 0x200) ∷ pat_at 13_500_000 1 (entry 2 0x200 ++ entry 1 0x100) ∷ pat_at 13_500_002 2 (entry 2 0x200) ∷ []) ≡ [] ∷ [] ∷ (event_at 13_500_001 0x000F 1 2 ∷ event_at 13_500_001 0x000F 1 1 ∷ []) ∷ []
  -- W5: a number seen earlier counts also where that entry was not usable
  pub seen_in_an_unusable_entry : numbers (pat_at 1 0 (entry 1 0x001F ++ entry 1 0x100 ++ entry 2 0x1FFE) ∷ []) ≡ (2 ∷ []) ∷ []
  -- W5: programme 0 is passed over, with any PID and more than once
  pub programme_0_passed_over : events (pat_at 1 0 (entry 0 0x10 ++ entry 0 0x1FFF ++ entry 1 0x100) ∷ []) ≡ [] ∷ []
  -- one to three spare bytes make the list bad
  pub spare_bytes : events (pat_at 1 0 (entry 1 0x100 ++ (0 ∷ [])) ∷ []) ≡ (event_at 1 0x0009 4 0 ∷ []) ∷ []

pub table : Table
unfolding results_from packet_call clock_call packet_refusal clock_refusal open_refusal state_sound times_sound entries_sound number_among rooms_from late_of rows_late table_rows room_for fixed_room place_of step1 sections_taken absorbed_all built fed stage_of part whole_outcome crc_wrong crc_of crc_feed crc_step bits bits_of header_of counted_of list_of read_on is_number entry_for places_from
table =
    record {
      index_and_pages = refl;
      shared_pid = refl;
      moved_pid_keeps_its_bytes = refl;
      left_pid_loses_its_bytes = refl;
      new_pid_begins_anew = refl;
      kept_pair_keeps_its_watch = refl;
      ended_late = refl;
      seen_in_an_unusable_entry = refl;
      programme_0_passed_over = refl;
      spare_bytes = refl;
    }
