-- The boundary examples of document 01, P1 to P10, as one table, computed from the definitions themselves. Assumes nothing.
use mathlib.Core.Path.{◌≡◌, refl}
use mathlib.Core.List.{List, [], ◌∷◌, ◌++◌, map}
use Prim.Native.Nat.{ℕ, zero, suc, ◌+◌}
use lib.ListN.{get_or, replicate}
use Rattle.crc.specs.Crc.{crc_step, crc_feed, bits, bits_of, crc_of}
use Rattle.lists.specs.Places.{part}
use Rattle.lateness.specs.Logs.{Call, clock, packet}
use Rattle.events.specs.declared.Event.{Event}
use Rattle.events.specs.Events.{event_at}
use Rattle.severity.specs.declared.Verdict.{Verdict}
use Rattle.severity.specs.Severity.{severity_of}
use Rattle.watches.specs.Late.{rows_late, table_rows}
use Rattle.header.specs.Header.{header_of}
use Rattle.continuity.specs.Continuity.{counted_of}
use Rattle.sections.specs.Section.{stage_of}
use Rattle.sections.specs.Building.{fed, built}
use Rattle.sections.specs.Outcomes.{crc_wrong, whole_outcome}
use Rattle.programmes.specs.Listing.{is_number, entry_for, read_on, list_of}
use Rattle.programmes.specs.Places.{place_of, places_from}
use Rattle.calls.specs.declared.Core.{Core}
use Rattle.calls.specs.Cores.{fixed_room, room_for, late_of}
use Rattle.calls.specs.Steps.{absorbed_all, sections_taken, step1}
use Rattle.calls.specs.Sound.{times_sound, number_among, entries_sound, rooms_from, state_sound}
use Rattle.calls.specs.Calls.{packet_refusal, clock_refusal, packet_call, clock_call}
use Rattle.examples.specs.Packets.{packet_of, entry, pat_of, starting, results_from, refusals, events, cores}

-- PACKETS
abbrev pat_at : ℕ → Call (List ℕ)
pat_at t = packet t (packet_of 0x47 1 0 0 (starting (pat_of [])))

abbrev wrong_sync : Call (List ℕ)
wrong_sync = packet 0 (packet_of 0x00 0 0x100 0 [])

-- with the error bit set, so that it shows whether a packet is judged
abbrev erroneous : Call (List ℕ)
erroneous = packet 0 (packet_of 0x47 2 0x100 0 [])

abbrev counted : ℕ → Call (List ℕ)
counted n = packet 0 (packet_of 0x47 0 0x100 n [])

-- a pointer p, and behind it bytes that are no stuffing
abbrev pointing : ℕ → Call (List ℕ)
pointing p = packet 0 (packet_of 0x47 1 0 0 (p ∷ replicate 183 0x00))

abbrev entries_up_to : ℕ → List ℕ
entries_up_to zero = []
entries_up_to (suc n) = entries_up_to n ++ entry (suc n) (0x100 + n)

abbrev seventeen : Call (List ℕ)
seventeen = packet 7 (packet_of 0x47 1 0 0 (starting (pat_of (entries_up_to 17))))

abbrev classed : ℕ → ℕ → ℕ → Verdict
classed set number worst = record { refusal = 0; set = set; number = number; worst = worst }

abbrev pat_late : Event
pat_late = event_at 13_500_000 0x0009 1 0

pub record Table : Type 0 where
  pub p1 : refusals (packet 0 (replicate 187 0x47) ∷ packet 0 (replicate 189 0x47) ∷ []) ≡ 1 ∷ 1 ∷ []
  pub p2 : refusals (clock 5 ∷ clock 5 ∷ clock 4 ∷ []) ≡ 0 ∷ 0 ∷ 6 ∷ []
  pub p3_silent : events (pat_at 13_500_000 ∷ []) ≡ [] ∷ []
  pub p3_late : events (pat_at 13_500_001 ∷ []) ≡ (pat_late ∷ []) ∷ []
  pub p4 : events (clock 13_500_000 ∷ clock 20_000_000 ∷ clock 30_000_000 ∷ pat_at 40_000_000 ∷ []) ≡ [] ∷ (pat_late ∷ []) ∷ [] ∷ [] ∷ []
  pub p5 : events (wrong_sync ∷ wrong_sync ∷ wrong_sync ∷ [])
      ≡ (event_at 0 0x000D 0 0x100 ∷ []) ∷ (event_at 0 0x000D 0 0x100 ∷ event_at 0 0x000C 0 0x100 ∷ []) ∷ [] ∷ []
  pub p6 : events (wrong_sync ∷ wrong_sync ∷ erroneous ∷ erroneous ∷ erroneous ∷ erroneous ∷ erroneous ∷ [])
      ≡ (event_at 0 0x000D 0 0x100 ∷ []) ∷ (event_at 0 0x000D 0 0x100 ∷ event_at 0 0x000C 0 0x100 ∷ []) ∷ [] ∷ [] ∷ [] ∷ [] ∷ (event_at 0 0x0011 0 0x100 ∷ []) ∷ []
  pub p7_follows : events (counted 15 ∷ counted 0 ∷ []) ≡ [] ∷ [] ∷ []
  pub p7_repeats : events (counted 3 ∷ counted 3 ∷ []) ≡ [] ∷ [] ∷ []
  pub p7_repeats_again : events (counted 3 ∷ counted 3 ∷ counted 3 ∷ []) ≡ [] ∷ [] ∷ (event_at 0 0x000E 0 0x100 ∷ []) ∷ []
  pub p7_jumps : events (counted 3 ∷ counted 5 ∷ []) ≡ [] ∷ (event_at 0 0x000E 0 0x100 ∷ []) ∷ []
  pub p8_usable : map (λ (c : Core). get_or c.half 0 0) (cores (pointing 182 ∷ [])) ≡ 1 ∷ []
  pub p8_unusable : map (λ (c : Core). get_or c.half 0 0) (cores (pointing 183 ∷ [])) ≡ 0 ∷ []
  pub p9_silent : severity_of 1 10_800_000 ≡ classed 0 0 0
  pub p9_above : severity_of 1 10_800_001 ≡ classed 1 1 1
  pub p9_absent : severity_of 1 54_000_001 ≡ classed 15 4 8
  pub p10_cause : events (seventeen ∷ []) ≡ (event_at 7 0x0009 4 0 ∷ []) ∷ []
  pub p10_watched : map (λ (c : Core). c.count) (cores (seventeen ∷ [])) ≡ 16 ∷ []

pub table : Table
unfolding results_from packet_call clock_call packet_refusal clock_refusal state_sound times_sound entries_sound number_among rooms_from late_of rows_late table_rows room_for fixed_room place_of step1 sections_taken absorbed_all built fed stage_of part whole_outcome crc_wrong crc_of crc_feed crc_step bits bits_of header_of counted_of list_of read_on is_number entry_for places_from severity_of
table =
    record {
      p1 = refl;
      p2 = refl;
      p3_silent = refl;
      p3_late = refl;
      p4 = refl;
      p5 = refl;
      p6 = refl;
      p7_follows = refl;
      p7_repeats = refl;
      p7_repeats_again = refl;
      p7_jumps = refl;
      p8_usable = refl;
      p8_unusable = refl;
      p9_silent = refl;
      p9_above = refl;
      p9_absent = refl;
      p10_cause = refl;
      p10_watched = refl;
    }
