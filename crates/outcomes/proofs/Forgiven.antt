-- Errors an engineer would forgive, and we do not: document 01, the heading of that name, each shown not to meet the promise of probe::packet
-- and probe::clock. A row says of all outcomes of its kind that they do not meet it. Assumes nothing.
use mathlib.Core.Path.{◌≡◌, refl, sym, ap, ◌∙◌}
use mathlib.Core.List.{List, [], ◌∷◌, ◌++◌}
use Prim.Native.Nat.{ℕ}
use native.Mathlib.Omega.{arith}
use lib.ListN.{length}
use Rattle.crc.specs.Crc.{crc_step, crc_feed, bits, bits_of, crc_of}
use Rattle.lists.specs.Places.{part}
use Rattle.lateness.specs.Logs.{Call, clock}
use Rattle.events.specs.declared.Event.{Event}
use Rattle.events.specs.Events.{event_at}
use Rattle.events.specs.Capacity.{least_capacity}
use Rattle.watches.specs.Late.{rows_late, table_rows}
use Rattle.header.specs.Header.{header_of}
use Rattle.continuity.specs.Continuity.{counted_of}
use Rattle.sections.specs.Section.{stage_of}
use Rattle.sections.specs.Building.{fed, built}
use Rattle.sections.specs.Outcomes.{crc_wrong, whole_outcome}
use Rattle.programmes.specs.Places.{place_of, places_from}
use Rattle.programmes.specs.Listing.{is_number, entry_for, read_on, list_of}
use Rattle.calls.specs.Steps.{absorbed_all, sections_taken, step1}
use Rattle.calls.specs.Sound.{times_sound, number_among, entries_sound, rooms_from, state_sound}
use Rattle.calls.specs.Calls.{packet_refusal, clock_refusal, packet_call, clock_call}
use Rattle.calls.specs.Cores.{fixed_room, room_for, late_of}
use Rattle.demands.specs.Runs.{Given, call_given, asking, after_call}
use Rattle.examples.specs.Packets.{entry}
use Rattle.outcomes.specs.Engines.{Outcome, Meets, events_in, next, start, records, pat_at, pmt_at, plain_at}
use Rattle.outcomes.proofs.Calls.{listed, listed_second, listed_third}
use Rattle.outcomes.proofs.WrongEngines.{some_not_none}

-- the PAT's late event, and that of programme 1
abbrev pat_late : ℕ → Event
pat_late t = event_at t 0x0009 1 0

abbrev pmt_late : ℕ → Event
pmt_late t = event_at t 0x000F 1 1

-- programmes 1 and 2 share a PID
abbrev shared : ℕ → Call (List ℕ)
shared t = pat_at t (entry 1 0x100 ++ entry 2 0x100)

abbrev after : Call (List ℕ) → Given
after c = after_call start (asking least_capacity c)

record Defined : Type 0 where
  discovered : (call_given least_capacity start (clock 20_000_000)).events ≡ pat_late 13_500_000 ∷ []
  late : (call_given least_capacity start (clock 13_500_001)).events ≡ pat_late 13_500_000 ∷ []
  given_once : (call_given least_capacity (after (clock 13_500_001)) (clock 13_500_002)).events ≡ []
  still_late : (call_given least_capacity (after (plain_at 10)) (clock 13_500_001)).events ≡ pat_late 13_500_000 ∷ []
  other_programme : (call_given least_capacity (after_call (after (shared 1)) (asking least_capacity (pmt_at 5 2))) (clock 13_500_003)).events
      ≡ pat_late 13_500_001 ∷ pmt_late 13_500_001 ∷ []

defined : Defined
unfolding packet_call clock_call packet_refusal clock_refusal state_sound times_sound entries_sound number_among rooms_from late_of rows_late table_rows room_for fixed_room place_of step1 sections_taken absorbed_all built fed stage_of part whole_outcome crc_wrong crc_of crc_feed crc_step bits bits_of header_of counted_of list_of read_on is_number entry_for places_from
defined =
    record {
      discovered = refl;
      late = refl;
      given_once = refl;
      still_late = refl;
      other_programme = refl;
    }

pub record NoForgivenError : Type 0 where
  -- any packet on PID 0 ends the PAT gap
  pub any_packet_ends_the_gap : (o o' : Outcome) → Meets start (plain_at 10) records o → Meets (next start (plain_at 10) o) (clock 13_500_001) records o'
      → events_in o' ≡ [] → ⊥
  -- late events stamped with the discovering call's time
  pub stamped_at_discovery : (o : Outcome) → Meets start (clock 20_000_000) records o → events_in o ≡ pat_late 20_000_000 ∷ [] → ⊥
  -- or given again at each call
  pub given_again : (o o' : Outcome) → Meets start (clock 13_500_001) records o
      → Meets (next start (clock 13_500_001) o) (clock 13_500_002) records o' → events_in o' ≡ events_in o → ⊥
  -- a PMT counted by table_id alone where two programmes share a PID: the PMT of programme 2 ends the gap of programme 1
  pub pmt_by_table_id : (o₁ o₂ o₃ : Outcome) → Meets start (shared 1) records o₁ → Meets (next start (shared 1) o₁) (pmt_at 5 2) records o₂
      → Meets (next (next start (shared 1) o₁) (pmt_at 5 2) o₂) (clock 13_500_003) records o₃ → events_in o₃ ≡ pat_late 13_500_001 ∷ [] → ⊥

-- one event is not another, and not two
stamps_apart : (s t : ℕ) (l : List Event) → l ≡ pat_late s ∷ [] → l ≡ pat_late t ∷ [] → s ≡ t
stamps_apart s t l p q = ap stamp_of (sym p ∙ q)
  where
    stamp_of : List Event → ℕ
    stamp_of [] = 0
    stamp_of (e ∷ es) = e.stamp

two_not_one : (a b c : Event) (l : List Event) → l ≡ a ∷ b ∷ [] → l ≡ c ∷ [] → ⊥
two_not_one a b c l p q = absurd (omega (arith, ap length (sym p ∙ q)))

pub no_forgiven_error : NoForgivenError
no_forgiven_error =
    record {
      any_packet_ends_the_gap = λ o o' m m'.
          some_not_none (pat_late 13_500_000) (events_in o') (listed_second start records (plain_at 10) (clock 13_500_001) o o' m m' ∙ defined.still_late);
      stamped_at_discovery = λ o m e.
          absurd (omega (arith, stamps_apart 13_500_000 20_000_000 (events_in o) (listed start records o (clock 20_000_000) m ∙ defined.discovered) e));
      given_again = λ o o' m m' e.
          some_not_none (pat_late 13_500_000) (events_in o) (listed start records o (clock 13_500_001) m ∙ defined.late)
          (sym e ∙ listed_second start records (clock 13_500_001) (clock 13_500_002) o o' m m' ∙ defined.given_once);
      pmt_by_table_id = λ o₁ o₂ o₃ m₁ m₂ m₃.
          two_not_one (pat_late 13_500_001) (pmt_late 13_500_001) (pat_late 13_500_001) (events_in o₃)
          (listed_third start records (shared 1) (pmt_at 5 2) o₁ o₂ m₁ m₂ (clock 13_500_003) o₃ m₃ ∙ defined.other_programme);
    }
