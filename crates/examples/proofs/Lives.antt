-- A log in which a programme's watch begins, ends late and returns, from the definitions: between its accepted calls stand some that are refused
-- with 2, 3 and 5 for what they are lent, the watch has two lives, and by demand 3 the calls hand over the late event of each. Assumes nothing.
use mathlib.Core.Path.{◌≡◌, refl, ap, ◌∙◌}
use mathlib.Core.List.{List, [], ◌∷◌, ◌++◌, map}
use Prim.Native.Nat.{ℕ, suc}
use native.Mathlib.Omega.{arith}
use lib.ListN.{replicate}
use Rattle.lateness.specs.Gaps.{lived, judged}
use Rattle.crc.specs.Crc.{crc_step, crc_feed, bits, bits_of, crc_of}
use Rattle.lists.specs.Places.{part}
use Rattle.lateness.specs.Logs.{Call, clock, packet}
use Rattle.events.specs.Faults.{late}
use Rattle.events.specs.Events.{event_at}
use Rattle.events.specs.Capacity.{least_capacity}
use Rattle.watches.specs.Late.{rows_late, table_rows}
use Rattle.header.specs.Header.{header_of}
use Rattle.continuity.specs.Continuity.{counted_of}
use Rattle.sections.specs.Section.{stage_of}
use Rattle.sections.specs.Building.{fed, built}
use Rattle.sections.specs.Outcomes.{crc_wrong, whole_outcome}
use Rattle.sections.specs.Rooms.{memory_size}
use Rattle.programmes.specs.Places.{place_of, places_from}
use Rattle.programmes.specs.Listing.{is_number, entry_for, read_on, list_of}
use Rattle.calls.specs.Steps.{absorbed_all, sections_taken, step1}
use Rattle.calls.specs.Sound.{times_sound, number_among, entries_sound, rooms_from, state_sound}
use Rattle.calls.specs.Calls.{Result, open_refusal, packet_refusal, clock_refusal, packet_call, clock_call, table_size}
use Rattle.calls.specs.Cores.{fixed_room, room_for, late_of}
use Rattle.examples.specs.Packets.{packet_of, entry, pat_of, pmt_of, starting}
use Rattle.demands.specs.Runs.{Given, other, Asked, asking, results, OwnTable, taken, calls_of, opening, Opened}
use Rattle.demands.specs.Listening.{paired, room_on, heard_all, listen1}
use Rattle.demands.specs.Judgements.{fixed, programme, limits_of, live_late, lives_of, other_late}
use Rattle.demands.proofs.Agreement.{demand_3}

abbrev pat_at : ℕ → ℕ → List ℕ → Call (List ℕ)
pat_at t n es = packet t (packet_of 0x47 1 0 n (starting (pat_of es)))

abbrev pmt_at : ℕ → ℕ → ℕ → ℕ → Call (List ℕ)
pmt_at t pid n number = packet t (packet_of 0x47 1 pid n (starting (pmt_of number)))

-- programme 1 on PID 0x100 is listed at 1 and arrives at 5; pages under another number, and on another PID, are not its own; the list of
-- 13,500,010 lacks it, that of 20,000,000 has it again
abbrev pub accepted : List (Call (List ℕ))
accepted =
    pat_at 1 0 (entry 1 0x100)
    ∷ pmt_at 5 0x100 0 1
    ∷ pmt_at 6 0x100 1 2
    ∷ pmt_at 7 0x200 0 1
    ∷ pat_at 13_500_010 1 (entry 2 0x200)
    ∷ pat_at 20_000_000 2 (entry 2 0x200 ++ entry 1 0x100)
    ∷ clock 33_500_000
    ∷ clock 33_500_001
    ∷ []

-- lent another counter table: one byte short, or of unknown bytes
abbrev astray : ℕ → ℕ → Call (List ℕ) → Asked
astray n b c = record { capacity = least_capacity; table = other (replicate n b); call = c }

-- the same calls, and between them the PMT of programme 1 and the clock, lent what is refused
abbrev pub log : List Asked
log =
    asking least_capacity (pat_at 1 0 (entry 1 0x100))
    ∷ asking least_capacity (pmt_at 5 0x100 0 1)
    ∷ astray 8_191 0 (pmt_at 6 0x100 1 1)
    ∷ asking least_capacity (pmt_at 6 0x100 1 2)
    ∷ asking least_capacity (pmt_at 7 0x200 0 1)
    ∷ astray table_size 1 (pmt_at 8 0x100 2 1)
    ∷ asking 95 (clock 40_000_000)
    ∷ asking least_capacity (pat_at 13_500_010 1 (entry 2 0x200))
    ∷ asking least_capacity (pat_at 20_000_000 2 (entry 2 0x200 ++ entry 1 0x100))
    ∷ asking least_capacity (clock 33_500_000)
    ∷ asking least_capacity (clock 33_500_001)
    ∷ []

abbrev pub zeros : List ℕ
zeros = replicate table_size 0

abbrev pub memory : List ℕ
memory = replicate memory_size 0

abbrev pub begun : Given
begun = opening 0 zeros memory

pub record Log : Type 0 where
  pub opens : Opened 0 zeros memory
  pub numbers : map (λ (x : Result). x.refusal) (results begun log) ≡ 0 ∷ 0 ∷ 2 ∷ 0 ∷ 0 ∷ 5 ∷ 3 ∷ 0 ∷ 0 ∷ 0 ∷ 0 ∷ []
  pub table : OwnTable begun log
  pub calls : calls_of (taken begun log) ≡ accepted
  pub two_lives : lives_of (programme 1 0x100) 0 memory accepted ≡ lived 1 (5 ∷ []) 13_500_010 ∷ lived 20_000_000 [] 33_500_001 ∷ []
  pub one_life : lives_of (fixed 0) 0 memory accepted ≡ lived 0 (1 ∷ 13_500_010 ∷ 20_000_000 ∷ []) 33_500_001 ∷ []

-- a number of the table is not 0
above_zero : (n : ℕ) → suc n ≡ 0 → ⊥
above_zero n e = absurd (omega (arith, e))

judged_log : Log
unfolding packet_call clock_call packet_refusal clock_refusal open_refusal state_sound times_sound entries_sound number_among rooms_from late_of rows_late table_rows room_for fixed_room place_of step1 sections_taken absorbed_all built fed stage_of part whole_outcome crc_wrong crc_of crc_feed crc_step bits bits_of header_of counted_of list_of read_on is_number entry_for places_from paired room_on heard_all listen1
judged_log =
    record {
      opens = record { accepted = refl; whole = refl };
      numbers = refl;
      table = (λ e. tt, (λ e. tt, (above_zero 1, (λ e. tt, (λ e. tt, (above_zero 4, (λ e. tt, (λ e. tt, (λ e. tt, (λ e. tt, (λ e. tt, tt)))))))))));
      calls = refl;
      two_lives = refl;
      one_life = refl;
    }

pub record Table : Type 0 where
  -- the gap from 5 ends with the watch, and is late; the gap of its return is late at the second clock call
  pub programme_late : live_late (programme 1 0x100) begun log ≡ event_at 13_500_005 0x000F 1 1 ∷ event_at 33_500_000 0x000F 1 1 ∷ []
  -- the PAT's gaps: 1; 13,500,009, late; 6,499,990; and 13,500,001, late
  pub pat_late_lem : live_late (fixed 0) begun log ≡ event_at 13_500_001 0x0009 1 0 ∷ event_at 33_500_000 0x0009 1 0 ∷ []

pub table : Table
table =
    record {
      programme_late =
          demand_3 (programme 1 0x100) tt 0 zeros memory log judged_log.opens judged_log.table
          ∙ ap (other_late (programme 1 0x100) 0 memory) judged_log.calls
          ∙ ap (λ fs. map (λ x. event_at x 0x000F late 1) (judged (limits_of (programme 1 0x100)) fs)) judged_log.two_lives;
      pat_late_lem =
          demand_3 (fixed 0) (omega arith) 0 zeros memory log judged_log.opens judged_log.table
          ∙ ap (other_late (fixed 0) 0 memory) judged_log.calls
          ∙ ap (λ fs. map (λ x. event_at x 0x0009 late 0) (judged (limits_of (fixed 0)) fs)) judged_log.one_life;
    }
