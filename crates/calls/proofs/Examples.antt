-- Examples that a wrong definition of a call would break. Assumes nothing.
use mathlib.Core.Path.{◌≡◌, refl}
use mathlib.Core.Bool.{true, false}
use mathlib.Core.List.{List, [], ◌∷◌, ◌++◌}
use Prim.Native.Nat.{ℕ, suc, ◌^◌, ◌-◌}
use lib.ListN.{get_or, replicate}
use Rattle.lists.specs.Places.{part}
use Rattle.events.specs.Events.{event_at}
use Rattle.events.specs.Capacity.{least_capacity}
use Rattle.watches.specs.declared.Entry.{Entry}
use Rattle.header.specs.Header.{header_of}
use Rattle.continuity.specs.Continuity.{counted_of}
use Rattle.sections.specs.Section.{stage_of}
use Rattle.sections.specs.Building.{bad_length, whole, fed, built}
use Rattle.sections.specs.Outcomes.{crc_wrong, whole_outcome}
use Rattle.programmes.specs.Listing.{read_on, list_of}
use Rattle.programmes.specs.Places.{place_of}
use Rattle.calls.specs.Cores.{Held, fixed_room, room_for, opened, opened_state, with_sync}
use Rattle.calls.specs.Sync.{synced_of}
use Rattle.calls.specs.Steps.{arrival, touched, list_events, absorbed_all, sections_taken, step1}
use Rattle.calls.specs.Calls.{packet_refusal}

abbrev held : Held
held = record { core = opened 0; memory = replicate 64 0 }

-- a packet on PID 0 without unit start, and one whose section is not finished
abbrev no_start_lem : List ℕ
no_start_lem = 0x47 ∷ 0x00 ∷ 0x00 ∷ 0x10 ∷ replicate 184 0x00

abbrev unfinished : List ℕ
unfinished = 0x47 ∷ 0x40 ∷ 0x00 ∷ 0x10 ∷ 180 ∷ (replicate 180 0x00 ++ (0x00 ∷ 0xB0 ∷ 0x0D ∷ []))

abbrev programme : ℕ → ℕ → ℕ → Entry
programme n q s = record { number = n; pid = q; since = s }

pub record Table : Type 0 where
  pub no_section_ends_no_gap : get_or (step1 9 no_start_lem (replicate 8 0) held).held.core.since 0 1 ≡ 0
  pub half_a_section_ends_no_gap : get_or (step1 9 unfinished (replicate 8 0) held).held.core.since 0 1 ≡ 0
  pub pmt_of_the_pair : touched 1 0x100 9 (programme 1 0x100 5) ≡ programme 1 0x100 9
  pub pmt_of_another_number : touched 2 0x100 9 (programme 1 0x100 5) ≡ programme 1 0x100 5
  pub pmt_on_another_pid : touched 1 0x200 9 (programme 1 0x100 5) ≡ programme 1 0x100 5
  pub fourth_right_byte : (synced_of true (with_sync true 3 (opened 0))).further ≡ false
  pub fifth_right_byte : (synced_of true (with_sync true 4 (opened 0))).further ≡ true
  pub second_wrong_byte : (synced_of false (with_sync false 1 (opened 0))).faults ≡ 0x000D ∷ 0x000C ∷ []
  pub spare_byte_in_a_list : list_events (arrival 9 0 0) (replicate 13 0x00) (opened 0) ≡ event_at 9 0x0009 4 0x0000 ∷ []
  pub no_list_in_another_table : list_events (arrival 9 1 0x0010) (replicate 13 0x00) (opened 0) ≡ []
  pub events_in_byte_order : (absorbed_all (arrival 9 0 0) (whole (0x72 ∷ 0x70 ∷ 0x00 ∷ []) ∷ bad_length ∷ []) held).events ≡ event_at 9 0x0009 2 0 ∷ event_at 9 0x0012 4 0 ∷ []
  pub three_before_four : packet_refusal (opened_state 0) (suc (2 ^ 62)) (replicate 188 0) (replicate 8192 0) [] (least_capacity - 1) ≡ 3

pub table : Table
unfolding part header_of counted_of stage_of fed built crc_wrong whole_outcome read_on list_of place_of fixed_room room_for absorbed_all sections_taken step1 packet_refusal
table =
    record {
      no_section_ends_no_gap = refl;
      half_a_section_ends_no_gap = refl;
      pmt_of_the_pair = refl;
      pmt_of_another_number = refl;
      pmt_on_another_pid = refl;
      fourth_right_byte = refl;
      fifth_right_byte = refl;
      second_wrong_byte = refl;
      spare_byte_in_a_list = refl;
      no_list_in_another_table = refl;
      events_in_byte_order = refl;
      three_before_four = refl;
    }
