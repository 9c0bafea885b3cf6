-- Refusals, each at its boundary, and what calls hand back: examples that a wrong definition would break. Assumes nothing.
use mathlib.Core.Path.{◌≡◌, refl}
use mathlib.Core.Bool.{Bool, true, false}
use mathlib.Core.List.{List, [], ◌∷◌, ◌++◌, map}
use Prim.Native.Nat.{ℕ, zero, suc, ◌+◌, ◌^◌}
use lib.ListN.{set, replicate}
use Rattle.lists.specs.Places.{part}
use Rattle.events.specs.declared.Event.{Event}
use Rattle.events.specs.Events.{event_at}
use Rattle.watches.specs.declared.Entry.{Entry}
use Rattle.watches.specs.Tables.{no_entry}
use Rattle.watches.specs.Late.{rows_late, table_rows}
use Rattle.header.specs.Header.{header_of}
use Rattle.continuity.specs.Continuity.{counted_of}
use Rattle.sections.specs.Section.{stage_of}
use Rattle.programmes.specs.Places.{place_of}
use Rattle.calls.specs.declared.State.{State}
use Rattle.calls.specs.Cores.{fixed_room, room_for, late_of, opened_state}
use Rattle.calls.specs.Steps.{step1}
use Rattle.calls.specs.Sound.{greatest_pid, times_sound, number_among, entries_sound, rooms_from, state_sound}
use Rattle.calls.specs.Calls.{Result, table_size, open_refusal, packet_refusal, clock_refusal, open_table, packet_call, clock_call, open_answer, answer_of, handed_over}

-- STATES that are handed in: the opening's at 5, with one thing changed
abbrev programme : ℕ → ℕ → ℕ → Entry
programme n q s = record { number = n; pid = q; since = s }

abbrev state : ℕ → Bool → ℕ → List ℕ → ℕ → List Entry → List ℕ → State
state latest lost run since count entries half =
    record {
      latest = latest;
      core = record { lost = lost; run = run; since = since; count = count; entries = entries; half = half };
    }

abbrev gaps : List ℕ
gaps = replicate 5 0

abbrev no_half : List ℕ
no_half = replicate 21 0

abbrev running : Bool → ℕ → State
running lost run = state 5 lost run gaps 0 (replicate 16 no_entry) no_half

abbrev listing : ℕ → List Entry → State
listing count es = state 5 false 0 gaps count es no_half

-- n programmes, numbered down from n, on PIDs of their own
abbrev programmes : ℕ → List Entry
programmes zero = []
programmes (suc n) = programme (suc n) (0x100 + n) 0 ∷ programmes n

-- half-built bytes s in the room r, which begins at the place at
abbrev building : ℕ → ℕ → State
building r n = state 5 false 0 gaps 0 (replicate 16 no_entry) (set no_half r n)

abbrev memory : ℕ → List ℕ → List ℕ
memory at s = replicate at 0 ++ s

-- THE NUMBERS
abbrev packet : List ℕ
packet = 0x47 ∷ replicate 187 0

abbrev on_pid0x100 : List ℕ
on_pid0x100 = 0x47 ∷ 0x01 ∷ replicate 186 0

abbrev zeros : List ℕ
zeros = replicate 8192 0

-- a packet call on the opening's state at 5, and a clock call
abbrev packet_on : ℕ → List ℕ → List ℕ → ℕ → ℕ
packet_on t p counters capacity = packet_refusal (opened_state 5) t p counters [] capacity

abbrev clock_on : State → List ℕ → ℕ
clock_on s m = clock_refusal s 9 m 96

-- the table byte of PID 0
abbrev byte_on : ℕ → ℕ
byte_on b = packet_on 9 packet (b ∷ replicate 8191 0) 96

pub record Refusals : Type 0 where
  -- 1: packet is not 188 bytes
  pub packet_length : map (λ n. packet_on 9 (replicate n 0) zeros 96) (0 ∷ 187 ∷ 188 ∷ 189 ∷ []) ≡ 1 ∷ 1 ∷ 0 ∷ 1 ∷ []
  -- 2: counter table is not 8,192 bytes, in a packet call
  pub table_length : map (λ n. packet_on 9 packet (replicate n 0) 96) (0 ∷ 8191 ∷ 8192 ∷ 8193 ∷ []) ≡ 2 ∷ 2 ∷ 0 ∷ 2 ∷ []
  -- 2: in an opening
  pub table_length_of_opening : map (λ n. open_refusal 9 (replicate n 0)) (0 ∷ 8191 ∷ 8192 ∷ 8193 ∷ []) ≡ 2 ∷ 2 ∷ 0 ∷ 2 ∷ []
  -- the counter table is exactly 8,192 bytes
  pub table_size_lem : table_size ≡ 8192
  -- 3: event list has under 96 records, in a packet call
  pub room_for_96 : map (packet_on 9 packet zeros) (0 ∷ 95 ∷ 96 ∷ 97 ∷ []) ≡ 3 ∷ 3 ∷ 0 ∷ 0 ∷ []
  -- 3: in a clock call
  pub room_for_96_of_clock : map (clock_refusal (opened_state 5) 9 []) (0 ∷ 95 ∷ 96 ∷ 97 ∷ []) ≡ 3 ∷ 3 ∷ 0 ∷ 0 ∷ []
  -- 4: time above 2^62, in a packet call
  pub time_2_62 : packet_on (2 ^ 62) packet zeros 96 ∷ packet_on (suc (2 ^ 62)) packet zeros 96 ∷ [] ≡ 0 ∷ 4 ∷ []
  -- 4: in a clock call
  pub time_2_62_of_clock : clock_refusal (opened_state 5) (2 ^ 62) [] 96 ∷ clock_refusal (opened_state 5) (suc (2 ^ 62)) [] 96 ∷ [] ≡ 0 ∷ 4 ∷ []
  -- 4: in an opening
  pub time_2_62_of_opening : open_refusal (2 ^ 62) zeros ∷ open_refusal (suc (2 ^ 62)) zeros ∷ [] ≡ 0 ∷ 4 ∷ []
  -- 6: time below the latest accepted time, in a packet call
  pub time_below_the_latest : map (λ t. packet_on t packet zeros 96) (4 ∷ 5 ∷ 6 ∷ []) ≡ 6 ∷ 0 ∷ 0 ∷ []
  -- 6: in a clock call
  pub time_below_the_latest_of_clock : map (λ t. clock_refusal (opened_state 5) t [] 96) (4 ∷ 5 ∷ 6 ∷ []) ≡ 6 ∷ 0 ∷ 0 ∷ []
  -- the lowest number wins: all that is wrong at once, and then each put right in turn; in a packet call
  pub lowest_of_packet : packet_refusal (running false 2) (suc (2 ^ 62)) [] [] [] 0 ∷ packet_refusal (running false 2) (suc (2 ^ 62)) packet [] [] 0 ∷ packet_refusal (running false 2) (suc (2 ^ 62)) packet zeros [] 0 ∷ packet_refusal (running false 2) (suc (2 ^ 62)) packet zeros [] 96 ∷ packet_refusal (running false 2) 4 packet zeros [] 96 ∷ packet_refusal (running false 1) 4 packet zeros [] 96 ∷ [] ≡ 1 ∷ 2 ∷ 3 ∷ 4 ∷ 5 ∷ 6 ∷ []
  -- in a clock call
  pub lowest_of_clock : clock_refusal (running false 2) (suc (2 ^ 62)) [] 0 ∷ clock_refusal (running false 2) (suc (2 ^ 62)) [] 96 ∷ clock_refusal (running false 2) 4 [] 96 ∷ clock_refusal (running false 1) 4 [] 96 ∷ [] ≡ 3 ∷ 4 ∷ 5 ∷ 6 ∷ []
  -- in an opening
  pub lowest_of_opening : open_refusal (suc (2 ^ 62)) [] ∷ open_refusal (suc (2 ^ 62)) zeros ∷ [] ≡ 2 ∷ 4 ∷ []
  -- 5: the table byte of the packet's PID is not 0, 16..31 or 48..63
  pub table_byte : map byte_on (0 ∷ 1 ∷ 15 ∷ 16 ∷ 31 ∷ 32 ∷ 47 ∷ 48 ∷ 63 ∷ 64 ∷ []) ≡ 0 ∷ 5 ∷ 5 ∷ 0 ∷ 0 ∷ 5 ∷ 5 ∷ 0 ∷ 0 ∷ 5 ∷ []
  -- 5: the table byte of no other PID is judged
  pub byte_of_another_pid : packet_on 9 packet (set zeros 1 1) 96 ∷ packet_on 9 packet (set zeros 8191 1) 96 ∷ [] ≡ 0 ∷ 0 ∷ []
  -- 5: it is that of the packet's own PID
  pub byte_of_its_pid : packet_on 9 on_pid0x100 (set zeros 0x100 1) 96 ∷ packet_on 9 on_pid0x100 (set zeros 0 1) 96 ∷ [] ≡ 5 ∷ 0 ∷ []
  -- 5: the state holds a time above 2^62: the latest accepted time
  pub latest_above_2_62 : clock_refusal (state (2 ^ 62) false 0 gaps 0 [] no_half) (2 ^ 62) [] 96 ∷ clock_refusal (state (suc (2 ^ 62)) false 0 gaps 0 [] no_half) (2 ^ 62) [] 96 ∷ [] ≡ 0 ∷ 5 ∷ []
  -- 5: a gap start of a fixed table, of any of them
  pub gap_starts : map (λ k. clock_on (state 5 false 0 (set gaps k (suc (2 ^ 62))) 0 [] no_half) []) (0 ∷ 1 ∷ 2 ∷ 3 ∷ 4 ∷ []) ≡ 5 ∷ 5 ∷ 5 ∷ 5 ∷ 5 ∷ []
  -- 2^62 itself is none
  pub gap_start_2_62 : clock_on (state 5 false 0 (replicate 5 (2 ^ 62)) 0 [] no_half) [] ≡ 0
  -- 5: a gap start of a listed programme
  pub gap_start_of_a_programme : map (λ s. clock_on (listing 1 (programme 1 0x100 s ∷ [])) []) (2 ^ 62 ∷ suc (2 ^ 62) ∷ []) ≡ 0 ∷ 5 ∷ []
  -- 5: over 16 programmes
  pub programmes_16_and_17 : clock_on (listing 16 (programmes 16)) [] ∷ clock_on (listing 17 (programmes 17)) [] ∷ clock_on (listing 17 (programmes 16)) [] ∷ [] ≡ 0 ∷ 5 ∷ 5 ∷ []
  -- 5: a programme number 0
  pub number_0 : map (λ n. clock_on (listing 2 (programme 9 0x100 0 ∷ programme n 0x101 0 ∷ [])) []) (0 ∷ 1 ∷ 65535 ∷ []) ≡ 5 ∷ 0 ∷ 0 ∷ []
  -- 5: a programme number listed twice, at any two places; two numbers may share a PID
  pub number_twice : clock_on (listing 3 (programme 9 0x100 0 ∷ programme 8 0x101 0 ∷ programme 9 0x102 0 ∷ [])) [] ∷ clock_on (listing 3 (programme 7 0x100 0 ∷ programme 9 0x101 0 ∷ programme 9 0x102 0 ∷ [])) [] ∷ clock_on (listing 3 (programme 7 0x100 0 ∷ programme 8 0x100 0 ∷ programme 9 0x100 0 ∷ [])) [] ∷ [] ≡ 5 ∷ 5 ∷ 0 ∷ []
  -- behind the list nothing is judged
  pub twice_behind_the_list : clock_on (listing 1 (programme 9 0x100 0 ∷ programme 9 0x001F (suc (2 ^ 62)) ∷ [])) [] ≡ 0
  -- 5: a listed PID below 0x0020 or above 0x1FFE
  pub listed_pids : map (λ q. clock_on (listing 2 (programme 9 0x100 0 ∷ programme 1 q 0 ∷ [])) []) (0x001F ∷ 0x0020 ∷ 0x1FFE ∷ 0x1FFF ∷ 0x2000 ∷ []) ≡ 5 ∷ 0 ∷ 0 ∷ 5 ∷ 5 ∷ []
  -- the greatest PID that may be listed
  pub greatest_pid_lem : greatest_pid ≡ 0x1FFE
  -- 5: a sync run above 4, while sync is lost
  pub sync_run_lost : map (λ n. clock_on (running true n) []) (0 ∷ 1 ∷ 4 ∷ 5 ∷ []) ≡ 0 ∷ 0 ∷ 0 ∷ 5 ∷ []
  -- 5: above 1 in sync
  pub sync_run_in_sync : map (λ n. clock_on (running false n) []) (0 ∷ 1 ∷ 2 ∷ 4 ∷ []) ≡ 0 ∷ 0 ∷ 5 ∷ 5 ∷ []
  -- 5: half-built bytes that already make a whole section; one byte less does not
  pub half_built_whole : map (λ n. clock_on (building 0 n) (memory 0 (0x70 ∷ 0x70 ∷ 2 ∷ replicate 9 0))) (0 ∷ 3 ∷ 4 ∷ 5 ∷ 6 ∷ []) ≡ 0 ∷ 0 ∷ 0 ∷ 5 ∷ 5 ∷ []
  -- 5: half-built bytes that break the section_length rule: 1,021 does not, 1,022 and a length below 9 do
  pub half_built_bad : clock_on (building 0 3) (memory 0 (0x00 ∷ 0xB3 ∷ 0xFD ∷ [])) ∷ clock_on (building 0 3) (memory 0 (0x00 ∷ 0xB3 ∷ 0xFE ∷ [])) ∷ clock_on (building 0 3) (memory 0 (0x00 ∷ 0xB0 ∷ 0x08 ∷ [])) ∷ [] ≡ 0 ∷ 5 ∷ 5 ∷ []
  -- 5: by the rule of each room: the EIT's begins at 3,072 and takes 4,093
  pub half_built_eit : clock_on (building 3 3) (memory 3072 (0x4E ∷ 0xBF ∷ 0xFD ∷ [])) ∷ clock_on (building 3 3) (memory 3072 (0x4E ∷ 0xBF ∷ 0xFE ∷ [])) ∷ [] ≡ 0 ∷ 5 ∷ []
  -- 5: the last room begins at 23,552 and takes 1,021
  pub half_built_last : clock_on (building 20 3) (memory 23552 (0x02 ∷ 0xB3 ∷ 0xFD ∷ [])) ∷ clock_on (building 20 3) (memory 23552 (0x02 ∷ 0xB3 ∷ 0xFE ∷ [])) ∷ [] ≡ 0 ∷ 5 ∷ []
  -- S1: two bytes that already rule out a legal length are no refusal 5
  pub half_built_two_bytes : clock_on (building 0 2) (memory 0 (0x00 ∷ 0xBF ∷ 0xFF ∷ [])) ∷ clock_on (building 0 3) (memory 0 (0x00 ∷ 0xBF ∷ 0xFF ∷ [])) ∷ [] ≡ 0 ∷ 5 ∷ []

pub refusals : Refusals
unfolding open_refusal packet_refusal clock_refusal state_sound times_sound entries_sound number_among rooms_from stage_of part
refusals =
    record {
      packet_length = refl;
      table_length = refl;
      table_length_of_opening = refl;
      table_size_lem = refl;
      room_for_96 = refl;
      room_for_96_of_clock = refl;
      time_2_62 = refl;
      time_2_62_of_clock = refl;
      time_2_62_of_opening = refl;
      time_below_the_latest = refl;
      time_below_the_latest_of_clock = refl;
      lowest_of_packet = refl;
      lowest_of_clock = refl;
      lowest_of_opening = refl;
      table_byte = refl;
      byte_of_another_pid = refl;
      byte_of_its_pid = refl;
      latest_above_2_62 = refl;
      gap_starts = refl;
      gap_start_2_62 = refl;
      gap_start_of_a_programme = refl;
      programmes_16_and_17 = refl;
      number_0 = refl;
      number_twice = refl;
      twice_behind_the_list = refl;
      listed_pids = refl;
      greatest_pid_lem = refl;
      sync_run_lost = refl;
      sync_run_in_sync = refl;
      half_built_whole = refl;
      half_built_bad = refl;
      half_built_eit = refl;
      half_built_last = refl;
      half_built_two_bytes = refl;
    }

-- WHAT CALLS HAND BACK
abbrev table : List ℕ
table = replicate 8192 19

-- a packet on PID 0x21, whose counter jumps, and one with a wrong first byte
abbrev jumping : List ℕ
jumping = 0x47 ∷ 0x00 ∷ 0x21 ∷ 0x19 ∷ replicate 184 0

abbrev wrong_sync : List ℕ
wrong_sync = 0x46 ∷ 0x00 ∷ 0x21 ∷ 0x19 ∷ replicate 184 0

abbrev pat_late : Event
pat_late = event_at 13_500_005 0x0009 1 0

abbrev accepted : Result
accepted = packet_call (opened_state 5) 13_500_006 jumping table (7 ∷ []) 96

pub record Results : Type 0 where
  -- opening: in sync, the fixed watches begin, nothing listed, nothing half-built
  pub opening : opened_state 5 ≡ state 5 false 0 (replicate 5 5) 0 (replicate 16 (programme 0 0 0)) (replicate 21 0)
  -- an accepted opening answers 0, no event, and that state
  pub opening_accepted : open_answer 5 zeros ≡ record { refusal = 0; n = 0; state = opened_state 5 }
  -- opening sets all counters to 0
  pub opening_clears : open_table 5 table ≡ replicate 8192 0
  -- a refused opening: its number, the state of an opening at time 0, n = 0
  pub opening_refused : open_answer (suc (2 ^ 62)) zeros ∷ open_answer 5 [] ∷ [] ≡ record { refusal = 4; n = 0; state = opened_state 0 } ∷ record { refusal = 2; n = 0; state = opened_state 0 } ∷ []
  -- and the counter table is not written
  pub opening_refused_writes_nothing : open_table (suc (2 ^ 62)) table ∷ open_table 5 (7 ∷ []) ∷ [] ≡ table ∷ (7 ∷ []) ∷ []
  -- a refused packet call: its number, the given state, n = 0; no lent memory is written
  pub packet_refused : packet_call (opened_state 5) 4 jumping table (7 ∷ []) 96 ≡ record { refusal = 6; state = opened_state 5; counters = table; memory = 7 ∷ []; events = [] }
  -- a refused clock call likewise
  pub clock_refused : clock_call (opened_state 5) 13_500_006 (7 ∷ []) 95 ≡ record { refusal = 3; state = opened_state 5; counters = []; memory = 7 ∷ []; events = [] }
  -- an accepted packet call: late events, then those of steps 1 to 5, with the call's time as stamp
  pub late_before_the_packet : accepted.events ≡ pat_late ∷ event_at 13_500_006 0x000E 0 0x21 ∷ []
  -- its time is the latest
  pub packet_accepted : accepted.refusal ∷ accepted.state.latest ∷ [] ≡ 0 ∷ 13_500_006 ∷ []
  -- its PID's table byte is written, and no other
  pub one_byte_written : accepted.counters ≡ set table 0x21 25
  -- lateness is judged with a wrong first byte too
  pub late_with_a_wrong_first_byte : (packet_call (opened_state 5) 13_500_006 wrong_sync table [] 96).events ≡ pat_late ∷ event_at 13_500_006 0x000D 0 0x21 ∷ []
  -- and while sync is lost
  pub late_while_lost : (packet_call (running true 2) 13_500_001 jumping table [] 96).events ≡ event_at 13_500_000 0x0009 1 0 ∷ []
  -- a clock call: late events, and its time is the latest; gap starts stay
  pub clock_accepted : clock_call (opened_state 5) 13_500_006 (7 ∷ []) 96 ≡ record { refusal = 0; state = state 13_500_006 false 0 (replicate 5 5) 0 (replicate 16 no_entry) no_half; counters = []; memory = 7 ∷ []; events = pat_late ∷ [] }
  -- late events: the fixed tables, then the programmes in list order
  pub tables_then_programmes : (clock_call (listing 2 (programme 7 0x100 0 ∷ programme 3 0x101 0 ∷ [])) 13_500_001 [] 96).events ≡ event_at 13_500_000 0x0009 1 0 ∷ event_at 13_500_000 0x000F 1 7 ∷ event_at 13_500_000 0x000F 1 3 ∷ []
  -- n is the number of events
  pub n_of_events : (answer_of accepted).n ≡ 2
  -- n events go to the first n records, the others are untouched
  pub first_records_written : handed_over (pat_late ∷ []) (event_at 1 1 1 1 ∷ event_at 2 2 2 2 ∷ event_at 3 3 3 3 ∷ []) ≡ pat_late ∷ event_at 2 2 2 2 ∷ event_at 3 3 3 3 ∷ []
  -- no event leaves all records untouched
  pub no_record_written : handed_over [] (event_at 1 1 1 1 ∷ []) ≡ event_at 1 1 1 1 ∷ []

pub results : Results
unfolding packet_call clock_call open_refusal packet_refusal clock_refusal state_sound times_sound entries_sound number_among rooms_from stage_of part late_of rows_late table_rows step1 room_for fixed_room place_of header_of counted_of
results =
    record {
      opening = refl;
      opening_accepted = refl;
      opening_clears = refl;
      opening_refused = refl;
      opening_refused_writes_nothing = refl;
      packet_refused = refl;
      clock_refused = refl;
      late_before_the_packet = refl;
      packet_accepted = refl;
      one_byte_written = refl;
      late_with_a_wrong_first_byte = refl;
      late_while_lost = refl;
      clock_accepted = refl;
      tables_then_programmes = refl;
      n_of_events = refl;
      first_records_written = refl;
      no_record_written = refl;
    }
