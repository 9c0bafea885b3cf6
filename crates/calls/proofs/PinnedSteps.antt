-- Steps 1 to 5 case by case, with all that each leaves: examples that a wrong definition would break. Assumes nothing.
use mathlib.Core.Path.{◌≡◌, refl}
use mathlib.Core.Bool.{Bool, true, false}
use mathlib.Core.List.{List, [], ◌∷◌, ◌++◌, map}
use Prim.Native.Nat.{ℕ, ◌+◌, ◌/◌, ◌%◌}
use lib.ListN.{length, get_or, set, take, replicate}
use Rattle.crc.specs.Crc.{crc_step, crc_feed, bits, bits_of, crc_of, crc_bytes}
use Rattle.lists.specs.Places.{part}
use Rattle.events.specs.declared.Event.{Event}
use Rattle.events.specs.Events.{event_at}
use Rattle.watches.specs.declared.Entry.{Entry}
use Rattle.watches.specs.Tables.{no_entry}
use Rattle.watches.specs.Late.{table_rows, rows_late}
use Rattle.header.specs.Header.{header_of}
use Rattle.continuity.specs.Continuity.{counted_of}
use Rattle.sections.specs.Rooms.{half_built}
use Rattle.sections.specs.Section.{stage_of}
use Rattle.sections.specs.Building.{fed, built}
use Rattle.sections.specs.Outcomes.{crc_wrong, whole_outcome}
use Rattle.programmes.specs.Listing.{is_number, entry_for, read_on, list_of}
use Rattle.programmes.specs.Places.{place_of, places_from}
use Rattle.calls.specs.declared.Core.{Core}
use Rattle.calls.specs.Cores.{Held, fixed_room, room_for, late_of}
use Rattle.calls.specs.Sync.{Synced, synced_of}
use Rattle.calls.specs.Steps.{absorbed_all, sections_taken, step1}
use Rattle.calls.specs.Calls.{accepted_packet}

-- STATES: programmes 1 and 2 on PID 0x21, programme 3 on PID 0x22; half-built lengths in each of their rooms and in the fixed ones
abbrev programme : ℕ → ℕ → Entry
programme n q = record { number = n; pid = q; since = 1 }

abbrev halves : List ℕ
halves = 3 ∷ 3 ∷ 3 ∷ 3 ∷ 3 ∷ 3 ∷ 0 ∷ 3 ∷ replicate 13 0

abbrev synced : Bool → ℕ → Core
synced lost run =
    record {
      lost = lost;
      run = run;
      since = replicate 5 1;
      count = 3;
      entries = programme 1 0x21 ∷ programme 2 0x21 ∷ programme 3 0x22 ∷ replicate 13 no_entry;
      half = halves;
    }

-- STEP 1
pub record Sync : Type 0 where
  pub lost : Bool
  pub run : ℕ
  pub faults : List ℕ
  pub further : Bool

abbrev sync : Bool → ℕ → List ℕ → Bool → Sync
sync lost run faults further = record { lost = lost; run = run; faults = faults; further = further }

abbrev sync_in : Synced → Sync
sync_in y = sync y.core.lost y.core.run y.faults y.further

-- what each of some packets leaves, one after the other, by whether its first byte is right
abbrev syncs : Core → List Bool → List Sync
syncs c [] = []
syncs c (b ∷ bs) = sync_in (synced_of b c) ∷ syncs (synced_of b c).core bs

abbrev judged : Sync
judged = sync false 0 [] true

abbrev noted : Sync
noted = sync false 1 (0x000D ∷ []) false

abbrev lost_now : Sync
lost_now = sync true 0 (0x000D ∷ 0x000C ∷ []) false

abbrev waits : ℕ → Sync
waits run = sync true run [] false

pub record StepOne : Type 0 where
  -- in sync: a right byte is judged further; a wrong one gives 0x000D
  pub in_sync_lem : syncs (synced false 0) (true ∷ true ∷ false ∷ []) ≡ judged ∷ judged ∷ noted ∷ []
  -- the second such packet running also gives 0x000C, and sync is lost
  pub second_wrong_byte : syncs (synced false 0) (false ∷ false ∷ []) ≡ noted ∷ lost_now ∷ []
  -- running: a right byte between them begins the run anew
  pub wrong_right_wrong : syncs (synced false 0) (false ∷ true ∷ false ∷ true ∷ false ∷ false ∷ []) ≡ noted ∷ judged ∷ noted ∷ judged ∷ noted ∷ lost_now ∷ []
  -- while lost there are no sync events
  pub no_events_while_lost : syncs (synced false 0) (false ∷ false ∷ false ∷ false ∷ []) ≡ noted ∷ lost_now ∷ waits 0 ∷ waits 0 ∷ []
  -- the fifth right byte running restores sync and is judged in full, no earlier one
  pub fifth_right_byte : syncs (synced true 0) (true ∷ true ∷ true ∷ true ∷ true ∷ true ∷ []) ≡ waits 1 ∷ waits 2 ∷ waits 3 ∷ waits 4 ∷ judged ∷ judged ∷ []
  -- running: a wrong byte between them begins the run anew
  pub run_of_right_bytes_broken : syncs (synced true 0) (true ∷ true ∷ true ∷ true ∷ false ∷ true ∷ true ∷ true ∷ true ∷ true ∷ []) ≡ waits 1 ∷ waits 2 ∷ waits 3 ∷ waits 4 ∷ waits 0 ∷ waits 1 ∷ waits 2 ∷ waits 3 ∷ waits 4 ∷ judged ∷ []
  -- restored: again the second wrong byte loses it, not the first
  pub lost_again : syncs (synced true 4) (true ∷ false ∷ false ∷ []) ≡ judged ∷ noted ∷ lost_now ∷ []
  -- all half-built sections are dropped where sync is lost
  pub all_dropped : (synced_of false (synced false 1)).core.half ≡ replicate 21 0
  -- K8: a single wrong byte keeps them, and so does every other packet
  pub kept : (synced_of false (synced false 0)).core.half ∷ (synced_of true (synced false 1)).core.half ∷ (synced_of false (synced true 2)).core.half ∷ (synced_of true (synced true 4)).core.half ∷ [] ≡ halves ∷ halves ∷ halves ∷ halves ∷ []

pub step_one : StepOne
step_one =
    record {
      in_sync_lem = refl;
      second_wrong_byte = refl;
      wrong_right_wrong = refl;
      no_events_while_lost = refl;
      fifth_right_byte = refl;
      run_of_right_bytes_broken = refl;
      lost_again = refl;
      all_dropped = refl;
      kept = refl;
    }

-- STEPS 2 TO 5 at the time 9, on a table whose PIDs have all counted to 3, one of them twice
abbrev counters : List ℕ
counters = set (replicate 64 19) 0x14 51

-- a packet by its unit start (0x40) and error (0x80) bits, PID, scrambling bits and control, counter, and what is behind the header
abbrev packet : ℕ → ℕ → ℕ → ℕ → List ℕ → List ℕ
packet flags pid control n load = 0x47 ∷ (flags + pid / 256) ∷ (pid % 256) ∷ (control + n) ∷ load

-- what it leaves: its events, the table byte of its PID, and the half-built lengths of the rooms that hold some
pub record View : Type 0 where
  pub events : List Event
  pub byte : ℕ
  pub half : List ℕ

abbrev view : List Event → ℕ → List ℕ → View
view es b ns = record { events = es; byte = b; half = ns }

abbrev seen : ℕ → List ℕ → List ℕ → View
seen pid table p =
    let s = step1 9 p table (record { core = synced false 0; memory = 0x00 ∷ 0xB0 ∷ 0x0D ∷ replicate 13 0 }) in
    view s.events (get_or s.counters pid 0) (take 8 s.held.core.half)

abbrev judges : ℕ → ℕ → ℕ → ℕ → List ℕ → View
judges flags pid control n load = seen pid counters (packet flags pid control n load)

-- the half-built lengths as they were; with those of a room dropped; with one byte more of it
abbrev as_they_were : List ℕ
as_they_were = 3 ∷ 3 ∷ 3 ∷ 3 ∷ 3 ∷ 3 ∷ 0 ∷ 3 ∷ []

abbrev without : ℕ → List ℕ
without r = set as_they_were r 0

abbrev torn : ℕ → Event
torn pid = event_at 9 0x000E 0 pid

abbrev scrambled : ℕ → ℕ → Event
scrambled fault pid = event_at 9 fault 3 pid

-- control 11 with length 183 and control 10 with length 182: each wrong by one
abbrev wrong11 : List ℕ
wrong11 = 183 ∷ 0 ∷ []

abbrev wrong10 : List ℕ
wrong10 = 182 ∷ 0 ∷ []

abbrev right10 : List ℕ
right10 = 183 ∷ 0 ∷ []

pub record StepsTwoToFive : Type 0 where
  -- a wrong first byte: its 13 PID bits are the id; no further judgement, by error bit, counter or scrambling
  pub wrong_first_byte : seen 0x21 counters (0x46 ∷ 0xE0 ∷ 0x21 ∷ 0xD9 ∷ []) ≡ view (event_at 9 0x000D 0 0x21 ∷ []) 19 as_they_were
  -- 2. transport error bit set: 0x0011, no further judgement: the counter and the half-built section stay
  pub error : judges 0x80 0 0xD0 9 (7 ∷ []) ≡ view (event_at 9 0x0011 0 0 ∷ []) 19 as_they_were
  -- K8: before PID 0x1FFF and before control 00
  pub error_before_null : (judges 0x80 0x1FFF 0x10 9 []).events ∷ (judges 0x80 0x21 0x00 9 []).events ∷ [] ≡ (event_at 9 0x0011 0 0x1FFF ∷ []) ∷ (event_at 9 0x0011 0 0x21 ∷ []) ∷ []
  -- 3. PID 0x1FFF: no further judgement, and the table byte is as it was
  pub null_packet : seen 0x1FFF (replicate 8192 19) (packet 0 0x1FFF 0xD0 9 []) ≡ view [] 19 as_they_were
  -- 3. PID 0x1FFE is judged further
  pub pid_1ffe : seen 0x1FFE (replicate 8192 19) (packet 0 0x1FFE 0x10 9 []) ≡ view (torn 0x1FFE ∷ []) 25 as_they_were
  -- 3. control 00: no further judgement: no counter, no scrambling
  pub control_00 : judges 0x40 0 0xC0 9 (7 ∷ []) ≡ view [] 19 as_they_were
  -- 4. counter c+1: the half-built section goes on, here by the byte 7
  pub next_counter : judges 0 0 0x10 4 (7 ∷ []) ≡ view [] 20 (set as_they_were 0 4)
  -- 4. counter c once: a repeat, payload skipped
  pub once : judges 0 0 0x10 3 (7 ∷ []) ≡ view [] 51 as_they_were
  -- 4. counter c again: 0x000E, byte stays, payload skipped
  pub again : judges 0 0x14 0x10 3 (7 ∷ []) ≡ view (torn 0x14 ∷ []) 51 as_they_were
  -- 4. any other counter: 0x000E, half-built section dropped, payload taken: without unit start it begins nothing, with it a section begins
  pub any_other : judges 0 0 0x10 9 (7 ∷ []) ∷ judges 0x40 0 0x10 9 (0 ∷ 7 ∷ 7 ∷ []) ∷ [] ≡ view (torn 0 ∷ []) 25 (without 0) ∷ view (torn 0 ∷ []) 25 (set as_they_were 0 2) ∷ []
  -- 4. a set discontinuity indicator: half-built section dropped, payload taken, no event
  pub indicator : judges 0 0 0x30 9 (1 ∷ 0x80 ∷ 7 ∷ []) ∷ judges 0x40 0 0x30 9 (1 ∷ 0x80 ∷ 0 ∷ 7 ∷ []) ∷ [] ≡ view [] 25 (without 0) ∷ view [] 25 (set as_they_were 0 1) ∷ []
  -- 4. control 10: an equal counter changes nothing; another gives 0x000E, half-built section kept
  pub control_10 : judges 0 0 0x20 3 right10 ∷ judges 0 0 0x20 4 right10 ∷ [] ≡ view [] 19 as_they_were ∷ view (torn 0 ∷ []) 20 as_they_were ∷ []
  -- 4. control 11 with a wrong length drops the PID's half-built section, also where it is a repeat (K1); no other PID's
  pub wrong_length_11 : judges 0 0x22 0x30 4 wrong11 ∷ judges 0 0x22 0x30 3 wrong11 ∷ [] ≡ view [] 20 (without 7) ∷ view [] 51 (without 7) ∷ []
  -- 4. control 10 with a wrong length keeps it
  pub wrong_length_10 : judges 0 0 0x20 3 wrong10 ∷ judges 0 0 0x20 9 wrong10 ∷ [] ≡ view [] 19 as_they_were ∷ view (torn 0 ∷ []) 25 as_they_were ∷ []
  -- 4. an unseen PID: half-built section dropped, no event
  pub unseen : seen 0 (replicate 64 0) (packet 0 0 0x10 9 (7 ∷ [])) ≡ view [] 25 (without 0)
  -- 4. on a PID without a room nothing is built, and its counter is judged
  pub elsewhere : judges 0x40 0x30 0x10 9 (0 ∷ 7 ∷ []) ≡ view (torn 0x30 ∷ []) 25 as_they_were
  -- 5. scrambling bits not 00: on PID 0 0x0009 cause 3; half-built section dropped, no payload taken, the counter judged
  pub scrambled_pat : judges 0x40 0 0x50 4 (0 ∷ 7 ∷ []) ∷ judges 0 0 0x90 4 (7 ∷ []) ∷ judges 0 0 0xD0 4 (7 ∷ []) ∷ [] ≡ view (scrambled 0x0009 0 ∷ []) 20 (without 0) ∷ view (scrambled 0x0009 0 ∷ []) 20 (without 0) ∷ view (scrambled 0x0009 0 ∷ []) 20 (without 0) ∷ []
  -- 5. on a listed PMT PID 0x000F cause 3, once for all that share it (K7); the first place has the room
  pub scrambled_pmt_lem : judges 0x40 0x21 0x90 4 (0 ∷ 7 ∷ []) ∷ judges 0 0x22 0x90 4 [] ∷ [] ≡ view (scrambled 0x000F 0x21 ∷ []) 20 (without 5) ∷ view (scrambled 0x000F 0x22 ∷ []) 20 (without 7) ∷ []
  -- 5. elsewhere no event: on another fixed PID its half-built section is dropped too
  pub scrambled_elsewhere : judges 0 0x30 0x90 4 [] ∷ judges 0x40 0x10 0x90 4 (0 ∷ 7 ∷ []) ∷ judges 0 0x12 0x90 4 [] ∷ [] ≡ view [] 20 as_they_were ∷ view [] 20 (without 1) ∷ view [] 20 (without 3) ∷ []
  -- K6: judged on repeats, whose half-built section is dropped too
  pub scrambled_repeat : judges 0 0 0x90 3 [] ∷ judges 0 0x14 0x90 3 [] ∷ [] ≡ view (scrambled 0x0009 0 ∷ []) 51 (without 0) ∷ view (torn 0x14 ∷ []) 51 (without 4) ∷ []
  -- K6: under control 10, whatever the counter
  pub scrambled_control_10 : judges 0 0 0xA0 3 right10 ∷ judges 0 0x21 0xA0 9 right10 ∷ [] ≡ view (scrambled 0x0009 0 ∷ []) 19 (without 0) ∷ view (torn 0x21 ∷ scrambled 0x000F 0x21 ∷ []) 25 (without 5) ∷ []
  -- K6: with wrong lengths
  pub scrambled_wrong_length : judges 0 0 0xA0 3 wrong10 ∷ judges 0 0 0xB0 4 wrong11 ∷ [] ≡ view (scrambled 0x0009 0 ∷ []) 19 (without 0) ∷ view (scrambled 0x0009 0 ∷ []) 20 (without 0) ∷ []
  -- K6: and not where step 2 or 3 ends the judgement
  pub scrambled_and_not_judged : (judges 0x80 0 0x90 4 []).events ∷ (judges 0 0 0x80 4 []).events ∷ [] ≡ (event_at 9 0x0011 0 0 ∷ []) ∷ [] ∷ []
  -- K9: 0x000E stands before cause 3
  pub continuity_before_scrambling : judges 0 0 0x90 9 [] ≡ view (torn 0 ∷ scrambled 0x0009 0 ∷ []) 25 (without 0)
  -- sections are built on the five fixed PIDs and the listed PMT PIDs; the first place with a PID has its room
  pub rooms_of_pids : map (room_for (synced false 0)) (0x00 ∷ 0x10 ∷ 0x11 ∷ 0x12 ∷ 0x14 ∷ 0x21 ∷ 0x22 ∷ []) ≡ 0 ∷ 1 ∷ 2 ∷ 3 ∷ 4 ∷ 5 ∷ 7 ∷ []
  -- and on no other PID
  pub no_room_elsewhere : map (room_for (synced false 0)) (0x01 ∷ 0x0F ∷ 0x13 ∷ 0x15 ∷ 0x20 ∷ 0x23 ∷ 0x1FFF ∷ []) ≡ 21 ∷ 21 ∷ 21 ∷ 21 ∷ 21 ∷ 21 ∷ 21 ∷ []

pub steps_two_to_five : StepsTwoToFive
unfolding step1 room_for fixed_room place_of header_of counted_of sections_taken absorbed_all built fed stage_of part
steps_two_to_five =
    record {
      wrong_first_byte = refl;
      error = refl;
      error_before_null = refl;
      null_packet = refl;
      pid_1ffe = refl;
      control_00 = refl;
      next_counter = refl;
      once = refl;
      again = refl;
      any_other = refl;
      indicator = refl;
      control_10 = refl;
      wrong_length_11 = refl;
      wrong_length_10 = refl;
      unseen = refl;
      elsewhere = refl;
      scrambled_pat = refl;
      scrambled_pmt_lem = refl;
      scrambled_elsewhere = refl;
      scrambled_repeat = refl;
      scrambled_control_10 = refl;
      scrambled_wrong_length = refl;
      scrambled_and_not_judged = refl;
      continuity_before_scrambling = refl;
      rooms_of_pids = refl;
      no_room_elsewhere = refl;
    }

-- GOOD SECTIONS, each in a packet with pointer 0: when the gaps of the five fixed tables and of programmes 1, 2 and 3 began
abbrev long : ℕ → ℕ → List ℕ → List ℕ
long id number load =
    let s = id ∷ 0xB0 ∷ (9 + length load) ∷ (number / 256) ∷ (number % 256) ∷ 0xC1 ∷ 0x00 ∷ 0x00 ∷ load in
    s ++ crc_bytes (crc_of s)

abbrev time_and_date : List ℕ
time_and_date = 0x70 ∷ 0x70 ∷ 5 ∷ 0 ∷ 0 ∷ 0 ∷ 0 ∷ 0 ∷ []

abbrev arrivals : ℕ → List ℕ → List ℕ
arrivals pid s =
    let c = (step1 9 (packet 0x40 pid 0x10 4 (0 ∷ s)) counters (record { core = synced false 0; memory = replicate 10260 0 })).held.core in
    c.since ++ map (λ (e : Entry). e.since) (take c.count c.entries)

-- a packet whose PAT lists programme 3 alone, on PID 0x22; the bytes of the half-built section of that PID are 7, 8 and 9
abbrev shorter_list : List ℕ
shorter_list = packet 0x40 0 0x10 4 (0 ∷ long 0x00 1 (0 ∷ 3 ∷ 0xE0 ∷ 0x22 ∷ []))

abbrev half_built_memory : List ℕ
half_built_memory = replicate 10240 0 ++ (7 ∷ 8 ∷ 9 ∷ replicate 17 0)

abbrev relisted_by : Held
relisted_by = (step1 9 shorter_list counters (record { core = synced false 0; memory = half_built_memory })).held

pub record Arrivals : Type 0 where
  -- a good NIT section ends the gap of its own table, and of no other
  pub nit_arrives : arrivals 0x10 (long 0x40 1 []) ≡ 1 ∷ 9 ∷ 1 ∷ 1 ∷ 1 ∷ 1 ∷ 1 ∷ 1 ∷ []
  -- a good SDT section does
  pub sdt_arrives : arrivals 0x11 (long 0x42 1 []) ≡ 1 ∷ 1 ∷ 9 ∷ 1 ∷ 1 ∷ 1 ∷ 1 ∷ 1 ∷ []
  -- a good EIT section does
  pub eit_arrives : arrivals 0x12 (long 0x4E 1 []) ≡ 1 ∷ 1 ∷ 1 ∷ 9 ∷ 1 ∷ 1 ∷ 1 ∷ 1 ∷ []
  -- a good TDT section does
  pub tdt_arrives : arrivals 0x14 time_and_date ≡ 1 ∷ 1 ∷ 1 ∷ 1 ∷ 9 ∷ 1 ∷ 1 ∷ 1 ∷ []
  -- a PMT counts for the programme whose number is its table_id_extension, on that PID
  pub pmt_arrives : arrivals 0x21 (long 0x02 1 []) ∷ arrivals 0x21 (long 0x02 2 []) ∷ arrivals 0x22 (long 0x02 3 []) ∷ [] ≡ (1 ∷ 1 ∷ 1 ∷ 1 ∷ 1 ∷ 9 ∷ 1 ∷ 1 ∷ []) ∷ (1 ∷ 1 ∷ 1 ∷ 1 ∷ 1 ∷ 1 ∷ 9 ∷ 1 ∷ []) ∷ (1 ∷ 1 ∷ 1 ∷ 1 ∷ 1 ∷ 1 ∷ 1 ∷ 9 ∷ []) ∷ []
  -- under another number, or on another PID, it counts for none
  pub pmt_of_no_programme : arrivals 0x21 (long 0x02 3 []) ∷ arrivals 0x21 (long 0x02 0x0101 []) ∷ arrivals 0x30 (long 0x02 1 []) ∷ [] ≡ replicate 8 1 ∷ replicate 8 1 ∷ replicate 8 1 ∷ []
  -- a PAT ends its own gap and replaces the list: a kept pair keeps its gap, a new one begins
  pub pat_arrives : arrivals 0 (long 0x00 1 (0 ∷ 3 ∷ 0xE0 ∷ 0x22 ∷ 0 ∷ 4 ∷ 0xE0 ∷ 0x23 ∷ [])) ≡ 9 ∷ 1 ∷ 1 ∷ 1 ∷ 1 ∷ 1 ∷ 9 ∷ []
  -- a PID that stays listed keeps its half-built section, in the room of its new place; those that leave lose theirs
  pub half_built_stays : relisted_by.core.half ≡ 0 ∷ 3 ∷ 3 ∷ 3 ∷ 3 ∷ 3 ∷ replicate 15 0
  -- and its bytes
  pub half_built_bytes_stay : half_built relisted_by.memory 5 3 ≡ 7 ∷ 8 ∷ 9 ∷ []
  -- lateness is judged before the packet: by the list that the packet replaces
  pub late_by_the_list_before : (accepted_packet (record { latest = 1; core = synced false 0 }) 13_500_002 shorter_list counters half_built_memory).events ≡ event_at 13_500_001 0x0009 1 0 ∷ event_at 13_500_001 0x000F 1 1 ∷ event_at 13_500_001 0x000F 1 2 ∷ event_at 13_500_001 0x000F 1 3 ∷ []
  -- on another's PID a section ends nothing
  pub table_on_another_pid : arrivals 0x11 (long 0x40 1 []) ∷ arrivals 0x30 (long 0x40 1 []) ∷ [] ≡ replicate 8 1 ∷ replicate 8 1 ∷ []

pub arriving : Arrivals
unfolding step1 room_for fixed_room place_of header_of counted_of sections_taken absorbed_all built fed stage_of part whole_outcome crc_wrong crc_of crc_feed crc_step bits bits_of list_of read_on is_number entry_for places_from late_of rows_late table_rows
arriving =
    record {
      nit_arrives = refl;
      sdt_arrives = refl;
      eit_arrives = refl;
      tdt_arrives = refl;
      pmt_arrives = refl;
      pmt_of_no_programme = refl;
      pat_arrives = refl;
      half_built_stays = refl;
      half_built_bytes_stay = refl;
      late_by_the_list_before = refl;
      table_on_another_pid = refl;
    }
