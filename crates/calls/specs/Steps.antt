-- One packet: document 01, "Judging one packet", steps 1 to 5, "Building sections" and "The programme list". t is the call's time, p the
-- packet; events have the call's time as stamp and the packet's 13 PID bits as id.
--
--   AfterStep               == the state after the packet, the counter table, and the packet's own events
--   Arrival, arrival t r q  == where and when sections arrive: at the time t, in the room r, on the PID q
--   packet_events t p fs     == an event without a cause for each fault
--   no_further es counters h == the packet is judged no further
--   also es s               == a step with the events es before its own
--   arrived_table, arrived_programme == a good section ends the gap of its table
--   touched n q t e         == the entry e, whose gap begins anew at t where it is the pair of number n and PID q
--   new_list t s c, listed_by l == the list in the PAT section s; its listed entries
--   list_on l h              == the list becomes l; half-built sections stay with their PIDs
--   relisted t s h          == a good PAT section s: the list is the one in it
--   arrived_in a n s h       == a good section s arrives, with the table_id_extension n
--   list_events              == a good PAT with a bad list: 0x0009 cause 4
--   Absorbed                == the state after a finished section, and its events
--   bytes_of f               == the bytes of a finished section
--   absorbed_by, absorbed    == what one finished section does, by its outcome
--   absorbed_all             == the finished sections of a payload, one after the other
--   job_of r start s h, built_in r j h == section building on a payload s in the room r; the state with what it leaves there
--   sections_taken           == a payload s is handed to section building
--   payload_taken            == the packet's is, where sections of its PID are built
--   scrambling_fault, scrambling_events == scrambling bits not 00: on PID 0 0x0009 cause 3, on a listed PMT PID 0x000F cause 3, elsewhere no event
--   counted p counters      == step 4's judgement
--   step5 .. step1          == each step, and what follows it
use Rattle.std.specs.Prelude.{ℕ, Bool, cond, ◌&&◌, ◌||◌, List, [], ◌∷◌, ◌++◌, map, eqb, ltb, get_or, set, take}
use Rattle.lists.specs.Places.{front}
use Rattle.events.specs.declared.Event.{Event}
use Rattle.events.specs.Faults as fault
use Rattle.events.specs.Events.{event_at}
use Rattle.watches.specs.declared.Entry.{Entry}
use Rattle.watches.specs.Tables.{pat_pid}
use Rattle.header.specs.Header.{right_sync, error_bit, unit_start, pid_of, scrambled_bits, control_of, payload_of, header_of}
use Rattle.continuity.specs.declared.Counted.{Counted}
use Rattle.continuity.specs.Continuity.{counted_of}
use Rattle.sections.specs.declared.Outcome.{Outcome}
use Rattle.sections.specs.declared.Outcome.TheVariants.{Unfinished, Good, Fault, Silent}
use Rattle.sections.specs.Rooms.{room_count, pat_room}
use Rattle.sections.specs.Building.{Finished, bad_length, whole, Job, built}
use Rattle.sections.specs.Outcomes.{is_pmt_room, outcome_of, events_of}
use Rattle.programmes.specs.declared.Listed.{Listed}
use Rattle.programmes.specs.Listing.{null_pid, is_pair, list_of}
use Rattle.programmes.specs.Places.{is_listed, half_at, moved_halves, moved_bytes}
use Rattle.calls.specs.declared.Core.{Core}
use Rattle.calls.specs.Cores.{listed, Held, room_for, with_since, with_list, with_half, dropped_room}
use Rattle.calls.specs.Sync.{synced_of}

pub record AfterStep : Type 0 where
  pub held : Held
  pub counters : List ℕ
  pub events : List Event

pub record Arrival : Type 0 where
  pub time : ℕ
  pub room : ℕ
  pub pid : ℕ

abbrev pub arrival : ℕ → ℕ → ℕ → Arrival
arrival t r q = record { time = t; room = r; pid = q }

abbrev pub packet_events : ℕ → List ℕ → List ℕ → List Event
packet_events t p fs = map (λ f. event_at t f fault.no_cause (pid_of p)) fs

abbrev pub no_further : List Event → List ℕ → Held → AfterStep
no_further es counters h = record { held = h; counters = counters; events = es }

abbrev pub also : List Event → AfterStep → AfterStep
also es s = record { held = s.held; counters = s.counters; events = es ++ s.events }

-- A GOOD SECTION
abbrev pub arrived_table : ℕ → ℕ → Core → Core
arrived_table t r c = with_since (set c.since r t) c

abbrev pub touched : ℕ → ℕ → ℕ → Entry → Entry
touched n q t e = record { number = e.number; pid = e.pid; since = cond (is_pair n q e) t e.since }

abbrev pub arrived_programme : ℕ → ℕ → ℕ → Core → Core
arrived_programme n q t c =
    with_list c.count (front (touched n q t) c.count c.entries) c

abbrev pub new_list : ℕ → List ℕ → Core → Listed
new_list t s c = list_of t (listed c) s

abbrev pub listed_by : Listed → List Entry
listed_by l = take l.count l.entries

abbrev pub list_on : Listed → Held → Held
list_on l h =
    record {
      core = with_half (moved_halves (listed h.core) (listed_by l) h.core.half) (with_list l.count l.entries h.core);
      memory = moved_bytes (listed h.core) (listed_by l) h.core.half h.memory;
    }

abbrev pub relisted : ℕ → List ℕ → Held → Held
relisted t s h = list_on (new_list t s h.core) (record { core = arrived_table t pat_room h.core; memory = h.memory })

abbrev pub arrived_in : Arrival → ℕ → List ℕ → Held → Held
arrived_in a n s h =
    cond (eqb a.room pat_room) (relisted a.time s h)
    (record {
      core = cond (is_pmt_room a.room) (arrived_programme n a.pid a.time h.core) (arrived_table a.time a.room h.core);
      memory = h.memory;
    })

abbrev pub list_events : Arrival → List ℕ → Core → List Event
list_events a s c =
    cond (eqb a.room pat_room && (new_list a.time s c).bad) (event_at a.time fault.pat_error fault.bad a.pid ∷ []) []

-- A FINISHED SECTION, by its outcome: anything but a good one leaves list and watches as they are
pub record Absorbed : Type 0 where
  pub held : Held
  pub events : List Event

abbrev pub bytes_of : Finished → List ℕ
bytes_of bad_length = []
bytes_of (whole s) = s

abbrev pub absorbed_by : Outcome → Arrival → List ℕ → Held → Absorbed
absorbed_by Unfinished a s h = record { held = h; events = [] }
absorbed_by (Good n) a s h = record { held = arrived_in a n s h; events = list_events a s h.core }
absorbed_by (Fault f c i) a s h = record { held = h; events = events_of a.time (Fault f c i) }
absorbed_by Silent a s h = record { held = h; events = [] }

abbrev pub absorbed : Arrival → Finished → Held → Absorbed
absorbed a f h = absorbed_by (outcome_of a.room a.pid f) a (bytes_of f) h

unfoldable pub absorbed_all : Arrival → List Finished → Held → Absorbed
absorbed_all a [] h = record { held = h; events = [] }
absorbed_all a (f ∷ fs) h =
    let x = absorbed a f h in
    let y = absorbed_all a fs x.held in
    record { held = y.held; events = x.events ++ y.events }

-- THE PAYLOAD
abbrev pub built_in : ℕ → Job → Held → Held
built_in r j h = record { core = with_half (set h.core.half r j.half) h.core; memory = j.memory }

abbrev pub job_of : ℕ → Bool → List ℕ → Held → Job
job_of r start s h = built r h.memory (half_at h.core.half r) start s

unfoldable pub sections_taken : Arrival → Bool → List ℕ → Held → Absorbed
sections_taken a start s h =
    let j = job_of a.room start s h in
    absorbed_all a j.finished (built_in a.room j h)

abbrev pub payload_taken : Arrival → List ℕ → Held → Absorbed
payload_taken a p h =
    let x = sections_taken a (unit_start p) (payload_of p) h in
    cond (ltb a.room room_count) x (record { held = h; events = [] })

-- 5. SCRAMBLING
abbrev pub scrambling_fault : Core → ℕ → List ℕ
scrambling_fault c pid = cond (eqb pid pat_pid) (fault.pat_error ∷ []) (cond (is_listed pid (listed c)) (fault.pmt_error ∷ []) [])

abbrev pub scrambling_events : ℕ → Core → ℕ → List Event
scrambling_events t c pid = map (λ f. event_at t f fault.scrambled pid) (scrambling_fault c pid)

abbrev pub step5 : ℕ → List ℕ → Bool → List ℕ → Held → AfterStep
step5 t p take counters h =
    let r = room_for h.core (pid_of p) in
    let a = payload_taken (arrival t r (pid_of p)) p h in
    cond (scrambled_bits p) (no_further (scrambling_events t h.core (pid_of p)) counters (dropped_room r h))
    (cond take (no_further a.events counters a.held) (no_further [] counters h))

-- 4. CONTINUITY
abbrev pub counted : List ℕ → List ℕ → Counted
counted p counters = counted_of (get_or counters (pid_of p) 0) (header_of p)

abbrev pub step4 : ℕ → List ℕ → List ℕ → Held → AfterStep
step4 t p counters h =
    let j = counted p counters in
    also (packet_events t p (cond j.event (fault.continuity_error ∷ []) []))
    (step5 t p j.take (set counters (pid_of p) j.byte) (cond j.keep h (dropped_room (room_for h.core (pid_of p)) h)))

-- 3. NULL PACKETS, and no payload at all
abbrev pub step3 : ℕ → List ℕ → List ℕ → Held → AfterStep
step3 t p counters h =
    let s = step4 t p counters h in
    cond (eqb (pid_of p) null_pid || eqb (control_of p) 0) (no_further [] counters h) s

-- 2. TRANSPORT ERROR
abbrev pub step2 : ℕ → List ℕ → List ℕ → Held → AfterStep
step2 t p counters h =
    let s = step3 t p counters h in
    cond (error_bit p) (no_further (packet_events t p (fault.transport_error ∷ [])) counters h) s

-- 1. SYNC
unfoldable pub step1 : ℕ → List ℕ → List ℕ → Held → AfterStep
step1 t p counters h =
    let y = synced_of (right_sync p) h.core in
    let g : Held = record { core = y.core; memory = h.memory } in
    let s = step2 t p counters g in
    also (packet_events t p y.faults) (cond y.further s (no_further [] counters g))
