-- One packet judged, as the code is given it and hands it back: document 01, "Judging one packet".
--
--   Ready c m p list n most     == what a packet's steps are given: a whole packet, at most sixteen listed, every room sound, and
--                                  `most` places for events from the place n on
--   Judgeable c p counters m list n == what a packet is judged in: ready, a whole counter table, and a sync run of at most 4
--   Done x most c table m before n after r == what the step x does, done: the core, the counter table and section memory that it leaves, and its
--                                  events laid from the place n on, at most `most`; r is the next place
--   fault_events t pid fs        == an event without a cause for each fault
--   goes_on x, reached x         == what step 1 answers: whether the packet is judged further, the next place
--   CaughtAs y t pid c on before n after r == what step 1 says, y, done in the same way: at most two events
--   coursed t p r keep take cs h == behind step 4: what is half-built in the room r dropped, unless it is kept, and the payload taken, if it is
use Rattle.std.specs.Prelude.{◌≡◌, Bool, true, false, cond, List, [], map, ℕ, ◌+◌, ◌≤◌, length}
use Rattle.std.proofs.Common.{ControlFlow, Continue, Break}
use Rattle.events.specs.declared.Event.{Event}
use Rattle.events.specs.Faults.{no_cause}
use Rattle.events.specs.Events.{event_at, events_laid}
use Rattle.events.specs.Capacity.{least_capacity, number_capacity}
use Rattle.header.specs.Header.{packet_size, pid_of, unit_start, payload_of}
use Rattle.programmes.specs.Listing.{most_listed}
use Rattle.calls.specs.declared.Core.{Core}
use Rattle.calls.specs.Sync.{Synced}
use Rattle.calls.specs.Steps.{arrival, AfterStep, sections_taken}
use Rattle.calls.specs.Sound.{rooms_sound}
use Rattle.calls.specs.Calls.{table_size}
use Rattle.calls.specs.Cores.{Held, dropped_room}

pub record Ready (c : Core) (m p list : List ℕ) (n most : ℕ) : Type 0 where
  pub packet : length p ≡ packet_size
  pub listed : c.count ≤ most_listed
  pub sound : rooms_sound c.half m ≡ true
  pub places : n + most ≤ least_capacity
  pub numbers : number_capacity ≤ length list

pub record Judgeable (c : Core) (p counters m list : List ℕ) (n : ℕ) : Type 0 where
  pub ready : Ready c m p list n 65
  pub table : length counters ≡ table_size
  pub run : c.run ≤ 4

pub record Done (x : AfterStep) (most : ℕ) (c : Core) (table m before : List ℕ) (n : ℕ) (after : List ℕ) (r : ℕ) : Type 0 where
  pub core : c ≡ x.held.core
  pub counters : table ≡ x.counters
  pub memory : m ≡ x.held.memory
  pub next : r ≡ n + length x.events
  pub laid : after ≡ events_laid before n x.events
  pub few : r ≤ n + most

abbrev pub fault_events : ℕ → ℕ → List ℕ → List Event
fault_events t pid fs = map (λ f. event_at t f no_cause pid) fs

abbrev pub goes_on : ControlFlow ℕ ℕ → Bool
goes_on (Continue r) = true
goes_on (Break r) = false

abbrev pub reached : ControlFlow ℕ ℕ → ℕ
reached (Continue r) = r
reached (Break r) = r

pub record CaughtAs (y : Synced) (t pid : ℕ) (c : Core) (on : Bool) (before : List ℕ) (n : ℕ) (after : List ℕ) (r : ℕ) : Type 0 where
  pub core : c ≡ y.core
  pub further : on ≡ y.further
  pub next : r ≡ n + length (fault_events t pid y.faults)
  pub laid : after ≡ events_laid before n (fault_events t pid y.faults)
  pub few : r ≤ n + 2

abbrev pub coursed : ℕ → List ℕ → ℕ → Bool → Bool → List ℕ → Held → AfterStep
coursed t p r keep take cs h =
    let g = cond keep h (dropped_room r h) in
    let a = sections_taken (arrival t r (pid_of p)) (unit_start p) (payload_of p) g in
    cond take (record { held = a.held; counters = cs; events = a.events }) (record { held = g; counters = cs; events = [] })
