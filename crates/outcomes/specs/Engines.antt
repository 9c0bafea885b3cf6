-- What an engine may leave of a call, right or wrong: document 01, "How the promises are judged" ("Try these against it: ...").
--
--   Outcome            == an answer, and the counter table, the section memory and the event list as they are left; a clock call is lent the
--                         list alone
--   Meets g c old o    == the outcome o of the call c, given g and lent the event list old, meets the promise of probe::packet or probe::clock
--   right_outcome       == the outcome that the definitions give
--   Refuses o          == it answers another number than 0
--   events_in o         == the events that it says it has written
--   next g c o         == what the call after it is given
--   start, records     == the opening at time 0, and an event list of the least capacity
--   pat_at t es         == a packet with a good PAT of the entries es
--   pmt_at t n          == one with a PMT of the programme n, on PID 0x100
--   plain_at t          == one on PID 0 that begins no section
--   counted_at t        == one on PID 0x100 with the counter 3
use Rattle.std.specs.Prelude.{◌≡◌, List, [], ℕ, length, take, replicate}
use Rattle.lateness.specs.Logs.{Call, clock, packet}
use Rattle.events.specs.declared.Event.{Event}
use Rattle.events.specs.Events.{event_at}
use Rattle.events.specs.Capacity.{least_capacity}
use Rattle.sections.specs.Rooms.{memory_size}
use Rattle.calls.specs.declared.Answer.{Answer}
use Rattle.calls.specs.Calls.{answer_of, handed_over, table_size}
use Rattle.calls.specs.Cores.{opened_state}
use Rattle.demands.specs.Runs.{Given, call_given}
use Rattle.examples.specs.Packets.{packet_of, pat_of, pmt_of, starting}
use Rattle.probe.specs.Done.{PacketDone, ClockDone}

pub record Outcome : Type 0 where
  pub answer : Answer
  pub counters : List ℕ
  pub memory : List ℕ
  pub events : List Event

abbrev pub Meets : Given → Call (List ℕ) → List Event → Outcome → Type 0
Meets g (clock t) old o = ClockDone (call_given (length old) g (clock t)) o.answer old o.events
Meets g (packet t p) old o = PacketDone (call_given (length old) g (packet t p)) o.answer o.counters o.memory old o.events

abbrev pub right_outcome : Given → Call (List ℕ) → List Event → Outcome
right_outcome g c old =
    let x = call_given (length old) g c in
    record { answer = answer_of x; counters = x.counters; memory = x.memory; events = handed_over x.events old }

abbrev pub Refuses : Outcome → Type 0
Refuses o = o.answer.refusal ≡ 0 → ⊥

abbrev pub events_in : Outcome → List Event
events_in o = take o.answer.n o.events

abbrev pub next : Given → Call (List ℕ) → Outcome → Given
next g (clock t) o = record { state = o.answer.state; counters = g.counters; memory = g.memory }
next g (packet t p) o = record { state = o.answer.state; counters = o.counters; memory = o.memory }

-- A LOG for the wrong engines
abbrev pub start : Given
start = record { state = opened_state 0; counters = replicate table_size 0; memory = replicate memory_size 0 }

abbrev pub records : List Event
records = replicate least_capacity (event_at 0 0 0 0)

abbrev pub pat_at : ℕ → List ℕ → Call (List ℕ)
pat_at t es = packet t (packet_of 0x47 1 0 0 (starting (pat_of es)))

abbrev pub pmt_at : ℕ → ℕ → Call (List ℕ)
pmt_at t n = packet t (packet_of 0x47 1 0x100 0 (starting (pmt_of n)))

abbrev pub plain_at : ℕ → Call (List ℕ)
plain_at t = packet t (packet_of 0x47 0 0 0 [])

abbrev pub counted_at : ℕ → Call (List ℕ)
counted_at t = packet t (packet_of 0x47 0 0x100 3 [])
