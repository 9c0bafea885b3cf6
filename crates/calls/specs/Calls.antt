-- The calls: document 01, "The calls and their numbers". m is section memory, which is part of the state.
--
--   Result            == what a call leaves: refusal number (0: accepted), state, counter table, section memory, events
--   table_size         == the counter table is exactly 8,192 bytes, one for each PID
--   packet_wrong, table_wrong, capacity_wrong, time_wrong, state_wrong, order_wrong == one rung each: numbers 1 to 6 where the condition holds, else the next rung
--   open_refusal, packet_refusal, clock_refusal == the table's refusals, the lowest number where several apply
--   open_state, open_table             == opening: the state, and the counter table
--   refused_with n s counters m       == a refusal with the number n
--   held_of s m                       == what the steps of a packet are given of the state
--   stepped s t p counters m         == steps 1 to 5
--   accepted_packet, accepted_clock    == an accepted call
--   packet_call s t p counters m capacity == a packet call, for an event list of `capacity` records
--   clock_call s t m capacity             == a clock call
--   open_answer, answer_of             == what is answered by value: refusal number, number of events, state
--   handed_over es old                == the event list after a call: its events, then the records as they were
use Rattle.std.specs.Prelude.{ℕ, Bool, cond, ◌&&◌, List, [], ◌++◌, ltb, eqb, length, drop, replicate}
use Rattle.events.specs.declared.Event.{Event}
use Rattle.events.specs.Capacity.{least_capacity}
use Rattle.header.specs.Header.{packet_size}
use Rattle.calls.specs.declared.State.{State}
use Rattle.calls.specs.declared.Answer.{Answer}
use Rattle.calls.specs.Cores.{Held, late_of, opened_state}
use Rattle.calls.specs.Steps.{AfterStep, step1}
use Rattle.calls.specs.Sound.{time_sound, state_sound, byte_sound}

pub record Result : Type 0 where
  pub refusal : ℕ
  pub state : State
  pub counters : List ℕ
  pub memory : List ℕ
  pub events : List Event

abbrev pub table_size : ℕ
table_size = 8192

-- each rung: the number where its condition holds, else the next
abbrev pub packet_wrong : List ℕ → ℕ → ℕ
packet_wrong p next = cond (eqb (length p) packet_size) next 1

abbrev pub table_wrong : List ℕ → ℕ → ℕ
table_wrong counters next = cond (eqb (length counters) table_size) next 2

abbrev pub capacity_wrong : ℕ → ℕ → ℕ
capacity_wrong capacity next = cond (ltb capacity least_capacity) 3 next

abbrev pub time_wrong : ℕ → ℕ → ℕ
time_wrong t next = cond (time_sound t) next 4

abbrev pub state_wrong : Bool → ℕ → ℕ
state_wrong sound next = cond sound next 5

abbrev pub order_wrong : State → ℕ → ℕ → ℕ
order_wrong s t next = cond (ltb t s.latest) 6 next

unfoldable pub open_refusal : ℕ → List ℕ → ℕ
open_refusal t counters = table_wrong counters (time_wrong t 0)

unfoldable pub packet_refusal : State → ℕ → List ℕ → List ℕ → List ℕ → ℕ → ℕ
packet_refusal s t p counters m capacity =
    packet_wrong p (table_wrong counters (capacity_wrong capacity (time_wrong t (state_wrong (state_sound s m && byte_sound counters p) (order_wrong s t 0)))))

unfoldable pub clock_refusal : State → ℕ → List ℕ → ℕ → ℕ
clock_refusal s t m capacity = capacity_wrong capacity (time_wrong t (state_wrong (state_sound s m) (order_wrong s t 0)))

-- OPENING: takes no section memory and no event list
abbrev pub open_state : ℕ → List ℕ → State
open_state t counters = cond (eqb (open_refusal t counters) 0) (opened_state t) (opened_state 0)

abbrev pub open_table : ℕ → List ℕ → List ℕ
open_table t counters = cond (eqb (open_refusal t counters) 0) (replicate table_size 0) counters

-- A REFUSAL hands back what it was given, with no event
abbrev pub refused_with : ℕ → State → List ℕ → List ℕ → Result
refused_with n s counters m = record { refusal = n; state = s; counters = counters; memory = m; events = [] }

-- AN ACCEPTED CALL: the late events, then those of steps 1 to 5
abbrev pub held_of : State → List ℕ → Held
held_of s m = record { core = s.core; memory = m }

abbrev pub stepped : State → ℕ → List ℕ → List ℕ → List ℕ → AfterStep
stepped s t p counters m = step1 t p counters (held_of s m)

abbrev pub accepted_packet : State → ℕ → List ℕ → List ℕ → List ℕ → Result
accepted_packet s t p counters m =
    let x = stepped s t p counters m in
    record {
      refusal = 0;
      state = record { latest = t; core = x.held.core };
      counters = x.counters;
      memory = x.held.memory;
      events = late_of s.latest t s.core ++ x.events;
    }

abbrev pub accepted_clock : State → ℕ → List ℕ → List ℕ → Result
accepted_clock s t counters m =
    record { refusal = 0; state = record { latest = t; core = s.core }; counters = counters; memory = m; events = late_of s.latest t s.core }

unfoldable pub packet_call : State → ℕ → List ℕ → List ℕ → List ℕ → ℕ → Result
packet_call s t p counters m capacity =
    let accepted = accepted_packet s t p counters m in
    cond (eqb (packet_refusal s t p counters m capacity) 0) accepted (refused_with (packet_refusal s t p counters m capacity) s counters m)

unfoldable pub clock_call : State → ℕ → List ℕ → ℕ → Result
clock_call s t m capacity =
    let accepted = accepted_clock s t [] m in
    cond (eqb (clock_refusal s t m capacity) 0) accepted (refused_with (clock_refusal s t m capacity) s [] m)

-- WHAT IS HANDED BACK: an answer by value, and the event list
abbrev pub open_answer : ℕ → List ℕ → Answer
open_answer t counters = record { refusal = open_refusal t counters; n = 0; state = open_state t counters }

abbrev pub answer_of : Result → Answer
answer_of x = record { refusal = x.refusal; n = length x.events; state = x.state }

abbrev pub handed_over : List Event → List Event → List Event
handed_over es old = es ++ drop (length es) old
