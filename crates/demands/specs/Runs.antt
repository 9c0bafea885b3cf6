-- A log of calls, run by the calls themselves: demand 3 of the request ("any accepted calls from an opening, each given the state of the one
-- before and the counter table touched by nobody else"), with refused calls anywhere between. Section memory is part of the state. A call is lent
-- an event list of any length and a counter table of any length and contents, so it is refused with 2 and 3 too.
--
-- One call:
--   Given                 == what a call is given besides its time, packet and event list: state, counter table, section memory
--   call_given capacity g c == the call c, given g and an event list of capacity records: its result
-- A call of a log:
--   Lent                  == the counter table that it is lent: the log's own, as the call before left it, or another
--   Asked                 == a call of a log: the number of records of its event list, its counter table, its time and packet
--   asking capacity c     == the call c with the log's own counter table
--   lent_table l counters  == the counter table that is lent, the log's own being counters
--   lending g l           == what is given with the counter table that is lent
--   call_of g a            == the call a, given g by the one before: its result
--   table_left c lent x    == the counter table that was lent, as a call c with the result x leaves it; a clock call takes none
--   table_after g a        == that of the call a, given g
--   own_after l after counters == the log's own counter table after a call: what it leaves of it, or as it was where another was lent
--   after_call g a         == what the call after it is given
-- A log:
--   IsAccepted g a        == the call is accepted
--   TakesOwn c l          == a packet call takes the log's own counter table; a clock call takes none
--   along f g log         == what f says of each call of a log and what it is given, one after the other
--   Each P g log          == P holds of each call of a log and what it is given
--   results g log         == the results of a log's calls
--   AllAccepted g log     == every call of the log is accepted
--   OwnTable g log        == every accepted packet call takes the log's own counter table, so nobody else touches it; refused ones are lent any
--   taken g log           == the calls of a log that are accepted, in order
--   calls_of log           == times and packets alone
-- An opening:
--   opening t counters m  == what an opening at t leaves, with any section memory m
--   Opened t counters m   == the opening is accepted, and section memory has its length
use Rattle.std.specs.Prelude.{◌≡◌, List, [], ◌∷◌, map, ℕ, eqb, length}
use Rattle.lateness.specs.Gaps.{keep}
use Rattle.lateness.specs.Logs.{Call, clock, packet}
use Rattle.sections.specs.Rooms.{memory_size}
use Rattle.calls.specs.declared.State.{State}
use Rattle.calls.specs.Calls.{Result, open_refusal, open_state, open_table, packet_call, clock_call}

-- ONE CALL
pub record Given : Type 0 where
  pub state : State
  pub counters : List ℕ
  pub memory : List ℕ

abbrev pub call_given : ℕ → Given → Call (List ℕ) → Result
call_given capacity g (clock t) = clock_call g.state t g.memory capacity
call_given capacity g (packet t p) = packet_call g.state t p g.counters g.memory capacity

-- A CALL OF A LOG
pub data Lent : Type 0 where
  own : Lent
  other : List ℕ → Lent

pub record Asked : Type 0 where
  pub capacity : ℕ
  pub table : Lent
  pub call : Call (List ℕ)

abbrev pub asking : ℕ → Call (List ℕ) → Asked
asking capacity c = record { capacity = capacity; table = own; call = c }

abbrev pub lent_table : Lent → List ℕ → List ℕ
lent_table own counters = counters
lent_table (other foreign) counters = foreign

abbrev pub lending : Given → Lent → Given
lending g l = record { state = g.state; counters = lent_table l g.counters; memory = g.memory }

abbrev pub call_of : Given → Asked → Result
call_of g a = call_given a.capacity (lending g a.table) a.call

abbrev pub table_left : Call (List ℕ) → List ℕ → Result → List ℕ
table_left (clock t) lent x = lent
table_left (packet t p) lent x = x.counters

abbrev pub table_after : Given → Asked → List ℕ
table_after g a = table_left a.call (lent_table a.table g.counters) (call_of g a)

abbrev pub own_after : Lent → List ℕ → List ℕ → List ℕ
own_after own after counters = after
own_after (other foreign) after counters = counters

abbrev pub after_call : Given → Asked → Given
after_call g a =
    record {
      state = (call_of g a).state;
      counters = own_after a.table (table_after g a) g.counters;
      memory = (call_of g a).memory;
    }

-- A LOG
abbrev pub IsAccepted : Given → Asked → Type 0
IsAccepted g a = (call_of g a).refusal ≡ 0

abbrev pub TakesOwn : Call (List ℕ) → Lent → Type 0
TakesOwn (clock t) l = Unit
TakesOwn (packet t p) own = Unit
TakesOwn (packet t p) (other foreign) = ⊥

abbrev pub along : {A : Type 0} → (Given → Asked → A) → Given → List Asked → List A
along f g [] = []
along f g (a ∷ log) = f g a ∷ along f (after_call g a) log

abbrev pub Each : (Given → Asked → Type 0) → Given → List Asked → Type 0
Each P g [] = Unit
Each P g (a ∷ log) = P g a × Each P (after_call g a) log

abbrev pub results : Given → List Asked → List Result
results g log = along call_of g log

abbrev pub AllAccepted : Given → List Asked → Type 0
AllAccepted g log = Each IsAccepted g log

abbrev pub OwnTable : Given → List Asked → Type 0
OwnTable g log = Each (λ k a. IsAccepted k a → TakesOwn a.call a.table) g log

abbrev pub taken : Given → List Asked → List Asked
taken g [] = []
taken g (a ∷ log) = keep (eqb (call_of g a).refusal 0) a (taken (after_call g a) log)

abbrev pub calls_of : List Asked → List (Call (List ℕ))
calls_of log = map (λ (a : Asked). a.call) log

-- AN OPENING
abbrev pub opening : ℕ → List ℕ → List ℕ → Given
opening t counters m = record { state = open_state t counters; counters = open_table t counters; memory = m }

pub record Opened (t : ℕ) (counters m : List ℕ) : Type 0 where
  pub accepted : open_refusal t counters ≡ 0
  pub whole : length m ≡ memory_size
