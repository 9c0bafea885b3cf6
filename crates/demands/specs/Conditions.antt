-- The table of refusals, in its own words: document 01, "The calls and their numbers", and demand 2 of the request.
--
--   PacketWrong, TableWrong, ListShort, TimeAbove == the conditions 1 to 4
--   OrderWrong       == the condition 6
--   entry_at es k     == the listed programme at the place k
--   ListWrong es     == what of number 5 is said of listed programmes
--   RoomWrong r ns m == half-built bytes of the room r that already make a whole section or break the section_length rule
--   StateWrong s m   == what is said of the state
--   ByteWrong b      == the table byte of the packet's PID is not 0, 16..31 or 48..63
--   Rung k C next n  == the number n is k where the condition C holds, and what the next rungs say where it does not
--   Accepted n       == the last rung: n is 0
--   OpenNumber, PacketNumber, ClockNumber == the numbers of each call: the lowest wins, and none is 0, accepted
--   SeverityNumber   == that of severity
--   own_events g c    == the events of steps 1 to 5, in their order; a clock call has none
use Rattle.std.specs.Prelude.{◌≡◌, cond, ◌⊎◌, List, [], ℕ, ◌≤◌, ◌<◌, length, get_or}
use Rattle.lateness.specs.Logs.{Call, clock, packet}
use Rattle.severity.specs.Severity as severity
use Rattle.events.specs.declared.Event.{Event}
use Rattle.events.specs.Capacity.{least_capacity}
use Rattle.watches.specs.declared.Entry.{Entry}
use Rattle.watches.specs.Tables.{no_entry, latest_time}
use Rattle.header.specs.Header.{packet_size, pid_of}
use Rattle.sections.specs.declared.Stage.TheVariants.{Bad, Whole}
use Rattle.sections.specs.Section.{stage_of}
use Rattle.sections.specs.Rooms.{room_count, greatest_length, half_built}
use Rattle.programmes.specs.Places.{half_at}
use Rattle.programmes.specs.Listing.{most_listed, lowest_pid}
use Rattle.calls.specs.declared.State.{State}
use Rattle.calls.specs.Sound.{greatest_pid}
use Rattle.calls.specs.Steps.{step1}
use Rattle.calls.specs.Calls.{table_size, held_of}
use Rattle.calls.specs.Cores.{listed}
use Rattle.demands.specs.Runs.{Given}

-- 1, 2, 3, 4
abbrev pub PacketWrong : List ℕ → Type 0
PacketWrong p = length p ≡ packet_size → ⊥

abbrev pub TableWrong : List ℕ → Type 0
TableWrong counters = length counters ≡ table_size → ⊥

abbrev pub ListShort : ℕ → Type 0
ListShort capacity = capacity < least_capacity

abbrev pub TimeAbove : ℕ → Type 0
TimeAbove t = latest_time < t

-- 5
abbrev pub entry_at : List Entry → ℕ → Entry
entry_at es k = get_or es k no_entry

pub data ListWrong (es : List Entry) : Type 0 where
  number_zero : (k : ℕ) → k < length es → (entry_at es k).number ≡ 0 → ListWrong es
  listed_twice : (i k : ℕ) → i < k → k < length es → (entry_at es i).number ≡ (entry_at es k).number → ListWrong es
  pid_below : (k : ℕ) → k < length es → (entry_at es k).pid < lowest_pid → ListWrong es
  pid_above : (k : ℕ) → k < length es → greatest_pid < (entry_at es k).pid → ListWrong es
  gap_above : (k : ℕ) → k < length es → TimeAbove (entry_at es k).since → ListWrong es

pub data RoomWrong (r : ℕ) (ns m : List ℕ) : Type 0 where
  whole_section : stage_of (greatest_length r) (half_built m r (half_at ns r)) ≡ Whole → RoomWrong r ns m
  length_broken : stage_of (greatest_length r) (half_built m r (half_at ns r)) ≡ Bad → RoomWrong r ns m

pub data StateWrong (s : State) (m : List ℕ) : Type 0 where
  latest_above : TimeAbove s.latest → StateWrong s m
  since_above : (k : ℕ) → TimeAbove (get_or s.core.since k 0) → StateWrong s m
  many_listed : most_listed < s.core.count → StateWrong s m
  list_wrong : ListWrong (listed s.core) → StateWrong s m
  run_above : cond s.core.lost 4 1 < s.core.run → StateWrong s m
  room_wrong : (r : ℕ) → r < room_count → RoomWrong r s.core.half m → StateWrong s m

pub record ByteWrong (b : ℕ) : Type 0 where
  pub seen : b ≡ 0 → ⊥
  pub last : 16 ≤ b → b ≤ 31 → ⊥
  pub repeated : 48 ≤ b → b ≤ 63 → ⊥

-- 6
abbrev pub OrderWrong : State → ℕ → Type 0
OrderWrong s t = t < s.latest

-- THE LOWEST NUMBER WINS
abbrev pub Rung : ℕ → Type 0 → (ℕ → Type 0) → ℕ → Type 0
Rung k C next n = (C × (n ≡ k)) ⊎ ((C → ⊥) × next n)

abbrev pub Accepted : ℕ → Type 0
Accepted n = n ≡ 0

abbrev pub OpenNumber : ℕ → List ℕ → ℕ → Type 0
OpenNumber t counters = Rung 2 (TableWrong counters) (Rung 4 (TimeAbove t) Accepted)

abbrev pub PacketNumber : State → ℕ → List ℕ → List ℕ → List ℕ → ℕ → ℕ → Type 0
PacketNumber s t p counters m capacity =
    Rung 1 (PacketWrong p)
    (Rung 2 (TableWrong counters)
    (Rung 3 (ListShort capacity)
    (Rung 4 (TimeAbove t) (Rung 5 (StateWrong s m ⊎ ByteWrong (get_or counters (pid_of p) 0)) (Rung 6 (OrderWrong s t) Accepted)))))

abbrev pub ClockNumber : State → ℕ → List ℕ → ℕ → ℕ → Type 0
ClockNumber s t m capacity = Rung 3 (ListShort capacity) (Rung 4 (TimeAbove t) (Rung 5 (StateWrong s m) (Rung 6 (OrderWrong s t) Accepted)))

abbrev pub SeverityNumber : ℕ → ℕ → Type 0
SeverityNumber kind = Rung 7 (length severity.table ≤ kind) Accepted

-- AN ACCEPTED CALL's own events
abbrev pub own_events : Given → Call (List ℕ) → List Event
own_events g (clock t) = []
own_events g (packet t p) = (step1 t p g.counters (held_of g.state g.memory)).events
