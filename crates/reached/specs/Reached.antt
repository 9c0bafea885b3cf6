-- What came from opening through the calls: document 01, "The calls and their numbers" ("Number 5 is never given for a state and table that
-- came from opening through these calls").
--
--   Bytes l             == each number of l is a byte
--   Reached s m counters == the state s, section memory m and the counter table came from an accepted opening, with any contents of section
--                          memory, through packet and clock calls, each given what the one before left, whether it was accepted or refused
use Rattle.std.specs.Prelude.{◌≡◌, List, ℕ, ◌<◌, length, get_or}
use Rattle.sections.specs.Rooms.{memory_size}
use Rattle.calls.specs.declared.State.{State}
use Rattle.calls.specs.Calls.{open_refusal, open_state, open_table, packet_call, clock_call}

abbrev pub Bytes : List ℕ → Type 0
Bytes l = (k : ℕ) → get_or l k 0 < 256

pub data Reached : State → List ℕ → List ℕ → Type 0 where
  opening : (t : ℕ) (counters m : List ℕ) → open_refusal t counters ≡ 0 → length m ≡ memory_size → Bytes m
      → Reached (open_state t counters) m (open_table t counters)
  packet : (s : State) (m counters : List ℕ) (t : ℕ) (p : List ℕ) (capacity : ℕ) → Reached s m counters → Bytes p
      → Reached (packet_call s t p counters m capacity).state (packet_call s t p counters m capacity).memory (packet_call s t p counters m capacity).counters
  clock : (s : State) (m counters : List ℕ) (t capacity : ℕ) → Reached s m counters
      → Reached (clock_call s t m capacity).state (clock_call s t m capacity).memory counters
