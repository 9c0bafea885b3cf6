-- What a call over a lent list of records has done: document 01, "The calls and their numbers" ("returns its number, the given state ..., n = 0;
-- no lent memory is written"; "writes its n events to the first n records, leaves the others untouched and returns n").
--
--   PacketDone x r counters memory old events == the result x of a packet call is what was done: r is its answer, the counter table, the section
--                  memory and the list are left as it says; old is the list before
--   ClockDone x r old events == the same of a clock call, which writes the list alone
use Rattle.std.specs.Prelude.{◌≡◌, List, ℕ}
use Rattle.events.specs.declared.Event.{Event}
use Rattle.calls.specs.declared.Answer.{Answer}
use Rattle.calls.specs.Calls.{Result, answer_of, handed_over}

abbrev pub PacketDone : Result → Answer → List ℕ → List ℕ → List Event → List Event → Type 0
PacketDone x r counters memory old events =
    (r ≡ answer_of x) × (counters ≡ x.counters) × (memory ≡ x.memory) × (events ≡ handed_over x.events old)

abbrev pub ClockDone : Result → Answer → List Event → List Event → Type 0
ClockDone x r old events = (r ≡ answer_of x) × (events ≡ handed_over x.events old)
