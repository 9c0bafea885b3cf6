-- What a call leaves for the next one.
--
--   PacketLeft x r   == state, counter table and section memory of r are those of the result x of a packet call
--   ClockLeft x log r == the state of r is that of the result x of a clock call, the rest that of log
use Rattle.std.specs.Prelude.{◌≡◌}
use Rattle.calls.specs.Calls.{Result}
use Rattle.call_lines.specs.declared.run.Carried.{Carried}

abbrev pub PacketLeft : Result → Carried → Type 0
PacketLeft x r = (r.state ≡ x.state) × (r.counters ≡ x.counters) × (r.memory ≡ x.memory)

abbrev pub ClockLeft : Result → Carried → Carried → Type 0
ClockLeft x log r = (r.state ≡ x.state) × (r.counters ≡ log.counters) × (r.memory ≡ log.memory)
