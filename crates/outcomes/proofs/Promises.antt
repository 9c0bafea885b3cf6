-- The promises of probe::packet and probe::clock as claims of what was given (a), the result (r) and the parameters at exit (s). The contracts
-- state them in the program logic: `packet_said` and `clock_said` show that their clauses are these claims and nothing else, `packet_meets` and
-- `clock_meets` that an outcome which keeps them meets the promise as the wrong engines are held to it. Assumes nothing.
use mathlib.Core.Path.{◌≡◌, refl}
use mathlib.Core.List.{List}
use Prim.Native.Nat.{ℕ}
use seplogic.Ra.Ura.{Ura}
use base.Logic.{SProp}
use prog.Memory.{Memory}
use prog.Routine.{Routine}
use types.Logic.{Logic}
use contract.Monad.{Fun, fact}
use contract.Lifetimes.{Lfts}
use denote.Triple.Entry.{Args, Res}
use denote.Triple.Clauses.{AtExit}
use lib.ListN.{length}
use Rattle.lateness.specs.Logs.{clock, packet}
use Rattle.events.specs.declared.Event.{Event}
use Rattle.calls.specs.Calls.{packet_call, clock_call}
use Rattle.probe.specs.Done.{PacketDone, ClockDone}
use Rattle.probe.specs.contracts.packet as packet-contract
use Rattle.probe.specs.contracts.clock as clock-contract
use Rattle.outcomes.specs.Engines.{Meets}

-- THE CALLS OVER RECORDS: state, time, packet, counters, memory, events
pub record Left : Type 0 where
  pub counters : List ℕ
  pub memory : List ℕ
  pub events : List Event

abbrev pub packet_left : (κs : Lfts 4) → AtExit packet-contract.ended κs → Left
packet_left κs s = record { counters = s.1.1.1.0.now; memory = s.1.1.1.1.0.now; events = s.1.1.1.1.1.0.now }

abbrev pub packet_promise : (κs : Lfts 4) → Args packet-contract.signature κs → Res packet-contract.signature κs → AtExit packet-contract.ended κs → Type 0
packet_promise κs a r s =
    PacketDone
    (packet_call a.0 a.1.0 a.1.1.0.now a.1.1.1.0.now a.1.1.1.1.0.now (length a.1.1.1.1.1.0.now))
    r (packet_left κs s).counters (packet_left κs s).memory a.1.1.1.1.1.0.now (packet_left κs s).events

-- state, time, memory, events
abbrev pub clock_left : (κs : Lfts 2) → AtExit clock-contract.ended κs → List Event
clock_left κs s = s.1.1.1.0.now

abbrev pub clock_promise : (κs : Lfts 2) → Args clock-contract.signature κs → Res clock-contract.signature κs → AtExit clock-contract.ended κs → Type 0
clock_promise κs a r s =
    ClockDone (clock_call a.0 a.1.0 a.1.1.0.now (length a.1.1.1.0.now)) r a.1.1.1.0.now (clock_left κs s)

module _ {M : Type 1} {𝓤 : Ura M} (𝓛 : Logic 𝓤) (mem : Memory → SProp 𝓤) (run : Routine → Fun 𝓤) where
  pub packet_said : (κs : Lfts 4) (a : Args packet-contract.signature κs) (r : Res packet-contract.signature κs) (s : AtExit packet-contract.ended κs)
      → (packet-contract.clauses 𝓛 mem run κs a).ensures tt r s ≡ fact 𝓤 (packet_promise κs a r s)
  packet_said κs a r s = refl

  pub clock_said : (κs : Lfts 2) (a : Args clock-contract.signature κs) (r : Res clock-contract.signature κs) (s : AtExit clock-contract.ended κs)
      → (clock-contract.clauses 𝓛 mem run κs a).ensures tt r s ≡ fact 𝓤 (clock_promise κs a r s)
  clock_said κs a r s = refl

pub packet_meets : (κs : Lfts 4) (a : Args packet-contract.signature κs) (r : Res packet-contract.signature κs) (s : AtExit packet-contract.ended κs)
    → packet_promise κs a r s
    → Meets (record { state = a.0; counters = a.1.1.1.0.now; memory = a.1.1.1.1.0.now }) (packet a.1.0 a.1.1.0.now)
    a.1.1.1.1.1.0.now
    (record { answer = r; counters = (packet_left κs s).counters; memory = (packet_left κs s).memory; events = (packet_left κs s).events })
packet_meets κs a r s p = p

-- a clock call is lent neither a counter table nor section memory to write to
pub clock_meets : (κs : Lfts 2) (a : Args clock-contract.signature κs) (r : Res clock-contract.signature κs) (s : AtExit clock-contract.ended κs)
    (counters : List ℕ) → clock_promise κs a r s
    → Meets (record { state = a.0; counters = counters; memory = a.1.1.0.now }) (clock a.1.0) a.1.1.1.0.now
    (record { answer = r; counters = counters; memory = a.1.1.0.now; events = clock_left κs s })
clock_meets κs a r s counters p = p
