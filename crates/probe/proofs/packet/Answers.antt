-- `probe::packet` meets its contract: the numbers that the engine laid, handed over, are the events of the definition. Assumes nothing.
use mathlib.Core.Path.{ap, refl}
use lib.ListN.{length}
use Rattle.calls.specs.declared.Answer.{Answer}
use Rattle.records.proofs.ReadBack.{handable, handed_told}
use Rattle.calls.specs.Calls.{packet_call}
use Rattle.records.proofs.Rooms.{packet_call_capacity}
use Rattle.probe.proofs.packet.Goals as goal

pub hand_over-requires : goal.hand_over-requires
hand_over-requires c =
    let a = c.args in
    let x = packet_call a.state a.time a.packet.now a.counters.now a.memory.now (length a.events.now) in
    let out = c.packet_at-out in
    let numbered = out.ensures.3 in
    handable _ _ x.events _ _ numbered (ap (λ (d : Answer). d.n) out.ensures.0) refl (packet_call_capacity a.state a.time a.packet.now a.counters.now a.memory.now (length a.events.now) numbered.few)

pub returns : goal.returns
returns c =
    let a = c.args in
    let x = packet_call a.state a.time a.packet.now a.counters.now a.memory.now (length a.events.now) in
    let out = c.packet_at-out in
    let numbered = out.ensures.3 in (
      out.ensures.0,
      out.ensures.1,
      out.ensures.2,
      handed_told _ _ x.events _ _ _ numbered (ap (λ (d : Answer). d.n) out.ensures.0) refl c.hand_over.ensures.1,
    )
