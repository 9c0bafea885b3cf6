-- `songpigeon::lent::songpigeon_packet` meets its contract: the numbers that the engine laid, handed over, are the events of the definition. Assumes nothing.
use mathlib.Core.Path.{ap}
use native.Mathlib.Omega.{arith}
use lib.ListN.{length}
use Rattle.arrays.specs.Lent.{state_in}
use Rattle.arrays.specs.declared.Reply.{Reply}
use Rattle.records.proofs.ReadBack.{handable, handed_told}
use Rattle.calls.specs.Calls.{packet_call}
use Rattle.records.proofs.Rooms.{packet_call_capacity}
use Rattle.songpigeon.proofs.lent.songpigeon_packet.Goals as goal

pub hand_over-requires : goal.hand_over-requires
hand_over-requires c =
    let a = c.args in
    let x = packet_call (state_in a.times.now a.words.now) a.time a.packet.now a.counters.now a.memory.now (length a.events.now) in
    let out = c.packet_in-out in
    let numbered = out.ensures.5 in
    handable _ _ x.events _ _ numbered (ap (λ (d : Reply). d.n) out.ensures.0) (omega arith) (packet_call_capacity (state_in a.times.now a.words.now) a.time a.packet.now a.counters.now a.memory.now (length a.events.now) numbered.few)

pub returns : goal.returns
returns c =
    let a = c.args in
    let x = packet_call (state_in a.times.now a.words.now) a.time a.packet.now a.counters.now a.memory.now (length a.events.now) in
    let out = c.packet_in-out in
    let numbered = out.ensures.5 in (
      out.ensures.0,
      out.ensures.1,
      out.ensures.2,
      out.ensures.3,
      out.ensures.4,
      numbered.laid,
      handed_told _ _ x.events _ _ _ numbered (ap (λ (d : Reply). d.n) out.ensures.0) (omega arith) c.hand_over.ensures.1,
    )
