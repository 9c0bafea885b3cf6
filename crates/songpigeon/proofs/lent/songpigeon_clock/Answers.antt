-- `songpigeon::lent::songpigeon_clock` meets its contract: the numbers that the engine laid, handed over, are the events of the definition. Assumes nothing.
use mathlib.Core.Path.{ap}
use native.Mathlib.Omega.{arith}
use lib.ListN.{length}
use Rattle.arrays.specs.Lent.{state_in}
use Rattle.arrays.specs.declared.Reply.{Reply}
use Rattle.records.proofs.ReadBack.{handable, handed_told}
use Rattle.calls.specs.Calls.{clock_call}
use Rattle.records.proofs.Rooms.{clock_call_capacity}
use Rattle.songpigeon.proofs.lent.songpigeon_clock.Goals as goal

pub hand_over-requires : goal.hand_over-requires
hand_over-requires c =
    let a = c.args in
    let x = clock_call (state_in a.times.now a.words.now) a.time a.memory.now (length a.events.now) in
    let out = c.clock_in-out in
    let numbered = out.ensures.3 in
    handable _ _ x.events _ _ numbered (ap (λ (d : Reply). d.n) out.ensures.0) (omega arith) (clock_call_capacity (state_in a.times.now a.words.now) a.time a.memory.now (length a.events.now) numbered.few)

pub returns : goal.returns
returns c =
    let a = c.args in
    let x = clock_call (state_in a.times.now a.words.now) a.time a.memory.now (length a.events.now) in
    let out = c.clock_in-out in
    let numbered = out.ensures.3 in (
      out.ensures.0,
      out.ensures.1,
      out.ensures.2,
      numbered.laid,
      handed_told _ _ x.events _ _ _ numbered (ap (λ (d : Reply). d.n) out.ensures.0) (omega arith) c.hand_over.ensures.1,
    )
