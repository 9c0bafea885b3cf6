-- `probe::clock` meets its contract: the numbers that the engine laid, handed over, are the events of the definition. Assumes nothing.
use mathlib.Core.Path.{ap, refl}
use lib.ListN.{length}
use Rattle.calls.specs.declared.Answer.{Answer}
use Rattle.records.proofs.ReadBack.{handable, handed_told}
use Rattle.calls.specs.Calls.{clock_call}
use Rattle.records.proofs.Rooms.{clock_call_capacity}
use Rattle.probe.proofs.clock.Goals as goal

pub hand_over-requires : goal.hand_over-requires
hand_over-requires c =
    let a = c.args in
    let x = clock_call a.state a.time a.memory.now (length a.events.now) in
    let out = c.clock_at-out in
    let numbered = out.ensures.1 in
    handable _ _ x.events _ _ numbered (ap (λ (d : Answer). d.n) out.ensures.0) refl (clock_call_capacity a.state a.time a.memory.now (length a.events.now) numbered.few)

pub returns : goal.returns
returns c =
    let a = c.args in
    let x = clock_call a.state a.time a.memory.now (length a.events.now) in
    let out = c.clock_at-out in
    let numbered = out.ensures.1 in (
      out.ensures.0,
      handed_told _ _ x.events _ _ _ numbered (ap (λ (d : Answer). d.n) out.ensures.0) refl c.hand_over.ensures.1,
    )
