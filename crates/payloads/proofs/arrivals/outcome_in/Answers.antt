-- `payloads::arrivals/outcome_in` meets its contract. Assumes nothing.
use Rattle.sections.specs.Rooms.{room_base}
use Rattle.lists.proofs.Places.{part_lent}
use Rattle.payloads.proofs.arrivals.outcome_in.Goals as goal

pub returns : goal.returns
returns c =
    let args = c.args in
    rw (part_lent args.memory.now (room_base args.a.room) args.size) at (rw c.room_base-base.ensures at c.outcome_of.ensures)
