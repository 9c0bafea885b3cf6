-- `arrays::moves/half_in` meets its contract. Assumes nothing.
use mathlib.Core.Path.{sym}
use native.Mathlib.Omega.{arith}
use Rattle.lists.proofs.Places.{part_at}
use Rattle.sections.specs.Rooms.{room_count}
use Rattle.arrays.specs.Lent.{halves_at}
use Rattle.arrays.proofs.moves.half_in.Goals as goal

pub returns : goal.returns
returns c =
    let start = c in
    sym (part_at start.args.words.now halves_at room_count start.args.room 0 (omega arith))
