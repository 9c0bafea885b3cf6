-- `sections::lay` meets its contract. Assumes nothing.
use Rattle.sections.specs.Rooms.{greatest_length, room_base}
use Rattle.sections.proofs.Stages.{room_fits, half_short}
use native.Mathlib.Omega.{arith}
use Rattle.sections.proofs.lay.Goals as goal

pub lay_at-requires-clause-mem_len : goal.lay_at-requires-clause-mem_len
lay_at-requires-clause-mem_len c =
    let args = c.args in
    let pre = c.requires in
    let fits = room_fits args.room pre.mem_len in
    rw (c.room_base.ensures, c.greatest_length.ensures)
    (fits, half_short args.mem.now (room_base args.room) (greatest_length args.room) args.half (omega (arith, fits)) pre.half_value)
