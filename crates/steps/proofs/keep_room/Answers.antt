-- `steps::keep_room` meets its contract. Assumes nothing.
use borrow.Author.Rules.{rules}
use mathlib.Core.Path.{sym, ◌∙◌}
use native.Mathlib.Omega.{arith}
use lib.Seq.{set_out}
use Rattle.lists.proofs.Places.{part_length}
use Rattle.sections.specs.Rooms.{room_count}
use Rattle.arrays.specs.Lent.{halves_in, halves_at}
use Rattle.arrays.proofs.Kept.{sync_same}
use Rattle.steps.proofs.Rooms.{within_past}
use Rattle.steps.proofs.keep_room.Goals as goal

pub returns-in_default : goal.returns-in_default
returns-in_default c =
    let words = c.args.words.now in
    ((λ times r e. rw (c.if-keep.false, set_out (halves_in words) r 0 (omega (arith, part_length words halves_at room_count (omega arith), within_past room_count r (sym c.in_default.is ∙ e))))), sync_same (search rules))
