-- `arrays::halves_in` meets its contract. Assumes nothing.
use mathlib.Core.Path.{sym, ap, ◌∙◌}
use native.Mathlib.Omega.{arith}
use lib.ListN.{length}
use Rattle.lists.proofs.Places.{part_length}
use Rattle.sections.specs.Rooms.{room_count}
use Rattle.arrays.specs.Lent.{halves_at}
use Rattle.arrays.proofs.halves_in.Goals as goal

pub copy_from_slice-requires : goal.copy_from_slice-requires
copy_from_slice-requires c = sym (ap length c.halves_of.ensures ∙ part_length c.args.words.now halves_at room_count (omega arith))
