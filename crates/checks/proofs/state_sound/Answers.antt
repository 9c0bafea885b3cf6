-- `checks::state_sound` meets its contract. Assumes nothing.
use native.Mathlib.Omega.{arith}
use mathlib.Core.Path.{ap, ◌∙◌}
use lib.ListN.{length}
use Rattle.lists.proofs.Places.{part_length}
use Rattle.sections.specs.Rooms.{room_count}
use Rattle.arrays.specs.Lent.{halves_at}
use Rattle.checks.proofs.state_sound.Goals as goal

pub rest_sound-requires : goal.rest_sound-requires
rest_sound-requires c = ap length c.halves_of.ensures ∙ part_length c.args.words.now halves_at room_count (omega arith)
