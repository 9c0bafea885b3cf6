-- `quiet::standing::ViewStanding::halves` meets its contract. Assumes nothing.
use native.Mathlib.Omega.{arith}
use mathlib.Core.Path.{ap, ◌∙◌}
use lib.ListN.{length}
use Rattle.lists.proofs.Places.{part_length}
use Rattle.sections.specs.Rooms.{room_count}
use Rattle.arrays.specs.Lent.{state_in, halves_at}
use Rattle.quiet.proofs.standing.ViewStanding.halves.Goals as goal

pub returns : goal.returns
unfolding state_in
returns c = (c.halves_of.ensures, ap length c.halves_of.ensures ∙ part_length c.args.self.now.words.now halves_at room_count (omega arith))
