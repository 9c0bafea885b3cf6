-- `quiet::standing::ViewStanding::gaps` meets its contract. Assumes nothing.
use native.Mathlib.Omega.{arith}
use mathlib.Core.Path.{ap, ◌∙◌}
use lib.ListN.{length}
use Rattle.lists.proofs.Places.{part_length}
use Rattle.watches.specs.Tables.{fixed_count}
use Rattle.arrays.specs.Lent.{state_in, gaps_at}
use Rattle.quiet.proofs.standing.ViewStanding.gaps.Goals as goal

pub returns : goal.returns
unfolding state_in
returns c = (c.gaps_of.ensures, ap length c.gaps_of.ensures ∙ part_length c.args.self.now.times.now gaps_at fixed_count (omega arith))
