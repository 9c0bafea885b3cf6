-- `arrays::moves/gaps_of` meets its contract. Assumes nothing.
use mathlib.Core.Path.{refl}
use Rattle.lists.specs.Places.{part}
use Rattle.arrays.proofs.moves.gaps_of.Goals as goal

pub returns : goal.returns
unfolding part
returns c = refl
