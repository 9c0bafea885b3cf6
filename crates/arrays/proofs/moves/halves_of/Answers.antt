-- `arrays::moves/halves_of` meets its contract. Assumes nothing.
use mathlib.Core.Path.{refl}
use Rattle.lists.specs.Places.{part}
use Rattle.arrays.proofs.moves.halves_of.Goals as goal

pub returns : goal.returns
unfolding part
returns c = refl
