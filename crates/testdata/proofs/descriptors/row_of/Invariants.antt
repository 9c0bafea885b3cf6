use mathlib.Core.Path.{◌≡◌}
use mathlib.Core.Bool.{◌&&◌}
use lib.ListN.{length}
use Rattle.testdata.specs.Descriptors.{is_whole, sizes_right}
use Rattle.testdata.proofs.descriptors.row_of.Given as goal

abbrev pub invariant-loop-rest : goal.invariant-loop-rest
invariant-loop-rest l = (is_whole l.s ≡ is_whole l.rest) × (sizes_right l.s ≡ (l.sizes && sizes_right l.rest))

abbrev pub decreases-loop-rest : goal.decreases-loop-rest
decreases-loop-rest l = length l.rest
