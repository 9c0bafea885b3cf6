-- `arrays::gaps_in` meets its contract. Assumes nothing.
use mathlib.Core.Path.{sym, ap, ◌∙◌}
use native.Mathlib.Omega.{arith}
use lib.ListN.{length}
use Rattle.lists.proofs.Places.{part_length}
use Rattle.watches.specs.Tables.{fixed_count}
use Rattle.arrays.specs.Lent.{gaps_at}
use Rattle.arrays.proofs.gaps_in.Goals as goal

pub copy_from_slice-requires : goal.copy_from_slice-requires
copy_from_slice-requires c = sym (ap length c.gaps_of.ensures ∙ part_length c.args.times.now gaps_at fixed_count (omega arith))
