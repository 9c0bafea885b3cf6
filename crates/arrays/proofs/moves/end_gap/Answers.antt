-- `arrays::moves/end_gap` meets its contract. Assumes nothing.
use borrow.Author.Rules.{rules}
use native.Mathlib.Omega.{arith}
use Rattle.arrays.proofs.Stores.{gap_laid}
use mathlib.Core.List.{[], ◌∷◌}
use Prim.Native.Nat.{◌+◌}
use Rattle.arrays.proofs.Kept.{latest_kept}
use Rattle.arrays.proofs.moves.end_gap.Goals as goal

pub returns : goal.returns
returns c = ((λ words. gap_laid c.args.times.now words c.args.room c.args.time (omega arith)), latest_kept c.args.times.now (1 + c.args.room) (c.args.time ∷ []) (search rules) (omega arith))
