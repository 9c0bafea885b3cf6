-- `arrays::moves/set_half` meets its contract. Assumes nothing.
use borrow.Author.Rules.{rules}
use native.Mathlib.Omega.{arith}
use Rattle.arrays.proofs.Stores.{half_laid}
use mathlib.Core.List.{[], ◌∷◌}
use Prim.Native.Nat.{◌+◌}
use Rattle.arrays.proofs.Kept.{sync_kept}
use Rattle.arrays.specs.Lent.{halves_at}
use Rattle.arrays.proofs.moves.set_half.Goals as goal

pub returns : goal.returns
returns c = ((λ times. half_laid times c.args.words.now c.args.room c.args.n (omega arith)), sync_kept c.args.words.now (halves_at + c.args.room) (c.args.n ∷ []) (search rules) (omega arith))
