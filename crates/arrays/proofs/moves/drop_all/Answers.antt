-- `arrays::moves/drop_all` meets its contract. Assumes nothing.
use borrow.Author.Rules.{rules}
use native.Mathlib.Omega.{arith}
use Prim.Native.Nat.{ℕ}
use lib.ListN.{replicate, length-replicate}
use Rattle.sections.specs.Rooms.{room_count}
use Rattle.arrays.proofs.Stores.{halves_laid}
use Rattle.arrays.proofs.Kept.{sync_kept}
use Rattle.arrays.specs.Lent.{halves_at}
use Rattle.arrays.proofs.moves.drop_all.Goals as goal

pub returns : goal.returns
returns c =
    let words = c.args.words.now in
    let laid = c.lay_halves.ensures.0 in
    ((λ times. rw laid (halves_laid times words (replicate room_count 0) (search rules) (length-replicate {A = ℕ} room_count 0))), rw laid (sync_kept words halves_at (replicate room_count 0) (search rules) (omega (arith, length-replicate {A = ℕ} room_count 0))))
