-- `arrays::moves/lay_list` meets its contract. Assumes nothing.
use borrow.Author.Rules.{rules}
use native.Mathlib.Omega.{arith}
use Rattle.arrays.proofs.Stores.{list_laid}
use Rattle.arrays.proofs.Kept.{list_kept}
use Rattle.arrays.proofs.moves.lay_list.Goals as goal

pub returns : goal.returns
returns c =
    let start = c in
    let times = start.args.times.now in
    let words = start.args.words.now in
    let laid = list_laid times words start.args.entries start.args.count (omega arith) (omega arith) (search rules) in
    let kept = list_kept times words start.args.entries start.args.count (omega arith) (omega arith) (search rules) in
    (rw (c.lay_pairs.ensures, c.lay_sinces.ensures) laid, rw (c.lay_pairs.ensures, c.lay_sinces.ensures) kept)
