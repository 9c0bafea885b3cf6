-- `arrays::moves/set_sync` meets its contract. Assumes nothing.
use borrow.Author.Rules.{rules}
use native.Mathlib.Omega.{arith}
use mathlib.Core.Path.{◌∙◌}
use Rattle.arrays.specs.Lent.{lost_word}
use Rattle.arrays.proofs.Back.{lost_told, lost_back, run_back}
use Rattle.arrays.proofs.Stores.{sync_laid}
use Rattle.arrays.proofs.Kept.{sync_told}
use Rattle.arrays.proofs.moves.set_sync.Goals as goal

pub returns : goal.returns
returns c =
    let start = c in
    let words = start.args.words.now in
    let lost = start.args.lost in
    let run = start.args.run in
    let laid = c.from.ensures ∙ lost_told lost in
    ((λ times. rw (c.from-2.ensures, laid) (sync_laid times words (lost_word lost) run (search rules) ∙ rw (lost_back lost, run_back run (omega arith)))), rw (c.from-2.ensures, laid) (sync_told words lost run (search rules) (omega arith)))
