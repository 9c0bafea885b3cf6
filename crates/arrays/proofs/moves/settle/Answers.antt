-- `arrays::moves/settle` meets its contract. Assumes nothing.
use borrow.Author.Rules.{rules}
use mathlib.Core.Path.{sym, ◌∙◌}
use Rattle.arrays.specs.Lent.{sync_lost}
use Rattle.arrays.proofs.Back.{lost_told}
use Rattle.arrays.proofs.Same.{times_same, words_told}
use Rattle.arrays.proofs.moves.settle.Goals as goal

pub returns : goal.returns
returns c =
    let start = c in
    let times = start.args.times.now in
    let words = start.args.words.now in
    (sym (times_same times words start.args.time (search rules)), rw (c.from.ensures ∙ lost_told (sync_lost words)) (words_told times words start.args.time (search rules) (search rules) (search rules)))
