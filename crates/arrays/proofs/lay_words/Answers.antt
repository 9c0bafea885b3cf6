-- `arrays::lay_words` meets its contract. Assumes nothing.
use borrow.Author.Rules.{rules}
use mathlib.Core.Path.{◌∙◌}
use Rattle.arrays.proofs.Back.{lost_told}
use Rattle.arrays.proofs.Packing.{words_laid, words_length, words_whole}
use Rattle.arrays.proofs.lay_words.Goals as goal

pub returns : goal.returns
returns c =
    let start = c in
    let state = start.args.state in
    let words = start.args.words.now in
    c.lay.ensures
    ∙ rw (c.from-run.ensures, c.from-lost.ensures ∙ lost_told state.core.lost, c.count_word.ensures, c.lay_halves.ensures.0, c.lay_pairs.ensures)
    (words_laid state (search rules) words (search rules))
    ∙ words_whole state words (words_length state (search rules) (search rules)) (search rules)
