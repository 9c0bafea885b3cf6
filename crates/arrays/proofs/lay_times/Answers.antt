-- `arrays::lay_times` meets its contract. Assumes nothing.
use borrow.Author.Rules.{rules}
use mathlib.Core.Path.{◌∙◌}
use Rattle.arrays.proofs.Packing.{times_laid, times_length, times_whole}
use Rattle.arrays.proofs.lay_times.Goals as goal

pub returns : goal.returns
returns c =
    let start = c in
    let state = start.args.state in
    let times = start.args.times.now in
    c.lay_sinces.ensures
    ∙ rw c.lay.ensures (times_laid state (search rules) times (search rules))
    ∙ times_whole state times (times_length state (search rules) (search rules)) (search rules)
