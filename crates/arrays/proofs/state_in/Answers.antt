-- `arrays::state_in` meets its contract. Assumes nothing.
use Rattle.arrays.specs.Lent.{state_in}
use Rattle.arrays.proofs.state_in.Goals as goal

pub returns : goal.returns
unfolding state_in
returns c =
    rw (c.sync_lost.ensures, c.sync_run.ensures, c.gaps_in.ensures, c.count_in.ensures, c.entries_in.ensures, c.halves_in.ensures)
