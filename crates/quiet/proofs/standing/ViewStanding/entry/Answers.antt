-- `quiet::standing::ViewStanding::entry` meets its contract. Assumes nothing.
use native.Mathlib.Omega.{arith}
use mathlib.Core.Path.{sym, ◌∙◌}
use Rattle.arrays.specs.Lent.{state_in}
use Rattle.arrays.proofs.Stores.{entry_at}
use Rattle.quiet.proofs.standing.ViewStanding.entry.Goals as goal

pub returns : goal.returns
unfolding state_in
returns c = c.entry_at.ensures ∙ sym (entry_at c.args.self.now.times.now c.args.self.now.words.now c.args.k (omega arith))
