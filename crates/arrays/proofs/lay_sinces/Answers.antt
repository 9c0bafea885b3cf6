-- `arrays::lay_sinces` meets its contract. Assumes nothing.
use borrow.Author.Rules.{rules}
use mathlib.Core.Path.{ap, ◌∙◌}
use lib.Seq.{sets}
use Rattle.watches.specs.Tables.{no_entry}
use Rattle.arrays.specs.Lent.{sinces_at}
use Rattle.arrays.proofs.Tabled.{mapped}
use Rattle.arrays.proofs.lay_sinces.Goals as goal

pub returns : goal.returns
returns c = c.lay.ensures ∙ ap (sets c.args.times.now sinces_at) (mapped (λ e. e.since) no_entry (λ p x y q k. search rules) (search rules) c.map.ensures.items)
