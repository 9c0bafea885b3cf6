-- `arrays::lay` meets its contract. Assumes nothing.
use borrow.Author.Rules.{rules}
use Rattle.arrays.proofs.Tabled.{put_sets}
use Rattle.arrays.proofs.lay.Goals as goal

pub returns : goal.returns
returns g c = put_sets c.args.at g.row.N c.args.list.now c.copy_from_slice.new.self c.args.values c.copy_from_slice.ensures.after (search rules) c.requires
