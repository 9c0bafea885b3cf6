-- `quiet::tables_quiet` meets its contract. Assumes nothing.
use Rattle.std.proofs.Common.{rules}
use Rattle.quiet.proofs.Turns.{five_quiet}
use Rattle.quiet.proofs.tables_quiet.Goals as goal

pub returns-then-gap_quiet-4 : goal.returns-then-gap_quiet-4
returns-then-gap_quiet-4 c = rw (five_quiet c.args.p c.args.t c.args.since.now c.requires) (search rules)

pub returns-else-gap_quiet-4 : goal.returns-else-gap_quiet-4
returns-else-gap_quiet-4 c = rw (five_quiet c.args.p c.args.t c.args.since.now c.requires) (search rules)
