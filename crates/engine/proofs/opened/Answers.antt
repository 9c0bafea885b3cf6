-- `engine::opened` meets its contract. Assumes nothing.
use Rattle.std.proofs.Common.{rules}
use mathlib.Core.Path.{sym}
use Rattle.engine.proofs.Ends.{open_done}
use Rattle.engine.proofs.opened.Goals as goal

pub returns : goal.returns
returns c = open_done c.args.time c.args.counters.now c.opened_at.result c.clear.new.counters (sym c.in_ok-check_open.ensures) c.opened_at.ensures (search rules)
