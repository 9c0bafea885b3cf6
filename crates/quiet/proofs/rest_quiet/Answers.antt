-- `quiet::rest_quiet` meets its contract. Assumes nothing.
use mathlib.Core.Path.{sym, ◌∙◌}
use Rattle.checks.proofs.Rooms.{none_rooms}
use Rattle.quiet.proofs.rest_quiet.Goals as goal

pub returns-then-none_half : goal.returns-then-none_half
returns-then-none_half c = c.if-none_half.true ∙ sym (none_rooms _ c.args.memory.now (sym c.none_half.ensures ∙ c.if-none_half.true))
