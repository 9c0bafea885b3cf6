-- `checks::rooms_used` meets its contract. Assumes nothing.
use mathlib.Core.Path.{refl, sym, ◌∙◌}
use native.Mathlib.Omega.{arith}
use Rattle.calls.specs.Sound.{rooms_from}
use Rattle.checks.proofs.Rooms.{listed_rooms}
use Rattle.checks.proofs.rooms_used.Goals as goal

pub returns-then-none_listed : goal.returns-then-none_listed
returns-then-none_listed c = (omega arith, λ m. listed_rooms c.args.half.now m (sym c.none_listed.ensures ∙ c.if-none_listed.true))

pub returns-else-none_listed : goal.returns-else-none_listed
unfolding rooms_from
returns-else-none_listed c = (omega arith, λ m. refl)
