-- What is put together is within the line.
use Rattle.std.specs.Prelude.{◌≤◌}
use Rattle.tsevents.proofs.say.failed.Given as goal

abbrev pub invariant-loop-piece : goal.invariant-loop-piece
invariant-loop-piece l = l.at ≤ 8192
