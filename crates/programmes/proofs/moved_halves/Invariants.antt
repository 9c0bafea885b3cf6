-- The lengths before the turn's are those that moved.
use Rattle.std.proofs.Common.{◌≡◌, ◌<◌, ℕ, get_or}
use Rattle.programmes.specs.Places.{moved_half}
use Rattle.programmes.proofs.moved_halves.Given as goal

abbrev pub invariant-loop-k : goal.invariant-loop-k
invariant-loop-k l = (k : ℕ) (d : ℕ) → k < l.k → get_or l.n-items k d ≡ moved_half l.old l.new l.half k
