use Rattle.programmes.specs.inner.Moving.{Stayed}
use Rattle.programmes.proofs.stays.Given as goal

abbrev pub invariant-loop-k : goal.invariant-loop-k
invariant-loop-k l = Stayed l.old l.new l.half l.k
