use mathlib.Core.Path.{◌≡◌}
use lib.ListN.{length, take, drop}
use Rattle.quiet.specs.inner.Quiet.{entries_quiet, unmarked}
use Rattle.quiet.proofs.entries_quiet.Given as goal

abbrev pub invariant-loop-k : goal.invariant-loop-k
invariant-loop-k g l =
    let es = (g.S.Standing.state l.standing).core.entries in
    (length l.marks ≡ 64) × (entries_quiet l.p l.t l.q unmarked (take l.count es) ≡ entries_quiet l.p l.t l.q l.marks (drop l.k (take l.count es)))
