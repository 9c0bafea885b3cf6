use mathlib.Core.Path.{◌≡◌}
use Prim.Native.Nat.{◌-◌, ◌≤◌}
use lib.ListN.{replicate}
use Rattle.watches.specs.Tables.{no_entry}
use Rattle.programmes.specs.Listing.{most_listed}
use Rattle.arrays.specs.Lent.{entry_in}
use Rattle.arrays.proofs.Tabled.{filled}
use Rattle.arrays.proofs.entries_in.Given as goal

abbrev pub invariant-loop-k : goal.invariant-loop-k
invariant-loop-k l = (l.k ≤ l.n) × (l.out ≡ filled (entry_in l.times l.words) l.k (replicate most_listed no_entry))

abbrev pub decreases-loop-k : goal.decreases-loop-k
decreases-loop-k l = l.n - l.k

abbrev pub invariant-loop-k-2 : goal.invariant-loop-k-2
invariant-loop-k-2 l = (l.k ≤ most_listed) × (l.out ≡ filled (entry_in l.times l.words) l.k (replicate most_listed no_entry))

abbrev pub decreases-loop-k-2 : goal.decreases-loop-k-2
decreases-loop-k-2 l = most_listed - l.k
