use mathlib.Core.Path.{◌≡◌}
use mathlib.Core.List.{[]}
use Prim.Native.Nat.{◌*◌, ◌≤◌}
use lib.ListN.{take, drop}
use Rattle.programmes.specs.Listing.{none_listed, read_on}
use Rattle.programmes.specs.inner.Reading.{seen_in}
use Rattle.programmes.proofs.read_entries.Given as goal

abbrev pub invariant-loop-k : goal.invariant-loop-k
invariant-loop-k l = (l.l.count ≤ 16) × (read_on l.t l.old [] none_listed l.e ≡ read_on l.t l.old (seen_in (take l.k l.entries)) l.l (drop (l.k * 4) l.e))
