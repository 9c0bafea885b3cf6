-- `arrays::moves/place_in` meets its contract. Assumes nothing.
use native.Mathlib.Omega.{arith}
use mathlib.Core.Path.{ap, ◌∙◌}
use Prim.Native.Nat.{◌≤◌}
use lib.Dec.{eqb}
use lib.ListN.{take, drop}
use Rattle.std.specs.List.{position}
use Rattle.lists.specs.Places.{part}
use Rattle.programmes.specs.Listing.{most_listed}
use Rattle.arrays.specs.Lent.{pids_at}
use Rattle.arrays.proofs.Places.{place_found}
use Rattle.arrays.proofs.moves.place_in.Goals as goal

pub returns : goal.returns
unfolding part
returns c =
    let words = c.args.words.now in
    let pid = c.args.pid in
    let few : c.count_in.result ≤ most_listed = omega (arith, c.count_in.ensures, c.requires.1) in
    let found = c.first_with.ensures ∙ ap (λ k. position (λ p. eqb p pid) (take k (drop pids_at words))) (omega arith) in
    λ times. place_found times words pid c.count_in.result c.first_with.result c.count_in.ensures c.requires.0 few found
