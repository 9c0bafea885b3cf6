-- A state that stands in arrays has sixteen places. Assumes nothing.
use mathlib.Core.Path.{◌≡◌}
use mathlib.Core.List.{List}
use Prim.Native.Nat.{ℕ}
use lib.ListN.{length}
use Rattle.programmes.specs.Listing.{most_listed}
use Rattle.arrays.specs.Lent.{state_in}
use Rattle.arrays.proofs.Stores.{entries_length}

pub state_places : (times words : List ℕ) → length (state_in times words).core.entries ≡ most_listed
unfolding state_in
state_places times words = entries_length times words
