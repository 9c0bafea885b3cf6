-- `arrays::entries_in` meets its contract. Assumes nothing.
use mathlib.Core.Path.{◌≡◌, ◌∙◌}
use mathlib.Core.List.{List}
use Prim.Native.Nat.{◌<◌}
use native.Mathlib.Omega.{arith}
use lib.ListN.{replicate}
use Rattle.watches.specs.declared.Entry.{Entry}
use Rattle.watches.specs.Tables.{no_entry}
use Rattle.programmes.specs.Listing.{most_listed}
use Rattle.arrays.specs.Lent.{entry_in}
use Rattle.arrays.proofs.Tabled.{filled_none, filled_turn, filled_all}
use Rattle.arrays.proofs.entries_in.Goals as goal

-- the entries before the first turn
abbrev blank : List Entry
blank = replicate most_listed no_entry

pub loop-k-init : goal.loop-k-init
loop-k-init c = (omega arith, filled_none _ _)

pub loop-k-preserved : goal.loop-k-preserved
loop-k-preserved c =
    let loop = c.loop-k in
    let a = c.args in
    let h : loop.k < most_listed = omega (arith, c.listed_in-n.ensures) in
    (omega arith, rw (loop.invariant.1, c.entry_at.ensures) (filled_turn (entry_in a.times.now a.words.now) loop.k blank h))

pub loop-k-2-init : goal.loop-k-2-init
loop-k-2-init c = (omega (arith, c.listed_in-n.ensures), c.loop-k.invariant.1)

pub loop-k-2-preserved : goal.loop-k-2-preserved
loop-k-2-preserved c =
    let loop = c.loop-k-2 in
    let a = c.args in
    (omega arith, rw (loop.invariant.1, c.entry_at-in-loop-k-2.ensures) (filled_turn (entry_in a.times.now a.words.now) loop.k blank (omega arith)))

pub returns : goal.returns
returns c =
    let k : c.loop-k-2.k ≡ most_listed = omega arith in
    c.loop-k-2.invariant.1 ∙ rw k (filled_all _ most_listed blank (omega arith))
