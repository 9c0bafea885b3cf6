use mathlib.Core.Path.{◌≡◌}
use mathlib.Core.Bool.{true}
use lib.ListN.{length, take, drop}
use Rattle.calls.specs.Sound.{entries_sound}
use Rattle.arrays.specs.Lent.{entries_in}
use Rattle.checks.proofs.Marks.{Marked}
use Rattle.checks.proofs.entries_sound.Given as goal

abbrev pub invariant-loop-i : goal.invariant-loop-i
invariant-loop-i l =
    (length l.marks ≡ 64)
    × Marked l.marks (drop l.i (take l.count (entries_in l.times l.words)))
    × (entries_sound (drop l.i (take l.count (entries_in l.times l.words))) ≡ true)
