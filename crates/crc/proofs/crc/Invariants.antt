use mathlib.Core.Path.{◌≡◌}
use Prim.Native.Nat.{◌+◌, ◌*◌, ◌/◌}
use lib.ListN.{length, take}
use Rattle.crc.specs.Crc.{crc_of}
use Rattle.crc.specs.inner.Wide.{register_of}
use Rattle.crc.proofs.crc.Given as goal

abbrev pub invariant-loop-word : goal.invariant-loop-word
invariant-loop-word l = register_of l.u ≡ crc_of (take (l.word-index * 4) l.s)

abbrev pub invariant-loop-b : goal.invariant-loop-b
invariant-loop-b l = l.r ≡ crc_of (take (length l.s / 4 * 4 + l.b-index) l.s)
