use mathlib.Core.Path.{◌≡◌}
use Prim.Native.Nat.{◌+◌, ◌*◌, ◌%◌, ◌^◌, ◌<◌}
use Rattle.crc.specs.inner.Wide.{register_of}
use Rattle.crc.proofs.Register.{shifted}
use Rattle.crc.proofs.fold_byte.Given as goal

abbrev pub invariant-loop : goal.invariant-loop
invariant-loop l =
    (register_of l.r ≡ shifted l.counter (register_of (l.b * 2 ^ 56)))
    × (l.r < 2 ^ 64)
    × (l.r % 2 ^ (56 + l.counter) < 2 ^ (32 + l.counter))
