use mathlib.Core.Path.{◌≡◌}
use Rattle.crc.proofs.Register.{shifted}
use Rattle.crc.proofs.eight_zeros.Given as goal

abbrev pub invariant-loop : goal.invariant-loop
invariant-loop l = l.r ≡ shifted l.counter l.c
