-- `crc::crc_byte` meets its contract. Assumes nothing.
use mathlib.Core.Path.{◌≡◌, ap, ◌∙◌}
use Prim.Native.Nat.{ℕ, ◌*◌, ◌%◌, ◌^◌}
use native.Mathlib.Omega.{arith}
use lib.Bits.{bit_xor}
use Rattle.crc.specs.Crc.{crc_feed, bits}
use Rattle.crc.proofs.Register.{byte_zeros}
use Rattle.crc.proofs.crc_byte.Goals as goal

pub returns : goal.returns
returns c =
    let a = c.args in
    let top : c.from.result * 2 ^ 24 % 2 ^ 32 ≡ a.b * 2 ^ 24 = omega (arith, c.from.ensures) in
    c.eight_zeros.ensures
    ∙ ap (λ (z : ℕ). crc_feed (bit_xor a.c z) (bits 8 0)) top
    ∙ byte_zeros a.c a.b (omega arith) (omega arith)
