-- `crc::crc_word` meets its contract. Assumes nothing.
use mathlib.Core.Path.{◌≡◌, ap, ◌∙◌}
use Prim.Native.Nat.{ℕ, ◌*◌, ◌%◌, ◌^◌, ◌<◌}
use native.Mathlib.Omega.{arith}
use lib.Bits.{bit_xor, xor_lt}
use Rattle.crc.specs.inner.Wide.{register_of}
use Rattle.crc.proofs.Wide.{word_folded}
use Rattle.crc.proofs.crc_word.Goals as goal

sum_lt : (u x : ℕ) → x < 2 ^ 32 → bit_xor (u % 2 ^ 32) x < 2 ^ 32
sum_lt u x h = xor_lt 32 (u % 2 ^ 32) x (omega arith) h

pub returns : goal.returns
returns c =
    let sum = bit_xor (c.args.u % 2 ^ 32) c.args.x in
    let small : sum < 2 ^ 32 = sum_lt c.args.u c.args.x (omega arith) in
    let up : c.from.result * 2 ^ 32 % 2 ^ 64 ≡ sum * 2 ^ 32 = omega (arith, c.from.ensures) in
    ap (λ (z : ℕ). register_of (bit_xor c.fold.result z)) up
    ∙ word_folded c.args.u c.args.x c.fold.result (omega arith) (omega arith) (omega arith) c.fold.ensures
