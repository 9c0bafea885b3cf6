-- `crc::fold` meets its contract. Assumes nothing.
use mathlib.Core.Path.{◌≡◌, ap, ◌∙◌}
use Prim.Native.Nat.{ℕ, ◌+◌, ◌*◌, ◌/◌, ◌%◌, ◌^◌, ◌<◌}
use native.Mathlib.Omega.{arith}
use lib.Bits.{bit_xor, xor_lt}
use lib.ListN.{get_or}
use Rattle.crc.specs.Crc.{crc_feed, bits}
use Rattle.crc.proofs.Wide.{fold_join}
use Rattle.crc.proofs.fold.Goals as goal

pub returns : goal.returns
returns c =
    let x = c.args.c in
    let bytes = c.to_be_bytes.result in
    let a = get_or bytes 0 0 in
    let b = get_or bytes 1 0 in
    let d = get_or bytes 2 0 in
    let e = get_or bytes 3 0 in
    let top : a ≡ x / 2 ^ 24 % 256 = ap (λ s. get_or s 0 0) c.to_be_bytes.ensures in
    let second : b ≡ x / 2 ^ 16 % 256 = ap (λ s. get_or s 1 0) c.to_be_bytes.ensures in
    let third : d ≡ x / 2 ^ 8 % 256 = ap (λ s. get_or s 2 0) c.to_be_bytes.ensures in
    let last : e ≡ x % 256 = ap (λ s. get_or s 3 0) c.to_be_bytes.ensures in
    let fa = c.fold_byte in
    let fb = c.fold_byte-2 in
    let fd = c.fold_byte-3 in
    let fe = c.fold_byte-4 in
    let q = bit_xor (fd.result * 2 ^ 8) fe.result in
    let q_lt : q < 2 ^ 64 = xor_lt 64 (fd.result * 2 ^ 8) fe.result (omega arith) (omega arith) in
    let p = bit_xor (fb.result * 2 ^ 16) q in
    let p_lt : p < 2 ^ 64 = xor_lt 64 (fb.result * 2 ^ 16) q (omega arith) q_lt in
    let one = fold_join 8 d e fd.result fe.result (omega arith) (omega arith) (omega arith) fd.ensures.1 (omega arith) fd.ensures.0 fe.ensures.0 in
    let two = fold_join 16 b (d * 2 ^ 8 + e) fb.result q (omega arith) (omega arith) (omega arith) fb.ensures.1 q_lt fb.ensures.0 one in
    let three = fold_join 24 a (b * 2 ^ 16 + (d * 2 ^ 8 + e)) fa.result p (omega arith) (omega arith) (omega arith) fa.ensures.1 p_lt fa.ensures.0 two in
    let up_a : fa.result * 2 ^ 24 % 2 ^ 64 ≡ fa.result * 2 ^ 24 = omega arith in
    let up_b : fb.result * 2 ^ 16 % 2 ^ 64 ≡ fb.result * 2 ^ 16 = omega arith in
    let up_d : fd.result * 2 ^ 8 % 2 ^ 64 ≡ fd.result * 2 ^ 8 = omega arith in
    let whole : a * 2 ^ 24 + (b * 2 ^ 16 + (d * 2 ^ 8 + e)) ≡ x = omega arith in
    rw (up_a, up_b, up_d) three ∙ ap (λ (z : ℕ). crc_feed z (bits 64 0)) whole
