-- The register of CRC_32 held as 64 binary digits, for work on four bytes at a time (ISO/IEC 13818-1, Annex A, has the
-- register of 32). The digits move up as in `Crc`, and a 1 that falls out of the highest place comes back 64 places down.
--
--   folded       == the register after 64 zeros are let in from 1
--   folded_in t x == the digits x, with `folded` added where t, the digit that fell out, is a 1
--   wide_step u   == the 64 digits after one zero is let in
--   register_of u == the register that 64 digits stand for: the upper half after 32 zeros more, added to the lower half
use Rattle.std.specs.Prelude.{ℕ, zero, suc, ◌*◌, ◌/◌, ◌%◌, ◌^◌}
use Rattle.std.specs.Int.Bits.{bit_xor}
use Rattle.crc.specs.Crc.{crc_feed, bits}

abbrev pub folded : ℕ
folded = 0x490D_678D

abbrev pub folded_in : ℕ → ℕ → ℕ
folded_in zero x = x
folded_in (suc t) x = bit_xor x folded

unfoldable pub wide_step : ℕ → ℕ
wide_step u = folded_in (u / 2 ^ 63) (u % 2 ^ 63 * 2)

unfoldable pub register_of : ℕ → ℕ
register_of u = bit_xor (crc_feed (u / 2 ^ 32) (bits 32 0)) (u % 2 ^ 32)
