-- CRC_32 by published values: polynomial 0x04C11DB7, all ones at start, not reflected (the parameters published as CRC-32/MPEG-2, whose check value
-- is that of the characters 1 to 9). Assumes nothing.
use mathlib.Core.Path.{◌≡◌, refl}
use mathlib.Core.List.{[], ◌∷◌, ◌++◌}
use Prim.Native.Nat.{◌^◌}
use Rattle.lists.specs.Text.{text}
use Rattle.crc.specs.Crc.{crc_step, crc_feed, bits, bits_of, crc_of, crc_bytes, CrcRight}

pub record Table : Type 0 where
  pub check_value : crc_of (text "123456789") ≡ 0x0376_E6E7
  -- a section that ends with its CRC_32 leaves zero, and no other
  pub right : CrcRight (text "123456789" ++ (0x03 ∷ 0x76 ∷ 0xE6 ∷ 0xE7 ∷ []))
  pub last_bit_wrong : crc_of (text "123456789" ++ (0x03 ∷ 0x76 ∷ 0xE6 ∷ 0xE6 ∷ [])) ≡ 0x04C1_1DB7
  -- all ones at start
  pub no_bytes : crc_of [] ≡ 0xFFFF_FFFF
  pub one_zero_byte : crc_of (0 ∷ []) ≡ 0x4E08_BFB4
  pub four_ones_bytes : crc_of (0xFF ∷ 0xFF ∷ 0xFF ∷ 0xFF ∷ []) ≡ 0
  -- the polynomial is fed in where the digit that falls out and the input bit differ
  pub fallen_out : crc_step (2 ^ 31) 0 ≡ 0x04C1_1DB7
  pub let_in : crc_step 0 1 ≡ 0x04C1_1DB7
  pub both : crc_step (2 ^ 31) 1 ≡ 0
  pub neither : crc_step 1 0 ≡ 2
  -- highest bit first, highest byte first
  pub bits_in_order : bits_of (0x80 ∷ 0x03 ∷ []) ≡ 1 ∷ 0 ∷ 0 ∷ 0 ∷ 0 ∷ 0 ∷ 0 ∷ 0 ∷ 0 ∷ 0 ∷ 0 ∷ 0 ∷ 0 ∷ 0 ∷ 1 ∷ 1 ∷ []
  pub bytes_in_order : crc_bytes 0x1234_5678 ≡ 0x12 ∷ 0x34 ∷ 0x56 ∷ 0x78 ∷ []

pub table : Table
unfolding crc_step crc_feed bits bits_of crc_of
table =
    record {
      check_value = refl;
      right = refl;
      last_bit_wrong = refl;
      no_bytes = refl;
      one_zero_byte = refl;
      four_ones_bytes = refl;
      fallen_out = refl;
      let_in = refl;
      both = refl;
      neither = refl;
      bits_in_order = refl;
      bytes_in_order = refl;
    }
