-- The fields of a packet, bit by bit, and both sides of each length: examples that a wrong definition would break. Assumes nothing.
use mathlib.Core.Path.{◌≡◌, refl}
use mathlib.Core.Bool.{Bool, true, false}
use mathlib.Core.List.{List, [], ◌∷◌, map}
use Prim.Native.Nat.{ℕ}
use lib.ListN.{length, replicate}
use Rattle.header.specs.declared.Header.{Header}
use Rattle.header.specs.Header.{packet_size, right_sync, payload_of, header_of}

-- the header of a packet by its second to sixth byte
abbrev of : ℕ → ℕ → ℕ → ℕ → ℕ → Header
of second third fourth fifth sixth = header_of (0x47 ∷ second ∷ third ∷ fourth ∷ fifth ∷ sixth ∷ [])

-- a packet with one byte of its header set: the second, the third, the fourth
abbrev second : ℕ → Header
second b = of b 0 0 0 0

abbrev third : ℕ → Header
third b = of 0 b 0 0 0

abbrev fourth : ℕ → Header
fourth b = of 0 0 b 0 0

-- a byte by its two highest bits, the least and the greatest of each
abbrev quarters : List ℕ
quarters = 0x00 ∷ 0x3F ∷ 0x40 ∷ 0x7F ∷ 0x80 ∷ 0xBF ∷ 0xC0 ∷ 0xFF ∷ []

-- each bit of a byte, the lowest first
abbrev bits : List ℕ
bits = 0x01 ∷ 0x02 ∷ 0x04 ∷ 0x08 ∷ 0x10 ∷ 0x20 ∷ 0x40 ∷ 0x80 ∷ []

-- is the adaptation length as this control needs it; where does the payload begin
abbrev right : ℕ → ℕ → Bool
right control length = (of 0 0 control length 0).right

abbrev place : ℕ → ℕ → ℕ
place control length = (of 0 0 control length 0).payload

-- the discontinuity indicator, by the fourth byte, adaptation length and flags
abbrev indicated : ℕ → ℕ → ℕ → Bool
indicated control length flags = (of 0 0 control length flags).discontinuity

-- a whole packet by its fourth and fifth byte, and its payload's length
abbrev packet : ℕ → ℕ → List ℕ
packet fourth fifth = 0x47 ∷ 0 ∷ 0 ∷ fourth ∷ fifth ∷ replicate 183 0

abbrev payload_length : ℕ → ℕ → ℕ
payload_length fourth fifth = length (payload_of (packet fourth fifth))

pub record Table : Type 0 where
  -- a packet is 188 bytes
  pub packet_of_188_bytes : packet_size ≡ 188
  -- its first byte is 0x47, and no other
  pub first_byte : map right_sync ((0x47 ∷ []) ∷ (0x46 ∷ []) ∷ (0x48 ∷ []) ∷ (0xC7 ∷ []) ∷ (0x00 ∷ []) ∷ []) ≡ true ∷ false ∷ false ∷ false ∷ false ∷ []
  -- transport error bit: the highest of the second byte
  pub error_bit_lem : map (λ b. (second b).error) quarters ≡ false ∷ false ∷ false ∷ false ∷ true ∷ true ∷ true ∷ true ∷ []
  -- unit start: the next
  pub unit_start_lem : map (λ b. (second b).start) quarters ≡ false ∷ false ∷ true ∷ true ∷ false ∷ false ∷ true ∷ true ∷ []
  -- the 13 PID bits: five of the second byte; transport_priority, unit start and error bit are none
  pub pid_high : map (λ b. (second b).pid) bits ≡ 0x0100 ∷ 0x0200 ∷ 0x0400 ∷ 0x0800 ∷ 0x1000 ∷ 0 ∷ 0 ∷ 0 ∷ []
  -- and all eight of the third
  pub pid_low : map (λ b. (third b).pid) bits ≡ bits
  -- the greatest PID is 0x1FFF
  pub greatest_pid_lem : (of 0xFF 0xFF 0 0 0).pid ≡ 0x1FFF
  -- transport_priority does not matter
  pub priority_is_not_looked_at : second 0x20 ≡ second 0x00
  -- scrambling bits: not 00, by either of the two
  pub scrambling_bits : map (λ b. (fourth b).scrambled) quarters ≡ false ∷ false ∷ true ∷ true ∷ true ∷ true ∷ true ∷ true ∷ []
  -- adaptation_field_control: 00, 01, 10 and 11, beside all other bits
  pub control : map (λ b. (fourth b).control) (0x00 ∷ 0x10 ∷ 0x20 ∷ 0x30 ∷ 0xCF ∷ 0xDF ∷ 0xEF ∷ 0xFF ∷ []) ≡ 0 ∷ 1 ∷ 2 ∷ 3 ∷ 0 ∷ 1 ∷ 2 ∷ 3 ∷ []
  -- continuity_counter: four bits
  pub counter : map (λ b. (fourth b).counter) bits ≡ 1 ∷ 2 ∷ 4 ∷ 8 ∷ 0 ∷ 0 ∷ 0 ∷ 0 ∷ []
  -- control 10 needs adaptation length 183
  pub control_10_needs_183 : map (right 0x20) (0 ∷ 1 ∷ 182 ∷ 183 ∷ 184 ∷ 255 ∷ []) ≡ false ∷ false ∷ false ∷ true ∷ false ∷ false ∷ []
  -- control 11 needs 0 to 182
  pub control_11_needs_0_to_182 : map (right 0x30) (0 ∷ 1 ∷ 182 ∷ 183 ∷ 184 ∷ 255 ∷ []) ≡ true ∷ true ∷ true ∷ false ∷ false ∷ false ∷ []
  -- control 01 has no adaptation field: its fifth byte is payload
  pub control_01_needs_none : map (right 0x10) (0 ∷ 183 ∷ 184 ∷ 255 ∷ []) ≡ true ∷ true ∷ true ∷ true ∷ []
  -- discontinuity indicator: the highest bit of the flags, and no other
  pub indicator_bit : map (indicated 0x30 1) quarters ≡ false ∷ false ∷ false ∷ false ∷ true ∷ true ∷ true ∷ true ∷ []
  -- length 0 has none: it counts as 0
  pub no_indicator_in_length_0 : map (λ n. indicated 0x30 n 0x80) (0 ∷ 1 ∷ []) ≡ false ∷ true ∷ []
  -- with a wrong length it counts as 0 too: under control 11
  pub no_indicator_in_a_wrong_length_11 : map (λ n. indicated 0x30 n 0x80) (182 ∷ 183 ∷ []) ≡ true ∷ false ∷ []
  -- and under control 10
  pub no_indicator_in_a_wrong_length_10 : map (λ n. indicated 0x20 n 0x80) (0 ∷ 182 ∷ 183 ∷ 184 ∷ []) ≡ false ∷ false ∷ true ∷ false ∷ []
  -- without an adaptation field there is none
  pub no_indicator_without_field : map (λ b. indicated b 1 0x80) (0x00 ∷ 0x10 ∷ []) ≡ false ∷ false ∷ []
  -- control 01: the payload begins with the fifth byte, whatever that is
  pub payload_of_control_01 : map (place 0x10) (0 ∷ 1 ∷ 183 ∷ 255 ∷ []) ≡ 4 ∷ 4 ∷ 4 ∷ 4 ∷ []
  -- control 11: it begins after the adaptation field; none with a wrong length
  pub payload_of_control_11 : map (place 0x30) (0 ∷ 1 ∷ 182 ∷ 183 ∷ 255 ∷ []) ≡ 5 ∷ 6 ∷ 187 ∷ 188 ∷ 188 ∷ []
  -- control 10: none
  pub no_payload_of_control_10 : map (place 0x20) (0 ∷ 182 ∷ 183 ∷ 184 ∷ []) ≡ 188 ∷ 188 ∷ 188 ∷ 188 ∷ []
  -- control 00: none
  pub no_payload_of_control_00 : map (place 0x00) (0 ∷ 182 ∷ 183 ∷ 184 ∷ []) ≡ 188 ∷ 188 ∷ 188 ∷ 188 ∷ []
  -- the payload's own length: 184; 183 behind length 0, 1 behind 182; 0 where there is none
  pub payload_lengths : payload_length 0x10 0 ∷ payload_length 0x30 0 ∷ payload_length 0x30 182 ∷ payload_length 0x30 183 ∷ payload_length 0x20 183 ∷ payload_length 0x00 0 ∷ [] ≡ 184 ∷ 183 ∷ 1 ∷ 0 ∷ 0 ∷ 0 ∷ []
  -- the payload is the part of the packet after its header and adaptation field
  pub payload_bytes : payload_of (0x47 ∷ 0 ∷ 0 ∷ 0x30 ∷ 1 ∷ 0x80 ∷ 7 ∷ 8 ∷ []) ≡ 7 ∷ 8 ∷ []
  -- all of it at once: PID 0x1234, unit start, scrambled, control 11, counter 6, length 2 with the indicator
  pub all_fields : of 0x52 0x34 0xB6 2 0x80
      ≡ record { error = false; start = true; pid = 0x1234; scrambled = true; control = 3; counter = 6; right = true; discontinuity = true; payload = 7 }

pub table : Table
unfolding header_of
table =
    record {
      packet_of_188_bytes = refl;
      first_byte = refl;
      error_bit_lem = refl;
      unit_start_lem = refl;
      pid_high = refl;
      pid_low = refl;
      greatest_pid_lem = refl;
      priority_is_not_looked_at = refl;
      scrambling_bits = refl;
      control = refl;
      counter = refl;
      control_10_needs_183 = refl;
      control_11_needs_0_to_182 = refl;
      control_01_needs_none = refl;
      indicator_bit = refl;
      no_indicator_in_length_0 = refl;
      no_indicator_in_a_wrong_length_11 = refl;
      no_indicator_in_a_wrong_length_10 = refl;
      no_indicator_without_field = refl;
      payload_of_control_01 = refl;
      payload_of_control_11 = refl;
      no_payload_of_control_10 = refl;
      no_payload_of_control_00 = refl;
      payload_lengths = refl;
      payload_bytes = refl;
      all_fields = refl;
    }
