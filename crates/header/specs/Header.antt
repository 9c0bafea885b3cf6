-- The fields of a packet: document 01, "Judging one packet", and ISO/IEC 13818-1, 2.4.3.2 to 2.4.3.5. p is the packet's 188 bytes.
--
--   packet_size      == 188
--   sync_byte        == 0x47, the first byte of a packet
--   right_sync p     == its first byte is that
--   error_bit, unit_start p == transport_error_indicator, payload_unit_start_indicator
--   pid_of p         == its 13 PID bits
--   scrambled_bits p == transport_scrambling_control is not 00
--   control_of p     == adaptation_field_control, a number: 0 for 00, 1 for 01, 2 for 10, 3 for 11
--   counter_of p     == continuity_counter
--   adaptation_length p == adaptation_field_length
--   right_length control length == control 10 needs adaptation length 183, control 11 needs 0 to 182
--   length_right p   == the packet's is right
--   indicator p     == the discontinuity indicator: 0 where there is none, with length 0, and with a wrong length
--   has_payload control length == there is a payload to take: control 01, or 11 with a right length
--   payload_place control length == where it begins; 188 where there is none
--   payload_at p     == where the packet's begins
--   payload_of p     == the part of the packet after its header and adaptation field
--   header_of p      == all of it
use Rattle.std.specs.Prelude.{ℕ, ◌+◌, ◌*◌, ◌/◌, ◌%◌, Bool, true, cond, ◌&&◌, ◌||◌, List, leb, ltb, eqb, get_or, drop}
use Rattle.header.specs.declared.Header.{Header}

abbrev pub packet_size : ℕ
packet_size = 188

abbrev pub sync_byte : ℕ
sync_byte = 0x47

abbrev pub right_sync : List ℕ → Bool
right_sync p = eqb (get_or p 0 0) sync_byte

abbrev pub error_bit : List ℕ → Bool
error_bit p = leb 128 (get_or p 1 0)

abbrev pub unit_start : List ℕ → Bool
unit_start p = eqb (get_or p 1 0 / 64 % 2) 1

abbrev pub pid_of : List ℕ → ℕ
pid_of p = get_or p 1 0 % 32 * 256 + get_or p 2 0

abbrev pub scrambled_bits : List ℕ → Bool
scrambled_bits p = leb 64 (get_or p 3 0)

abbrev pub control_of : List ℕ → ℕ
control_of p = get_or p 3 0 / 16 % 4

abbrev pub counter_of : List ℕ → ℕ
counter_of p = get_or p 3 0 % 16

abbrev pub adaptation_length : List ℕ → ℕ
adaptation_length p = get_or p 4 0

-- Control 10 needs adaptation length 183, control 11 needs 0 to 182.
abbrev pub right_length : ℕ → ℕ → Bool
right_length control length = cond (eqb control 2) (eqb length 183) (cond (eqb control 3) (leb length 182) true)

abbrev pub length_right : List ℕ → Bool
length_right p = right_length (control_of p) (adaptation_length p)

-- Length 0 has no discontinuity indicator: it counts as 0. With a wrong length it counts as 0 too
abbrev pub indicator : List ℕ → Bool
indicator p = leb 2 (control_of p) && length_right p && ltb 0 (adaptation_length p) && leb 128 (get_or p 5 0)

abbrev pub has_payload : ℕ → ℕ → Bool
has_payload control length = eqb control 1 || (eqb control 3 && right_length control length)

abbrev pub payload_place : ℕ → ℕ → ℕ
payload_place control length = cond (has_payload control length) (cond (eqb control 1) 4 (5 + length)) packet_size

abbrev pub payload_at : List ℕ → ℕ
payload_at p = payload_place (control_of p) (adaptation_length p)

abbrev pub payload_of : List ℕ → List ℕ
payload_of p = drop (payload_at p) p

unfoldable pub header_of : List ℕ → Header
header_of p =
    record {
      error = error_bit p;
      start = unit_start p;
      pid = pid_of p;
      scrambled = scrambled_bits p;
      control = control_of p;
      counter = counter_of p;
      right = length_right p;
      discontinuity = indicator p;
      payload = payload_at p;
    }
