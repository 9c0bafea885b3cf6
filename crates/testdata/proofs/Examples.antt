-- Test data sections by document 01, "Test data sections", and Tables 1, 4, 5, 14, 15 and 16 of DVB A046: bytes worked out by hand, and each refusal at its
-- boundary. Assumes nothing.
use mathlib.Core.Path.{◌≡◌, refl}
use mathlib.Core.Bool.{Bool, true, false}
use mathlib.Core.List.{List, [], ◌∷◌, ◌++◌, map}
use Prim.Native.Nat.{ℕ, ◌-◌, ◌^◌}
use lib.ListN.{replicate}
use Rattle.lists.specs.Places.{part}
use Rattle.crc.specs.Crc.{crc_step, crc_feed, bits, bits_of, crc_of}
use Rattle.testdata.specs.declared.Part.{Part}
use Rattle.testdata.specs.declared.Cursor.{Cursor}
use Rattle.testdata.specs.declared.Head.{Head}
use Rattle.testdata.specs.declared.Syntax.{Syntax}
use Rattle.testdata.specs.declared.Fields.{Fields}
use Rattle.testdata.specs.declared.Fields.TheVariants.{Plain, Generic}
use Rattle.testdata.specs.declared.Fixed.TheVariants.{ElementaryId, Gps, ReducedPcr, Program}
use Rattle.std.specs.Prelude.{Ok, Err, Some, None}
use Rattle.testdata.specs.declared.Refusal.TheVariants.{BadLength, BadCrc, RunsPast, BadSize, TooShort}
use Rattle.testdata.specs.declared.Descriptor.TheVariants.{Known, Other}
use Rattle.testdata.specs.declared.Descriptor.{Descriptor}
use Rattle.testdata.specs.declared.Step.{Step}
use Rattle.testdata.specs.Told.{paper_number, refusing, telling}
use Rattle.testdata.specs.Descriptors.{right_size, row, is_whole, sizes_right, fits_fixed, elementary_of, gps_of, reduced_pcr_of, program_of, of_fixed_size, of_other_tag, at_end, step_says, standing_of, descriptor_told}
use Rattle.testdata.specs.Section.{head_byte, length_bytes, syntax_bytes, size_of, unsealed, section_of, fits_head, fits_syntax}
use Rattle.testdata.specs.Reader.{fields_of, loop_of, data_of, length_wrong, read_refusal, reading_says, read_told, handed_out}
use Rattle.testdata.specs.Writer.{write_refusal, written_says, write_told, write_memory, fixed_bytes, fixed_refusal, fixed_told, fixed_memory, other_refusal, other_told, other_memory}

abbrev head_with : ℕ → ℕ → ℕ → Head
head_with id priority reserved = record { table_id = id; priority = priority; reserved = reserved }

-- the fields of one byte of the syntax, and of another; the whole bytes are 0x11, 0x22, 0x33, 0x44
abbrev syntax_with : ℕ → ℕ → ℕ → ℕ → Syntax
syntax_with reserved version current loop =
    record {
      user_defined = 0x11;
      extension = 0x22;
      reserved = reserved;
      version = version;
      current_next = current;
      number = 0x33;
      last = 0x44;
      reserved_loop = loop;
    }

-- table_id 101010, priority 01, reserved 101; reserved 10, version 10101, current 1, reserved 1010
abbrev head : Head
head = head_with 0x2A 1 5

abbrev syntax : Syntax
syntax = syntax_with 2 0x15 1 0xA

abbrev place : ℕ → ℕ → Part
place at n = record { at = at; len = n }

abbrev cursor : ℕ → ℕ → Cursor
cursor at end = record { at = at; end = end }

abbrev generic_bytes : List ℕ
generic_bytes =
    0xA9 ∷ 0xD0 ∷ 0x10 ∷ 0x11 ∷ 0x22 ∷ 0xAB ∷ 0x33 ∷ 0x44 ∷ 0xA0 ∷ 0x04
    ∷ 0x40 ∷ 0x02 ∷ 0xE1 ∷ 0x02
    ∷ 0x55
    ∷ 0x2B ∷ 0x72 ∷ 0xEF ∷ 0x73 ∷ []

abbrev plain_bytes : List ℕ
plain_bytes = 0xA9 ∷ 0x50 ∷ 0x03 ∷ 0x01 ∷ 0x02 ∷ 0x03 ∷ []

-- THE LAYOUT of a section, byte by byte, and of each field alone at its highest
pub record Layout : Type 0 where
  pub generic : section_of (Generic head syntax) (0x40 ∷ 0x02 ∷ 0xE1 ∷ 0x02 ∷ []) (0x55 ∷ []) ≡ generic_bytes
  pub plain : section_of (Plain head) [] (0x01 ∷ 0x02 ∷ 0x03 ∷ []) ≡ plain_bytes
  pub table_id_lem : head_byte (head_with 63 0 0) ≡ 0xFC
  pub priority : head_byte (head_with 0 3 0) ≡ 0x03
  pub indicator : length_bytes 1 (head_with 0 0 0) 0 ≡ 0x80 ∷ 0x00 ∷ []
  pub reserved : length_bytes 0 (head_with 0 0 7) 0 ≡ 0x70 ∷ 0x00 ∷ []
  pub section_length_lem : length_bytes 0 (head_with 0 0 0) 0xFFE ≡ 0x0F ∷ 0xFE ∷ []
  pub version_byte : syntax_bytes (syntax_with 3 0 0 0) 0 ≡ 0x11 ∷ 0x22 ∷ 0xC0 ∷ 0x33 ∷ 0x44 ∷ 0x00 ∷ 0x00 ∷ []
  pub version : syntax_bytes (syntax_with 0 31 0 0) 0 ≡ 0x11 ∷ 0x22 ∷ 0x3E ∷ 0x33 ∷ 0x44 ∷ 0x00 ∷ 0x00 ∷ []
  pub current_next : syntax_bytes (syntax_with 0 0 1 0) 0 ≡ 0x11 ∷ 0x22 ∷ 0x01 ∷ 0x33 ∷ 0x44 ∷ 0x00 ∷ 0x00 ∷ []
  pub loop_reserved : syntax_bytes (syntax_with 0 0 0 15) 0 ≡ 0x11 ∷ 0x22 ∷ 0x00 ∷ 0x33 ∷ 0x44 ∷ 0xF0 ∷ 0x00 ∷ []
  pub loop_length_lem : syntax_bytes (syntax_with 0 0 0 0) 0xFFE ≡ 0x11 ∷ 0x22 ∷ 0x00 ∷ 0x33 ∷ 0x44 ∷ 0x0F ∷ 0xFE ∷ []
  pub sizes : size_of (Plain head) 7 5 ∷ size_of (Generic head syntax) 7 5 ∷ [] ≡ 8 ∷ 26 ∷ []
  -- and read back
  pub generic_fields : fields_of generic_bytes ≡ Generic head syntax
  pub plain_fields : fields_of plain_bytes ≡ Plain head
  pub generic_places : loop_of generic_bytes ∷ data_of generic_bytes ∷ [] ≡ place 10 4 ∷ place 14 1 ∷ []
  pub plain_places : loop_of plain_bytes ∷ data_of plain_bytes ∷ [] ≡ place 3 0 ∷ place 3 3 ∷ []
  pub generic_told : read_told generic_bytes
      ≡ telling
      (record {
        indicator = 1;
        fields = 0x2A ∷ 1 ∷ 5 ∷ 0x11 ∷ 0x22 ∷ 2 ∷ 0x15 ∷ 1 ∷ 0x33 ∷ 0x44 ∷ 0xA ∷ [];
        descriptors = place 10 4;
        test = place 14 1;
      })
  pub plain_told : read_told plain_bytes ≡ telling (record { indicator = 0; fields = 0x2A ∷ 1 ∷ 5 ∷ []; descriptors = place 3 0; test = place 3 3 })
  -- the bytes at a place, none where it is not within them
  pub handed_out_lem : handed_out plain_bytes (place 3 3) ∷ handed_out plain_bytes (place 3 4) ∷ handed_out plain_bytes (place 6 0) ∷ handed_out plain_bytes (place 7 0) ∷ []
      ≡ (0x01 ∷ 0x02 ∷ 0x03 ∷ []) ∷ [] ∷ [] ∷ [] ∷ []

pub layout : Layout
unfolding section_of unsealed fields_of loop_of data_of read_told read_refusal handed_out part row right_size crc_of crc_feed crc_step bits bits_of
layout =
    record {
      generic = refl;
      plain = refl;
      table_id_lem = refl;
      priority = refl;
      indicator = refl;
      reserved = refl;
      section_length_lem = refl;
      version_byte = refl;
      version = refl;
      current_next = refl;
      loop_reserved = refl;
      loop_length_lem = refl;
      sizes = refl;
      generic_fields = refl;
      plain_fields = refl;
      generic_places = refl;
      plain_places = refl;
      generic_told = refl;
      plain_told = refl;
      handed_out_lem = refl;
    }

-- DESCRIPTORS of fixed size, byte by byte, with the size of their bodies
abbrev sizes_of : ℕ → List ℕ → List Bool
sizes_of tag ns = map (right_size tag) ns

pub record Descriptors : Type 0 where
  pub elementary_size_lem : sizes_of 0x40 (1 ∷ 2 ∷ 3 ∷ []) ≡ false ∷ true ∷ false ∷ []
  pub gps_size_lem : sizes_of 0x45 (7 ∷ 8 ∷ 9 ∷ []) ≡ false ∷ true ∷ false ∷ []
  pub reduced_pcr_size_lem : sizes_of 0x46 (3 ∷ 4 ∷ 5 ∷ []) ≡ false ∷ true ∷ false ∷ []
  pub program_size_lem : sizes_of 0x47 (3 ∷ 4 ∷ 5 ∷ []) ≡ false ∷ true ∷ false ∷ []
  pub any_size : sizes_of 0x41 (0 ∷ 1 ∷ 255 ∷ []) ++ sizes_of 0x44 (5 ∷ []) ++ sizes_of 0x48 (4 ∷ 5 ∷ []) ≡ true ∷ true ∷ true ∷ true ∷ true ∷ true ∷ []
  pub elementary : fixed_bytes (ElementaryId 5 0x0102) ≡ 0x40 ∷ 2 ∷ 0xA1 ∷ 0x02 ∷ []
  pub elementary_highest : fixed_bytes (ElementaryId 0 0x1FFF) ≡ 0x40 ∷ 2 ∷ 0x1F ∷ 0xFF ∷ []
  pub gps : fixed_bytes (Gps 1 0x123456 0 0x6789AB 0xCDEF) ≡ 0x45 ∷ 8 ∷ 0x92 ∷ 0x34 ∷ 0x56 ∷ 0x67 ∷ 0x89 ∷ 0xAB ∷ 0xCD ∷ 0xEF ∷ []
  pub gps_west : fixed_bytes (Gps 0 0x7FFFFF 1 0 0) ≡ 0x45 ∷ 8 ∷ 0x7F ∷ 0xFF ∷ 0xFF ∷ 0x80 ∷ 0x00 ∷ 0x00 ∷ 0x00 ∷ 0x00 ∷ []
  pub reduced_pcr : fixed_bytes (ReducedPcr 0x12345678) ≡ 0x46 ∷ 4 ∷ 0x12 ∷ 0x34 ∷ 0x56 ∷ 0x78 ∷ []
  pub program : fixed_bytes (Program 0x1234 6 0x1F56) ≡ 0x47 ∷ 4 ∷ 0x12 ∷ 0x34 ∷ 0xDF ∷ 0x56 ∷ []
  pub elementary_read : elementary_of (0xA1 ∷ 0x02 ∷ []) ≡ ElementaryId 5 0x0102
  pub gps_read : gps_of (0x92 ∷ 0x34 ∷ 0x56 ∷ 0x67 ∷ 0x89 ∷ 0xAB ∷ 0xCD ∷ 0xEF ∷ []) ≡ Gps 1 0x123456 0 0x6789AB 0xCDEF
  pub reduced_pcr_read : reduced_pcr_of (0x12 ∷ 0x34 ∷ 0x56 ∷ 0x78 ∷ []) ≡ ReducedPcr 0x12345678
  pub program_read : program_of (0x12 ∷ 0x34 ∷ 0xDF ∷ 0x56 ∷ []) ≡ Program 0x1234 6 0x1F56
  -- a row of descriptors, and each fixed tag of it, also of one that is cut off
  pub whole_rows : is_whole [] ∷ is_whole (0x41 ∷ 0 ∷ []) ∷ is_whole (0x41 ∷ 1 ∷ 9 ∷ 0x42 ∷ 0 ∷ []) ∷ [] ≡ true ∷ true ∷ true ∷ []
  pub cut_rows : is_whole (0x41 ∷ []) ∷ is_whole (0x41 ∷ 1 ∷ []) ∷ is_whole (0x41 ∷ 0 ∷ 0x42 ∷ []) ∷ [] ≡ false ∷ false ∷ false ∷ []
  pub rows_of_right_size : sizes_right (0x40 ∷ 2 ∷ []) ∷ sizes_right (0x41 ∷ 0 ∷ 0x40 ∷ []) ∷ [] ≡ true ∷ true ∷ []
  pub rows_of_wrong_size : sizes_right (0x40 ∷ 3 ∷ []) ∷ sizes_right (0x41 ∷ 0 ∷ 0x40 ∷ 1 ∷ 9 ∷ []) ∷ [] ≡ false ∷ false ∷ []
  -- at a cursor
  pub fixed_at : descriptor_told (9 ∷ 0x40 ∷ 2 ∷ 0xA1 ∷ 0x02 ∷ []) (cursor 1 5) ≡ telling (of_fixed_size 0x40 (5 ∷ 0x0102 ∷ []) (cursor 5 5))
  pub other_at : descriptor_told (0x41 ∷ 1 ∷ 7 ∷ 9 ∷ []) (cursor 0 4) ≡ telling (of_other_tag 0x41 (place 2 1) (cursor 3 4))
  pub the_end : descriptor_told (9 ∷ []) (cursor 1 1) ≡ telling at_end
  pub past_itself : descriptor_told (9 ∷ 9 ∷ []) (cursor 2 1) ≡ refusing 13
  pub past_the_bytes : descriptor_told (9 ∷ []) (cursor 1 2) ≡ refusing 13
  pub one_byte_left : descriptor_told (0x41 ∷ 0 ∷ []) (cursor 0 1) ≡ refusing 13
  pub body_past_the_end : descriptor_told (0x41 ∷ 1 ∷ 9 ∷ []) (cursor 0 2) ≡ refusing 13
  pub past_before_size : descriptor_told (0x40 ∷ 3 ∷ []) (cursor 0 2) ≡ refusing 13
  pub other_size : descriptor_told (0x40 ∷ 3 ∷ 0 ∷ 0 ∷ 0 ∷ []) (cursor 0 5) ≡ refusing 14

pub descriptors : Descriptors
unfolding part row right_size standing_of descriptor_told
descriptors =
    record {
      elementary_size_lem = refl;
      gps_size_lem = refl;
      reduced_pcr_size_lem = refl;
      program_size_lem = refl;
      any_size = refl;
      elementary = refl;
      elementary_highest = refl;
      gps = refl;
      gps_west = refl;
      reduced_pcr = refl;
      program = refl;
      elementary_read = refl;
      gps_read = refl;
      reduced_pcr_read = refl;
      program_read = refl;
      whole_rows = refl;
      cut_rows = refl;
      rows_of_right_size = refl;
      rows_of_wrong_size = refl;
      fixed_at = refl;
      other_at = refl;
      the_end = refl;
      past_itself = refl;
      past_the_bytes = refl;
      one_byte_left = refl;
      body_past_the_end = refl;
      past_before_size = refl;
      other_size = refl;
    }

-- WIDTHS of the fields, each at its highest and one above
pub record Widths : Type 0 where
  pub head_fits : map fits_head (head_with 63 3 7 ∷ head_with 64 3 7 ∷ head_with 63 4 7 ∷ head_with 63 3 8 ∷ []) ≡ true ∷ false ∷ false ∷ false ∷ []
  pub syntax_fits : map fits_syntax (syntax_with 3 31 1 15 ∷ syntax_with 4 31 1 15 ∷ syntax_with 3 32 1 15 ∷ syntax_with 3 31 2 15 ∷ syntax_with 3 31 1 16 ∷ [])
      ≡ true ∷ false ∷ false ∷ false ∷ false ∷ []
  pub elementary_fits : map fits_fixed (ElementaryId 7 0x1FFF ∷ ElementaryId 8 0x1FFF ∷ ElementaryId 7 0x2000 ∷ []) ≡ true ∷ false ∷ false ∷ []
  pub gps_fits : map fits_fixed
      (Gps 1 0x7FFFFF 1 0x7FFFFF 0xFFFF ∷ Gps 2 0x7FFFFF 1 0x7FFFFF 0 ∷ Gps 1 0x800000 1 0x7FFFFF 0 ∷ Gps 1 0x7FFFFF 2 0x7FFFFF 0 ∷ Gps 1 0x7FFFFF 1 0x800000 0 ∷ [])
      ≡ true ∷ false ∷ false ∷ false ∷ false ∷ []
  pub reduced_pcr_fits : fits_fixed (ReducedPcr (2 ^ 32 - 1)) ≡ true
  pub program_fits : map fits_fixed (Program 0xFFFF 7 0x1FFF ∷ Program 0xFFFF 8 0x1FFF ∷ Program 0xFFFF 7 0x2000 ∷ []) ≡ true ∷ false ∷ false ∷ []

pub widths : Widths
widths = record { head_fits = refl; syntax_fits = refl; elementary_fits = refl; gps_fits = refl; reduced_pcr_fits = refl; program_fits = refl }

-- READER: the refusals in their order
abbrev front : ℕ → ℕ → List ℕ → List ℕ
front length loop s = 0x04 ∷ 0xF0 ∷ length ∷ 0x01 ∷ 0x01 ∷ 0xC1 ∷ 0x00 ∷ 0x00 ∷ 0x00 ∷ loop ∷ s

-- n zeros behind the length of a section with indicator 0
abbrev zeros : ℕ → ℕ → ℕ → List ℕ
zeros high low n = 0x04 ∷ high ∷ low ∷ replicate n 0

pub record Refused : Type 0 where
  pub one_byte_less : read_refusal (front 0x0B 0 (0x00 ∷ 0x00 ∷ 0x00 ∷ [])) ≡ 11
  pub one_byte_more : read_refusal (front 0x0B 0 (0x00 ∷ 0x00 ∷ 0x00 ∷ 0x00 ∷ 0x00 ∷ [])) ≡ 11
  -- thirteen bytes, whose CRC_32 is right
  pub below_the_fixed_fields : read_refusal (0x04 ∷ 0xF0 ∷ 0x0A ∷ 0x01 ∷ 0x01 ∷ 0xC1 ∷ 0x00 ∷ 0x00 ∷ 0x00 ∷ 0x6E ∷ 0xF4 ∷ 0x12 ∷ 0x8C ∷ []) ≡ 11
  pub fourteen_bytes : read_refusal (0xF7 ∷ 0xD0 ∷ 0x0B ∷ 0x09 ∷ 0x08 ∷ 0x6A ∷ 0x07 ∷ 0x06 ∷ 0xA0 ∷ 0x00 ∷ 0xA4 ∷ 0x98 ∷ 0x62 ∷ 0x67 ∷ []) ≡ 0
  pub three_bytes : read_refusal (0xFF ∷ 0x00 ∷ 0x00 ∷ []) ≡ 0
  pub two_bytes : read_refusal (0xFF ∷ 0x00 ∷ []) ≡ 11
  pub no_bytes : read_refusal [] ≡ 11
  pub bytes_4096 : length_wrong (zeros 0x7F 0xFD 4093) ≡ false
  pub bytes_4097 : length_wrong (zeros 0x7F 0xFE 4094) ≡ true
  pub wrong_crc : read_refusal (0xF7 ∷ 0xD0 ∷ 0x0B ∷ 0x09 ∷ 0x08 ∷ 0x6A ∷ 0x07 ∷ 0x06 ∷ 0xA0 ∷ 0x00 ∷ 0xA4 ∷ 0x98 ∷ 0x62 ∷ 0x66 ∷ []) ≡ 12
  pub no_crc_without_the_indicator : read_refusal plain_bytes ≡ 0
  pub loop_to_the_crc : read_refusal (front 0x0D 2 (0x41 ∷ 0x00 ∷ 0x26 ∷ 0xF9 ∷ 0x55 ∷ 0x2E ∷ [])) ≡ 0
  pub loop_past_the_crc : read_refusal (front 0x0D 3 (0x41 ∷ 0x00 ∷ 0x27 ∷ 0x21 ∷ 0xF9 ∷ 0xA9 ∷ [])) ≡ 13
  pub crc_before_loop : read_refusal (front 0x0D 3 (0x41 ∷ 0x00 ∷ 0x27 ∷ 0x21 ∷ 0xF9 ∷ 0xA8 ∷ [])) ≡ 12
  pub spare_byte : read_refusal (front 0x0E 3 (0x41 ∷ 0x00 ∷ 0x41 ∷ 0x99 ∷ 0xEE ∷ 0xB7 ∷ 0xA0 ∷ [])) ≡ 13
  pub past_before_size : read_refusal (front 0x10 5 (0x40 ∷ 0x01 ∷ 0x00 ∷ 0x41 ∷ 0x05 ∷ 0x2F ∷ 0x07 ∷ 0x31 ∷ 0xE7 ∷ [])) ≡ 13
  pub another_size : read_refusal (front 0x0E 3 (0x40 ∷ 0x01 ∷ 0x00 ∷ 0x7A ∷ 0x68 ∷ 0xB7 ∷ 0x3B ∷ [])) ≡ 14
  pub refused_alone : read_told (0xFF ∷ 0x00 ∷ []) ≡ refusing 11

pub refused : Refused
unfolding read_told read_refusal loop_of part row right_size crc_of crc_feed crc_step bits bits_of
refused =
    record {
      one_byte_less = refl;
      one_byte_more = refl;
      below_the_fixed_fields = refl;
      fourteen_bytes = refl;
      three_bytes = refl;
      two_bytes = refl;
      no_bytes = refl;
      bytes_4096 = refl;
      bytes_4097 = refl;
      wrong_crc = refl;
      no_crc_without_the_indicator = refl;
      loop_to_the_crc = refl;
      loop_past_the_crc = refl;
      crc_before_loop = refl;
      spare_byte = refl;
      past_before_size = refl;
      another_size = refl;
      refused_alone = refl;
    }

-- WRITERS: the refusals in their order, the length, and the lent place
abbrev wide : Fields
wide = Generic (head_with 64 0 0) syntax

abbrev fitting : Fields
fitting = Generic head syntax

abbrev lent_four : List ℕ
lent_four = 7 ∷ 8 ∷ 9 ∷ 6 ∷ []

pub record Writes : Type 0 where
  -- the loop that the reader refuses with 13
  pub size_before_past : write_told fitting (0x40 ∷ 0x01 ∷ 0x00 ∷ 0x41 ∷ 0x05 ∷ []) [] 64 ≡ refusing 14
  pub size_before_wide : write_told wide (0x40 ∷ 0x01 ∷ 0x00 ∷ []) [] 64 ≡ refusing 14
  pub wide_before_short : write_told wide [] [] 0 ≡ refusing 13
  pub wide_syntax : write_told (Generic head (syntax_with 3 32 1 15)) [] [] 64 ≡ refusing 13
  pub wide_plain : write_told (Plain (head_with 0 0 8)) [] [] 64 ≡ refusing 13
  pub spare_byte : write_told fitting (0x41 ∷ []) [] 64 ≡ refusing 13
  pub loop_of_a_plain_one : write_told (Plain head) (0x41 ∷ 0x00 ∷ []) [] 64 ≡ refusing 13
  pub generic_4096 : write_told fitting [] (replicate 4082 0) 4096 ≡ telling 4096
  pub generic_4097 : write_told fitting [] (replicate 4083 0) 4097 ≡ refusing 13
  pub plain_4096 : write_told (Plain head) [] (replicate 4093 0) 4096 ≡ telling 4096
  pub plain_4097 : write_told (Plain head) [] (replicate 4094 0) 4097 ≡ refusing 13
  pub short_place : write_told fitting (0x41 ∷ 0x00 ∷ []) (7 ∷ []) 16 ≡ refusing 15
  pub just_enough : write_told fitting (0x41 ∷ 0x00 ∷ []) (7 ∷ []) 17 ≡ telling 17
  pub short_plain_place : write_told (Plain head) [] [] 2 ≡ refusing 15
  pub just_enough_plain : write_told (Plain head) [] [] 3 ≡ telling 3
  -- bytes past the written ones keep their contents; nothing is written on refusal
  pub place_written : write_memory (Plain head) [] [] lent_four ≡ 0xA9 ∷ 0x50 ∷ 0x00 ∷ 6 ∷ []
  pub place_kept : write_memory (Plain head) [] (1 ∷ 2 ∷ []) lent_four ≡ lent_four
  -- one descriptor of fixed size
  pub fixed_wide_before_short : fixed_told (ElementaryId 8 0) 0 ≡ refusing 13
  pub fixed_short : fixed_told (ElementaryId 7 0) 3 ≡ refusing 15
  pub fixed_enough : fixed_told (ElementaryId 7 0) 4 ≡ telling 4
  pub fixed_written : fixed_memory (ElementaryId 5 0x0102) (1 ∷ lent_four) ≡ 0x40 ∷ 2 ∷ 0xA1 ∷ 0x02 ∷ 6 ∷ []
  pub fixed_kept : fixed_memory (ReducedPcr 0) lent_four ≡ lent_four
  -- one of any tag
  pub other_size_before_long : other_told 0x40 (replicate 256 0) 0 ≡ refusing 14
  pub other_long_before_short : other_told 0x41 (replicate 256 0) 0 ≡ refusing 13
  pub other_longest : other_told 0x41 (replicate 255 0) 257 ≡ telling 257
  pub other_short : other_told 0x41 (replicate 255 0) 256 ≡ refusing 15
  pub other_written : other_memory 0x41 (0x55 ∷ []) lent_four ≡ 0x41 ∷ 1 ∷ 0x55 ∷ 6 ∷ []
  pub other_kept : other_memory 0x41 (1 ∷ 2 ∷ 3 ∷ []) lent_four ≡ lent_four

pub writes : Writes
unfolding write_told write_refusal write_memory section_of unsealed fixed_told fixed_refusal fixed_memory other_told other_refusal other_memory row right_size
writes =
    record {
      size_before_past = refl;
      size_before_wide = refl;
      wide_before_short = refl;
      wide_syntax = refl;
      wide_plain = refl;
      spare_byte = refl;
      loop_of_a_plain_one = refl;
      generic_4096 = refl;
      generic_4097 = refl;
      plain_4096 = refl;
      plain_4097 = refl;
      short_place = refl;
      just_enough = refl;
      short_plain_place = refl;
      just_enough_plain = refl;
      place_written = refl;
      place_kept = refl;
      fixed_wide_before_short = refl;
      fixed_short = refl;
      fixed_enough = refl;
      fixed_written = refl;
      fixed_kept = refl;
      other_size_before_long = refl;
      other_long_before_short = refl;
      other_longest = refl;
      other_short = refl;
      other_written = refl;
      other_kept = refl;
    }

-- EACH CASE of the answers, as number and values
abbrev stands : Descriptor → Cursor → Step
stands d next = record { descriptor = d; next = next }

pub record Cases : Type 0 where
  pub refusals : map paper_number (BadLength ∷ BadCrc ∷ RunsPast ∷ BadSize ∷ TooShort ∷ []) ≡ 11 ∷ 12 ∷ 13 ∷ 14 ∷ 15 ∷ []
  pub length_written : written_says (Ok 5) ≡ record { number = 0; values = 5 ∷ [] }
  pub write_refused : written_says (Err TooShort) ≡ record { number = 15; values = [] }
  pub section_read : reading_says (Ok (record { fields = Plain head; descriptors = place 3 0; «data» = place 3 4 }))
      ≡ record { number = 0; values = record { indicator = 0; fields = 0x2A ∷ 1 ∷ 5 ∷ []; descriptors = place 3 0; test = place 3 4 } ∷ [] }
  pub read_refused : reading_says (Err BadCrc) ≡ record { number = 12; values = [] }
  pub elementary : step_says (Ok (Some (stands (Known (ElementaryId 1 2)) (cursor 4 9)))) ≡ record { number = 0; values = of_fixed_size 0x40 (1 ∷ 2 ∷ []) (cursor 4 9) ∷ [] }
  pub gps : step_says (Ok (Some (stands (Known (Gps 1 2 3 4 5)) (cursor 4 9)))) ≡ record { number = 0; values = of_fixed_size 0x45 (1 ∷ 2 ∷ 3 ∷ 4 ∷ 5 ∷ []) (cursor 4 9) ∷ [] }
  pub reduced_pcr : step_says (Ok (Some (stands (Known (ReducedPcr 1)) (cursor 4 9)))) ≡ record { number = 0; values = of_fixed_size 0x46 (1 ∷ []) (cursor 4 9) ∷ [] }
  pub program : step_says (Ok (Some (stands (Known (Program 1 2 3)) (cursor 4 9)))) ≡ record { number = 0; values = of_fixed_size 0x47 (1 ∷ 2 ∷ 3 ∷ []) (cursor 4 9) ∷ [] }
  pub other : step_says (Ok (Some (stands (Other 0x41 (place 2 1)) (cursor 3 9)))) ≡ record { number = 0; values = of_other_tag 0x41 (place 2 1) (cursor 3 9) ∷ [] }
  pub end : step_says (Ok None) ≡ record { number = 0; values = at_end ∷ [] }
  pub step_refused : step_says (Err RunsPast) ≡ record { number = 13; values = [] }

pub cases : Cases
cases =
    record {
      refusals = refl;
      length_written = refl;
      write_refused = refl;
      section_read = refl;
      read_refused = refl;
      elementary = refl;
      gps = refl;
      reduced_pcr = refl;
      program = refl;
      other = refl;
      end = refl;
      step_refused = refl;
    }
