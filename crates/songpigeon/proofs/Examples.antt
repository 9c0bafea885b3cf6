-- Worked examples of the boundary: the version, the twelve bytes of a section's fields, a number too wide for the indicator, and descriptors as a host
-- is told of them. Assumes nothing.
use mathlib.Core.Path.{◌≡◌, refl}
use mathlib.Core.List.{List, [], ◌∷◌}
use Prim.Native.Nat.{ℕ}
use Rattle.lists.specs.Places.{part}
use Rattle.testdata.specs.declared.Head.{Head}
use Rattle.testdata.specs.declared.Syntax.{Syntax}
use Rattle.testdata.specs.declared.Fields.TheVariants.{Plain, Generic}
use Rattle.testdata.specs.declared.Fields.{Fields}
use Rattle.testdata.specs.Told.{Told, refusing, telling}
use Rattle.testdata.specs.Descriptors.{right_size, row, standing_of, descriptor_told}
use Rattle.testdata.specs.Section.{indicator_of, field_values}
use Rattle.testdata.specs.Reader.{SectionValues, section_values}
use Rattle.testdata.specs.Writer.{write_refusal, write_told}
use Rattle.songpigeon.specs.declared.Found.{Found}
use Rattle.songpigeon.specs.declared.WriteReply.{WriteReply}
use Rattle.songpigeon.specs.Version.{version}
use Rattle.songpigeon.specs.Fields.{field_bytes, fields_in, fields_after, places_after, bytes_told, bytes_memory, write_reply}
use Rattle.songpigeon.specs.Descriptors.{cursor_at, found_of, values_after}

pub the_version : version ≡ 20000
the_version = refl

-- THE TWELVE BYTES in the order of Table 1, each field under its place, and the arrays that are lent to a reading
abbrev head : Head
head = record { table_id = 1; priority = 2; reserved = 3 }

abbrev syntax : Syntax
syntax =
    record { user_defined = 4; extension = 5; reserved = 6; version = 7; current_next = 8; number = 9; last = 10; reserved_loop = 11 }

abbrev bytes_for : Fields → List ℕ
bytes_for f = field_bytes (indicator_of f) (field_values f)

abbrev read : Told SectionValues
read = telling (section_values (record { fields = Plain head; descriptors = record { at = 10; len = 4 }; «data» = record { at = 14; len = 3 } }))

abbrev reply : ℕ → ℕ → WriteReply
reply refusal length = record { refusal = refusal; length = length }

pub record Bytes : Type 0 where
  pub generic_bytes_lem : bytes_for (Generic head syntax) ≡ 1 ∷ 1 ∷ 2 ∷ 3 ∷ 4 ∷ 5 ∷ 6 ∷ 7 ∷ 8 ∷ 9 ∷ 10 ∷ 11 ∷ []
  pub plain_bytes_lem : bytes_for (Plain head) ≡ 0 ∷ 1 ∷ 2 ∷ 3 ∷ 0 ∷ 0 ∷ 0 ∷ 0 ∷ 0 ∷ 0 ∷ 0 ∷ 0 ∷ []
  pub generic_fields : fields_in (1 ∷ 1 ∷ 2 ∷ 3 ∷ 4 ∷ 5 ∷ 6 ∷ 7 ∷ 8 ∷ 9 ∷ 10 ∷ 11 ∷ []) ≡ Generic head syntax
  pub plain_fields : fields_in (0 ∷ 1 ∷ 2 ∷ 3 ∷ 4 ∷ 5 ∷ 6 ∷ 7 ∷ 8 ∷ 9 ∷ 10 ∷ 11 ∷ []) ≡ Plain head
  pub read_fields : fields_after read [] ≡ 0 ∷ 1 ∷ 2 ∷ 3 ∷ 0 ∷ 0 ∷ 0 ∷ 0 ∷ 0 ∷ 0 ∷ 0 ∷ 0 ∷ []
  pub read_places : places_after read [] ≡ 10 ∷ 4 ∷ 14 ∷ 3 ∷ []
  pub refused_fields : fields_after (refusing 12) (7 ∷ 8 ∷ []) ≡ 7 ∷ 8 ∷ []
  pub refused_places : places_after (refusing 12) (7 ∷ 8 ∷ []) ≡ 7 ∷ 8 ∷ []
  pub written : write_reply (telling 5) ≡ reply 0 5
  pub not_written : write_reply (refusing 15) ≡ reply 15 0

pub bytes_told_lem : Bytes
unfolding fields_in
bytes_told_lem =
    record {
      generic_bytes_lem = refl;
      plain_bytes_lem = refl;
      generic_fields = refl;
      plain_fields = refl;
      read_fields = refl;
      read_places = refl;
      refused_fields = refl;
      refused_places = refl;
      written = refl;
      not_written = refl;
    }

-- THE INDICATOR of twelve bytes, for a section without data, and the descriptors lent with it
abbrev answered : ℕ → List ℕ → ℕ → Told ℕ
answered indicator loop lent = bytes_told (indicator ∷ 16 ∷ 0 ∷ 7 ∷ 1 ∷ 1 ∷ 3 ∷ 0 ∷ 1 ∷ 0 ∷ 0 ∷ 0 ∷ []) loop [] lent

pub record Indicator : Type 0 where
  pub plain : answered 0 [] 3 ≡ telling 3
  pub generic : answered 1 [] 14 ≡ telling 14
  pub wide : answered 2 [] 14 ≡ refusing 13
  pub widest : answered 255 [] 14 ≡ refusing 13
  pub wide_before_short : answered 2 [] 0 ≡ refusing 13
  pub size_before_wide : answered 2 (0x40 ∷ 3 ∷ 0 ∷ 0 ∷ 0 ∷ []) 0 ≡ refusing 14
  pub place_kept : bytes_memory (2 ∷ []) [] [] (7 ∷ 8 ∷ 9 ∷ []) ≡ 7 ∷ 8 ∷ 9 ∷ []

pub indicator : Indicator
unfolding bytes_told bytes_memory fields_in write_told write_refusal row right_size
indicator = record { plain = refl; generic = refl; wide = refl; widest = refl; wide_before_short = refl; size_before_wide = refl; place_kept = refl }

-- DESCRIPTORS: one of each fixed size, one of another tag, and the end; behind the end one byte is left over
abbrev bytes : List ℕ
bytes =
    0x40 ∷ 2 ∷ 0xA1 ∷ 0x02
    ∷ 0x45 ∷ 8 ∷ 0x80 ∷ 0x01 ∷ 0x02 ∷ 0x03 ∷ 0x04 ∷ 0x05 ∷ 0x06 ∷ 0x07
    ∷ 0x46 ∷ 4 ∷ 0x01 ∷ 0x02 ∷ 0x03 ∷ 0x04
    ∷ 0x47 ∷ 4 ∷ 0x01 ∷ 0x02 ∷ 0x61 ∷ 0x03
    ∷ 0x41 ∷ 1 ∷ 0x55
    ∷ 0x40 ∷ []

abbrev found : ℕ → ℕ → Found
found at end = found_of at (descriptor_told bytes (cursor_at at end))

abbrev values : ℕ → ℕ → List ℕ
values at end = values_after (descriptor_told bytes (cursor_at at end)) (9 ∷ 9 ∷ 9 ∷ 9 ∷ 9 ∷ [])

abbrev told : ℕ → ℕ → ℕ → ℕ → ℕ → ℕ → Found
told refusal kind tag at length next = record { refusal = refusal; kind = kind; tag = tag; at = at; length = length; next = next }

pub record Descriptors : Type 0 where
  pub elementary : found 0 29 ≡ told 0 1 0x40 0 0 4
  pub elementary_values : values 0 29 ≡ 5 ∷ 0x0102 ∷ 0 ∷ 0 ∷ 0 ∷ []
  pub gps : found 4 29 ≡ told 0 1 0x45 0 0 14
  pub gps_values : values 4 29 ≡ 1 ∷ 0x000102 ∷ 0 ∷ 0x030405 ∷ 0x0607 ∷ []
  pub reduced_pcr : found 14 29 ≡ told 0 1 0x46 0 0 20
  pub reduced_pcr_values : values 14 29 ≡ 0x01020304 ∷ 0 ∷ 0 ∷ 0 ∷ 0 ∷ []
  pub program : found 20 29 ≡ told 0 1 0x47 0 0 26
  pub program_values : values 20 29 ≡ 0x0102 ∷ 3 ∷ 0x0103 ∷ 0 ∷ 0 ∷ []
  pub other : found 26 29 ≡ told 0 2 0x41 28 1 29
  pub other_values : values 26 29 ≡ 9 ∷ 9 ∷ 9 ∷ 9 ∷ 9 ∷ []
  pub no_more : found 29 29 ≡ told 0 0 0 0 0 29
  pub left_over : found 29 30 ≡ told 13 0 0 0 0 29
  pub past_the_bytes : found 29 31 ≡ told 13 0 0 0 0 29
  pub past_the_end : found 30 29 ≡ told 13 0 0 0 0 30
  pub body_past_the_end : found 28 30 ≡ told 13 0 0 0 0 28
  pub other_size : found_of 0 (descriptor_told (0x40 ∷ 3 ∷ 0 ∷ 0 ∷ 0 ∷ []) (cursor_at 0 5)) ≡ told 14 0 0 0 0 0
  pub refused_values : values 29 30 ≡ 9 ∷ 9 ∷ 9 ∷ 9 ∷ 9 ∷ []

pub descriptors : Descriptors
unfolding part descriptor_told standing_of right_size
descriptors =
    record {
      elementary = refl;
      elementary_values = refl;
      gps = refl;
      gps_values = refl;
      reduced_pcr = refl;
      reduced_pcr_values = refl;
      program = refl;
      program_values = refl;
      other = refl;
      other_values = refl;
      no_more = refl;
      left_over = refl;
      past_the_bytes = refl;
      past_the_end = refl;
      body_past_the_end = refl;
      other_size = refl;
      refused_values = refl;
    }
