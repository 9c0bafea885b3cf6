-- The fields of a test data section as a host lends them: document 01, "Test data sections", Table 1 of DVB A046, a byte for each field
-- (docs/DECISIONS.md, F9).
--
--   padded n l      == the numbers l, and behind them 0 up to n of them
--   field_bytes i l  == twelve bytes: section_syntax_indicator i (0 or 1) and the other fields l: table_id, priority, reserved; then, 0 where the indicator
--                      is 0, user_defined, table_id_extension, reserved, version_number, current_next_indicator, section_number,
--                      last_section_number, and the four reserved bits before descriptors_length
--   head_in bs, syntax_in bs, fields_in bs == the fields that twelve bytes say, where the first of them is 0 or 1
--   place_numbers d t == where the descriptors begin, how long they are, and the same of the test data
--   fields_after x l, places_after x l == the lent arrays after a reading that tells x: on a refusal as they were
--   indicator_wide bs == the first byte is neither 0 nor 1: a number too wide for section_syntax_indicator, which has one bit
--   wide_told loop   == what is told of a writing with such a number: 13, and 14 before it
--   bytes_told, bytes_memory == what is told of a writing of the fields in twelve bytes, and the lent place after it: on a refusal as it was
--   write_reply x    == how a host is told it: the number, and the length, 0 on a refusal
use Rattle.std.specs.Prelude.{ℕ, ◌-◌, Bool, cond, not, List, [], ◌∷◌, ◌++◌, eqb, ltb, length, get_or, replicate}
use Rattle.testdata.specs.declared.Part.{Part}
use Rattle.testdata.specs.declared.Head.{Head}
use Rattle.testdata.specs.declared.Syntax.{Syntax}
use Rattle.testdata.specs.declared.Fields.{Fields}
use Rattle.testdata.specs.declared.Fields.TheVariants.{Plain, Generic}
use Rattle.testdata.specs.Told.{Told, refusing, after_told}
use Rattle.testdata.specs.Numbers.{runs_past, bad_size}
use Rattle.testdata.specs.Descriptors.{sizes_right}
use Rattle.testdata.specs.Reader.{SectionValues}
use Rattle.testdata.specs.Writer.{write_told, write_memory}
use Rattle.songpigeon.specs.declared.WriteReply.{WriteReply}

abbrev pub padded : ℕ → List ℕ → List ℕ
padded n l = l ++ replicate (n - length l) 0

abbrev pub field_bytes : ℕ → List ℕ → List ℕ
field_bytes i l = i ∷ padded 11 l

abbrev pub head_in : List ℕ → Head
head_in bs = record { table_id = get_or bs 1 0; priority = get_or bs 2 0; reserved = get_or bs 3 0 }

abbrev pub syntax_in : List ℕ → Syntax
syntax_in bs =
    record {
      user_defined = get_or bs 4 0;
      extension = get_or bs 5 0;
      reserved = get_or bs 6 0;
      version = get_or bs 7 0;
      current_next = get_or bs 8 0;
      number = get_or bs 9 0;
      last = get_or bs 10 0;
      reserved_loop = get_or bs 11 0;
    }

unfoldable pub fields_in : List ℕ → Fields
fields_in bs = cond (eqb (get_or bs 0 0) 0) (Plain (head_in bs)) (Generic (head_in bs) (syntax_in bs))

abbrev pub place_numbers : Part → Part → List ℕ
place_numbers d t = d.at ∷ d.len ∷ t.at ∷ t.len ∷ []

abbrev pub fields_after : Told SectionValues → List ℕ → List ℕ
fields_after x l = after_told x (λ v. field_bytes v.indicator v.fields) l

abbrev pub places_after : Told SectionValues → List ℕ → List ℕ
places_after x l = after_told x (λ v. place_numbers v.descriptors v.test) l

-- A WRITING
abbrev pub indicator_wide : List ℕ → Bool
indicator_wide bs = ltb 1 (get_or bs 0 0)

abbrev pub wide_told : List ℕ → Told ℕ
wide_told loop = refusing (cond (not (sizes_right loop)) bad_size runs_past)

unfoldable pub bytes_told : List ℕ → List ℕ → List ℕ → ℕ → Told ℕ
bytes_told bs loop test lent = cond (indicator_wide bs) (wide_told loop) (write_told (fields_in bs) loop test lent)

unfoldable pub bytes_memory : List ℕ → List ℕ → List ℕ → List ℕ → List ℕ
bytes_memory bs loop test place = cond (indicator_wide bs) place (write_memory (fields_in bs) loop test place)

abbrev pub write_reply : Told ℕ → WriteReply
write_reply x = record { refusal = x.number; length = after_told x (λ n. n) 0 }
