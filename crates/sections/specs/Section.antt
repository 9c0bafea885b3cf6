-- One section: its fields, how far its bytes are, and the section_length rule: document 01, "Building sections". s are the bytes of the
-- section so far.
--
--   table_id s          == its first byte
--   indicator_in b      == section_syntax_indicator in the second byte is 1
--   syntax_indicator s  == the section's is
--   section_length s    == section_length, twelve bits that end with the third byte
--   extension_of s      == table_id_extension
--   current_in b        == current_next_indicator in the sixth byte is 1
--   bad_numbers top id second n == section_length above the greatest, or too short: below 9 where the indicator is 1,
--                         below 4 for table_id 0x73
--   length_bad top s    == the section's is
--   stage_of top s      == more bytes are to come; section_length breaks the rule, which is judged with the third byte; or whole
--   is_more g           == more bytes are to come
use Rattle.std.specs.Prelude.{ℕ, ◌+◌, ◌*◌, ◌%◌, Bool, true, false, cond, ◌&&◌, ◌||◌, List, leb, ltb, eqb, length, get_or}
use Rattle.sections.specs.declared.Stage.{Stage}
use Rattle.sections.specs.declared.Stage.TheVariants.{More, Bad, Whole}

abbrev pub table_id : List ℕ → ℕ
table_id s = get_or s 0 0

abbrev pub indicator_in : ℕ → Bool
indicator_in second = leb 128 second

abbrev pub syntax_indicator : List ℕ → Bool
syntax_indicator s = indicator_in (get_or s 1 0)

abbrev pub section_length : List ℕ → ℕ
section_length s = get_or s 1 0 % 16 * 256 + get_or s 2 0

abbrev pub extension_of : List ℕ → ℕ
extension_of s = get_or s 3 0 * 256 + get_or s 4 0

abbrev pub current_in : ℕ → Bool
current_in sixth = eqb (sixth % 2) 1

abbrev pub bad_numbers : ℕ → ℕ → ℕ → ℕ → Bool
bad_numbers top id second n = ltb top n || (indicator_in second && ltb n 9) || (eqb id 0x73 && ltb n 4)

abbrev pub length_bad : ℕ → List ℕ → Bool
length_bad top s = bad_numbers top (table_id s) (get_or s 1 0) (section_length s)

unfoldable pub stage_of : ℕ → List ℕ → Stage
stage_of top s =
    cond (ltb (length s) 3) More
    (cond (length_bad top s) Bad
    (cond (ltb (length s) (section_length s + 3)) More Whole))

abbrev pub is_more : Stage → Bool
is_more More = true
is_more Bad = false
is_more Whole = false
