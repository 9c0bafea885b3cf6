-- One descriptor as a host is told of it and writes it: document 01, "Test data sections" ("Descriptor bodies of fixed size ..."), Tables 5, 14, 15
-- and 16 of DVB A046 (docs/DECISIONS.md, F17).
--
--   cursor_at at end  == the cursor at a place, among descriptors that end at another
--   no_more, of_fixed, of_other == the kinds: nothing more, or a refusal; a descriptor of fixed size; one of another tag
--   standing_found at v == what a host is told of what stands at the place at, by its case: another one's body by its place; the next place, which stays
--                       where there is no descriptor
--   no_more_found refusal at == a refusal, or 0, where no descriptor stands
--   found_of at x     == the same of the answer x: on a refusal its number
--   standing_values l v == five numbers: those of a descriptor of fixed size, in the order of its table, and behind them 0; else l
--   values_after x l  == the five lent numbers after the answer x: as they were where it brought no descriptor of fixed size
use Rattle.std.specs.Prelude.{ℕ, List}
use Rattle.testdata.specs.declared.Cursor.{Cursor}
use Rattle.testdata.specs.Told.{Told, after_told}
use Rattle.testdata.specs.Descriptors.{Standing, of_fixed_size, of_other_tag, at_end}
use Rattle.songpigeon.specs.declared.Found.{Found}
use Rattle.songpigeon.specs.Fields.{padded}

abbrev pub cursor_at : ℕ → ℕ → Cursor
cursor_at at end = record { at = at; end = end }

abbrev pub no_more : ℕ
no_more = 0

abbrev pub of_fixed : ℕ
of_fixed = 1

abbrev pub of_other : ℕ
of_other = 2

abbrev pub no_more_found : ℕ → ℕ → Found
no_more_found refusal at = record { refusal = refusal; kind = no_more; tag = 0; at = 0; length = 0; next = at }

abbrev pub standing_found : ℕ → Standing → Found
standing_found at (of_fixed_size tag values next) = record { refusal = 0; kind = of_fixed; tag = tag; at = 0; length = 0; next = next.at }
standing_found at (of_other_tag tag body next) = record { refusal = 0; kind = of_other; tag = tag; at = body.at; length = body.len; next = next.at }
standing_found at at_end = no_more_found 0 at

abbrev pub found_of : ℕ → Told Standing → Found
found_of at x = after_told x (standing_found at) (no_more_found x.number at)

abbrev pub standing_values : List ℕ → Standing → List ℕ
standing_values l (of_fixed_size tag values next) = padded 5 values
standing_values l (of_other_tag tag body next) = l
standing_values l at_end = l

abbrev pub values_after : Told Standing → List ℕ → List ℕ
values_after x l = after_told x (standing_values l) l
