-- The entries of a section as fours of bytes: document 01, "The programme list" ("read in fours of bytes").
-- The law `read_turn` (proofs/Reading.antt) joins it to the reading of Listing.antt.
--
--   four_number f == the programme number of the entry f
--   pid_in f    == its PID
--   seen_in fs  == the numbers of the entries fs, the nearest first: that of the last of them
--   with_addition r l == the list with what one entry adds
use Rattle.std.specs.Prelude.{ℕ, List, [], ◌∷◌, ◌++◌, get_or}
use Rattle.programmes.specs.declared.Listed.{Listed}
use Rattle.programmes.specs.declared.Addition.{Addition}
use Rattle.programmes.specs.declared.Addition.TheVariants.{Nothing, Mark, One}
use Rattle.programmes.specs.Listing.{number_of, entry_pid, made_bad, listed_with}

abbrev pub four_number : List ℕ → ℕ
four_number f = number_of (get_or f 0 0) (get_or f 1 0)

abbrev pub pid_in : List ℕ → ℕ
pid_in f = entry_pid (get_or f 2 0) (get_or f 3 0)

unfoldable pub seen_in : List (List ℕ) → List ℕ
seen_in [] = []
seen_in (f ∷ fs) = seen_in fs ++ four_number f ∷ []

abbrev pub with_addition : Addition → Listed → Listed
with_addition Nothing l = l
with_addition Mark l = made_bad l
with_addition (One e) l = listed_with e l
