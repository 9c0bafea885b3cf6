-- Building sections from one payload: document 01, "Building sections". The payload is taken byte by byte, and what goes to a section is laid
-- into section memory.
--
--   Stretch        == the bytes of a payload that are taken alike. goingOn: only a half-built section goes on, bytes after its end are ignored;
--                     following: new sections follow back to back until table_id 0xFF
--   Finished       == a section that came to its end: bad_length, its section_length breaks the rule; or whole, with these bytes
--   Job            == section memory, how many half-built bytes the room has, the sections finished so far, and whether the rest of the payload
--                     is ignored
--   laid_byte r b j == a byte goes to the half-built section in the room r
--   dropped j      == the half-built section is dropped
--   ignoring j     == the rest of the payload is ignored
--   closed f j     == the half-built section has come to its end, and the room is empty
--   ended g s j    == a section of the bytes s goes on, breaks the section_length rule (then the rest of the payload is ignored), or is whole
--   settled r j    == which of the three the half-built section in the room r has come to
--   fed_by w r b j  == one byte of a stretch
--   fed w r j s    == some bytes of it
--   pointer_of s    == with unit start set, the first payload byte is a pointer p
--   pointed r j s  == if 1+p is not below the payload length, the half-built section is dropped and the payload ignored; else p bytes go to the
--                     half-built section, which is dropped if still unfinished, and new sections follow
--   begun_job m n   == a half-built section of n bytes, before the payload
--   built r m n start s == the payload s taken, on a half-built section of n bytes in the room r
use Rattle.std.specs.Prelude.{ℕ, ◌+◌, Bool, true, false, cond, ◌&&◌, List, [], ◌∷◌, ◌++◌, ltb, eqb, length, get_or, set, take, drop}
use Rattle.sections.specs.declared.Stage.{Stage}
use Rattle.sections.specs.declared.Stage.TheVariants.{More, Bad, Whole}
use Rattle.sections.specs.Rooms.{room_base, greatest_length, half_built}
use Rattle.sections.specs.Section.{stage_of}

pub data Stretch : Type 0 where
  going_on : Stretch
  following : Stretch

pub data Finished : Type 0 where
  bad_length : Finished
  whole : List ℕ → Finished

pub record Job : Type 0 where
  pub memory : List ℕ
  pub half : ℕ
  pub finished : List Finished
  pub ignored : Bool

abbrev pub laid_byte : ℕ → ℕ → Job → Job
laid_byte r b j =
    record { memory = set j.memory (room_base r + j.half) b; half = j.half + 1; finished = j.finished; ignored = j.ignored }

abbrev pub dropped : Job → Job
dropped j = record { memory = j.memory; half = 0; finished = j.finished; ignored = j.ignored }

abbrev pub ignoring : Job → Job
ignoring j = record { memory = j.memory; half = j.half; finished = j.finished; ignored = true }

abbrev pub closed : Finished → Job → Job
closed f j = record { memory = j.memory; half = 0; finished = j.finished ++ (f ∷ []); ignored = j.ignored }

abbrev pub ended : Stage → List ℕ → Job → Job
ended More s j = j
ended Bad s j = ignoring (closed bad_length j)
ended Whole s j = closed (whole s) j

abbrev pub settled : ℕ → Job → Job
settled r j = ended (stage_of (greatest_length r) (half_built j.memory r j.half)) (half_built j.memory r j.half) j

abbrev pub fed_by : Stretch → ℕ → ℕ → Job → Job
fed_by going_on r b j = cond (eqb j.half 0) j (settled r (laid_byte r b j))
fed_by following r b j =
    cond j.ignored j
    (cond (eqb j.half 0 && eqb b 0xFF) (ignoring j)
    (settled r (laid_byte r b j)))

unfoldable pub fed : Stretch → ℕ → Job → List ℕ → Job
fed w r j [] = j
fed w r j (b ∷ s) = fed w r (fed_by w r b j) s

abbrev pub pointer_of : List ℕ → ℕ
pointer_of s = get_or s 0 0

abbrev pub pointed : ℕ → Job → List ℕ → Job
pointed r j s =
    cond (ltb (1 + pointer_of s) (length s))
    (fed following r (dropped (fed going_on r j (take (pointer_of s) (drop 1 s)))) (drop (1 + pointer_of s) s))
    (dropped j)

abbrev pub begun_job : List ℕ → ℕ → Job
begun_job m n = record { memory = m; half = n; finished = []; ignored = false }

unfoldable pub built : ℕ → List ℕ → ℕ → Bool → List ℕ → Job
built r m n false s = fed going_on r (begun_job m n) s
built r m n true s = pointed r (begun_job m n) s
