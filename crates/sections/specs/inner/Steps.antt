-- One section step: document 01, "Building sections", a section at a time instead of a byte. The law `chunk` (proofs/Chunks.antt) joins it
-- to the bytes of Building.antt. h are the bytes of the section at hand so far, s those that follow.
--
--   taken_by top h s == how many bytes of s go to the section: up to its end, or all of them
--   laid_of top h n s == what a step does to a section of n bytes h: how many are taken, its length with them, and how far it is
--   laid_in r m n s  == section memory with the bytes s laid behind the n half-built ones of the room r
--   step_outcome     == what a section step says: unfinished, or what the section at its end says
use Rattle.std.specs.Prelude.{ℕ, suc, ◌+◌, cond, List, [], ◌∷◌, ◌++◌, take}
use Rattle.std.proofs.lemmas.List.Edits.{sets}
use Rattle.sections.specs.declared.Stage.{Stage}
use Rattle.sections.specs.declared.Stage.TheVariants.{More, Bad, Whole}
use Rattle.sections.specs.declared.Laid.{Laid}
use Rattle.sections.specs.declared.Outcome.{Outcome}
use Rattle.sections.specs.declared.Outcome.TheVariants.{Unfinished}
use Rattle.sections.specs.Rooms.{room_base}
use Rattle.sections.specs.Section.{stage_of, is_more}
use Rattle.sections.specs.Building.{bad_length, whole}
use Rattle.sections.specs.Outcomes.{outcome_of}

unfoldable pub taken_by : ℕ → List ℕ → List ℕ → ℕ
taken_by top h [] = 0
taken_by top h (b ∷ s) = cond (is_more (stage_of top (h ++ (b ∷ [])))) (suc (taken_by top (h ++ (b ∷ [])) s)) 1

abbrev pub laid_of : ℕ → List ℕ → ℕ → List ℕ → Laid
laid_of top h n s =
    record { taken = taken_by top h s; length = n + taken_by top h s; stage = stage_of top (h ++ take (taken_by top h s) s) }

abbrev pub laid_in : ℕ → List ℕ → ℕ → List ℕ → List ℕ
laid_in r m n s = sets m (room_base r + n) s

abbrev pub step_outcome : ℕ → ℕ → Stage → List ℕ → Outcome
step_outcome r pid More s = Unfinished
step_outcome r pid Bad s = outcome_of r pid bad_length
step_outcome r pid Whole s = outcome_of r pid (whole s)
