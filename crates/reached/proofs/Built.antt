-- A payload of bytes leaves bytes: in section memory, and in the sections that it finishes. Assumes nothing.
use mathlib.Core.Bool.{Bool, true, false}
use mathlib.Core.List.{List, [], ◌∷◌, ◌++◌}
use Prim.Native.Nat.{ℕ, suc, ◌+◌, ◌<◌}
use native.Mathlib.Omega.{arith}
use lib.Dec.{ltb}
use lib.ListN.{length, take, drop}
use Rattle.lists.proofs.Tests.{cond_either}
use Rattle.sections.specs.declared.Stage.{Stage}
use Rattle.sections.specs.declared.Stage.TheVariants.{More, Bad, Whole}
use Rattle.sections.specs.Rooms.{room_base, greatest_length, half_built}
use Rattle.sections.specs.Section.{stage_of}
use Rattle.sections.specs.Building.{Stretch, going_on, following, Finished, bad_length, whole, Job, laid_byte, dropped, ended, settled, fed_by, fed, pointer_of, begun_job, built}
use Rattle.sections.proofs.Jobs.{byte_either}
use Rattle.reached.specs.Reached.{Bytes}
use Rattle.reached.proofs.Places.{all_set, all_take, all_drop, all_part}

-- FINISHED SECTIONS of bytes
abbrev pub SectionBytes : Finished → Type 0
SectionBytes bad_length = Unit {0}
SectionBytes (whole s) = Bytes s

pub data AllSections : List Finished → Type 0 where
  none : AllSections []
  some : (f : Finished) (fs : List Finished) → SectionBytes f → AllSections fs → AllSections (f ∷ fs)

sections_behind : (fs : List Finished) (f : Finished) → AllSections fs → SectionBytes f → AllSections (fs ++ (f ∷ []))
sections_behind [] f none b = some f [] b none
sections_behind (x ∷ fs) f (some y ys p q) b = some x (fs ++ (f ∷ [])) p (sections_behind fs f q b)

-- A JOB of bytes
pub record OfBytes (j : Job) : Type 0 where
  pub memory : Bytes j.memory
  pub finished : AllSections j.finished

ended_bytes : (g : Stage) (s : List ℕ) (j : Job) → Bytes s → OfBytes j → OfBytes (ended g s j)
ended_bytes More s j b k = k
ended_bytes Bad s j b k = record { memory = k.memory; finished = sections_behind j.finished bad_length k.finished tt }
ended_bytes Whole s j b k = record { memory = k.memory; finished = sections_behind j.finished (whole s) k.finished b }

settled_bytes : (r b : ℕ) (j : Job) → b < 256 → OfBytes j → OfBytes (settled r (laid_byte r b j))
settled_bytes r b j h k =
    let i = laid_byte r b j in
    let laid : Bytes i.memory = all_set (λ x. x < 256) j.memory (room_base r + j.half) b h k.memory in
    let s = half_built i.memory r i.half in
    ended_bytes (stage_of (greatest_length r) s) s i (all_part (λ x. x < 256) i.memory (room_base r) i.half (omega arith) laid)
    (record { memory = laid; finished = k.finished })

fed_bytes : (w : Stretch) (r : ℕ) (j : Job) (s : List ℕ) → Bytes s → OfBytes j → OfBytes (fed w r j s)
unfolding fed
fed_bytes w r j [] h k = k
fed_bytes w r j (b ∷ s) h k =
    fed_bytes w r (fed_by w r b j) s (λ i. h (suc i))
    (byte_either OfBytes w r b j k (record { memory = k.memory; finished = k.finished }) (settled_bytes r b j (h 0) k))

-- a whole payload
pub built_bytes : (r : ℕ) (m : List ℕ) (n : ℕ) (start : Bool) (s : List ℕ) → Bytes m → Bytes s → OfBytes (built r m n start s)
unfolding built
built_bytes r m n false s b h = fed_bytes going_on r (begun_job m n) s h (record { memory = b; finished = none })
built_bytes r m n true s b h =
    let begun : OfBytes (begun_job m n) = record { memory = b; finished = none } in
    let led = fed going_on r (begun_job m n) (take (pointer_of s) (drop 1 s)) in
    let k = fed_bytes going_on r (begun_job m n) (take (pointer_of s) (drop 1 s)) (all_take (λ x. x < 256) (pointer_of s) (drop 1 s) (omega arith) (all_drop (λ x. x < 256) 1 s h)) begun in
    cond_either OfBytes (ltb (1 + pointer_of s) (length s)) (fed following r (dropped led) (drop (1 + pointer_of s) s)) (dropped (begun_job m n))
    (fed_bytes following r (dropped led) (drop (1 + pointer_of s) s) (all_drop (λ x. x < 256) (1 + pointer_of s) s h) (record { memory = k.memory; finished = k.finished }))
    (record { memory = b; finished = none })
