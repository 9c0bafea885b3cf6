-- Rooms of section memory lie apart: a payload that is built in one leaves the half-built bytes of the others, and two memories with the same
-- half-built section there build the same. Assumes nothing.
use mathlib.Core.Path.{◌≡◌, refl, sym, ap, ◌∙◌, subst}
use mathlib.Core.Bool.{Bool, true}
use mathlib.Core.List.{List, [], ◌∷◌, ◌++◌}
use Prim.Native.Nat.{ℕ, ◌+◌, ◌≤◌, ◌<◌}
use native.Mathlib.Omega.{arith}
use lib.ListN.{length}
use Rattle.lists.specs.Places.{part}
use Rattle.lists.proofs.Places.{part_set}
use Rattle.sections.specs.declared.Stage.{Stage}
use Rattle.sections.specs.declared.Stage.TheVariants.{More, Bad, Whole}
use Rattle.sections.specs.Rooms.{memory_size, room_count, room_base, greatest_length, half_built}
use Rattle.sections.specs.Section.{stage_of, is_more}
use Rattle.sections.specs.Building.{bad_length, whole, Job, laid_byte, dropped, ignoring, ended, settled, built}
use Rattle.sections.proofs.Stages.{stage_few, room_fits, half_short}
use Rattle.sections.proofs.Rooms.{room_end}
use Rattle.sections.proofs.Jobs as jobs

-- A PAYLOAD IN THE ROOM r
module _ (r : ℕ) (room : r < room_count) where
  fits_size : (m : List ℕ) → length m ≡ memory_size → room_end r ≤ length m
  fits_size m e = omega (arith, e, room_fits r room)

  -- an empty room, and one whose section goes on
  abbrev pub GoesOn : List ℕ → ℕ → Type 0
  GoesOn m n = is_more (stage_of (greatest_length r) (half_built m r n)) ≡ true

  pub empty_goes_on : (m : List ℕ) → GoesOn m 0
  unfolding part
  empty_goes_on m = ap is_more (stage_few (greatest_length r) [] (omega arith))

  pub goes_on_short : (m : List ℕ) (n : ℕ) → length m ≡ memory_size → GoesOn m n → n < greatest_length r + 3
  goes_on_short m n e h = half_short m (room_base r) (greatest_length r) n (fits_size m e) h

  -- a job on the memory m: what it holds is still to go on, and the other rooms are as they were
  abbrev pub Within : List ℕ → Job → Type 0
  Within m j = jobs.Within r m j

  within_short : (m : List ℕ) (j : Job) → Within m j → j.half < greatest_length r + 3
  within_short m j w = goes_on_short j.memory j.half w.size w.more

  pub built_within : (m : List ℕ) (n : ℕ) (start : Bool) (s : List ℕ) → GoesOn m n → length m ≡ memory_size → Within m (built r m n start s)
  built_within m n start s h e = jobs.built_within r m room n start s h e

  -- TWO JOBS on two memories that build the same
  pub record Same (m₁ m₂ : List ℕ) (j k : Job) : Type 0 where
    pub left : Within m₁ j
    pub right : Within m₂ k
    pub half : j.half ≡ k.half
    pub ignored : j.ignored ≡ k.ignored
    pub finished : j.finished ≡ k.finished
    pub bytes : half_built j.memory r j.half ≡ half_built k.memory r k.half

  module _ (m₁ m₂ : List ℕ) where
    -- what the bytes in the room come to is the same
    ended_same : (g : Stage) (s : List ℕ) (j k : Job) → Within m₁ (ended g s j) → Within m₂ (ended g s k) → j.half ≡ k.half → j.ignored ≡ k.ignored
        → j.finished ≡ k.finished → half_built j.memory r j.half ≡ half_built k.memory r k.half → Same m₁ m₂ (ended g s j) (ended g s k)
    unfolding part
    ended_same More s j k w v h i f b = record { left = w; right = v; half = h; ignored = i; finished = f; bytes = b }
    ended_same Bad s j k w v h i f b = record { left = w; right = v; half = refl; ignored = refl; finished = ap (λ z. z ++ (bad_length ∷ [])) f; bytes = refl }
    ended_same Whole s j k w v h i f b = record { left = w; right = v; half = refl; ignored = i; finished = ap (λ z. z ++ (whole s ∷ [])) f; bytes = refl }

    settled_same : (b : ℕ) (j k : Job) → Same m₁ m₂ j k → Same m₁ m₂ (settled r (laid_byte r b j)) (settled r (laid_byte r b k))
    settled_same b j k s =
        subst (λ (z : List ℕ). Same m₁ m₂ (settled r jb) (ended (stage_of (greatest_length r) z) z kb)) grown
        (ended_same (stage_of (greatest_length r) bytes) bytes jb kb (jobs.settled_within r m₁ room b j s.left)
        (subst (λ (z : List ℕ). Within m₂ (ended (stage_of (greatest_length r) z) z kb)) (sym grown) (jobs.settled_within r m₂ room b k s.right))
        (ap (λ n. n + 1) s.half) s.ignored s.finished grown)
      where
        jb : Job
        jb = laid_byte r b j

        kb : Job
        kb = laid_byte r b k

        bytes : List ℕ
        bytes = half_built jb.memory r jb.half

        laid : (m : List ℕ) (i : Job) → Within m i → half_built (laid_byte r b i).memory r (i.half + 1) ≡ half_built i.memory r i.half ++ (b ∷ [])
        laid m i w = part_set i.memory (room_base r) i.half b (omega (arith, within_short m i w, fits_size i.memory w.size))

        grown : bytes ≡ half_built kb.memory r kb.half
        grown = laid m₁ j s.left ∙ ap (λ (z : List ℕ). z ++ (b ∷ [])) s.bytes ∙ sym (laid m₂ k s.right)

    ignoring_same : (j k : Job) → Same m₁ m₂ j k → Same m₁ m₂ (ignoring j) (ignoring k)
    ignoring_same j k s =
        record {
          left = jobs.ignoring_within r m₁ room j s.left;
          right = jobs.ignoring_within r m₂ room k s.right;
          half = s.half;
          ignored = refl;
          finished = s.finished;
          bytes = s.bytes;
        }

    dropped_same : (j k : Job) → Same m₁ m₂ j k → Same m₁ m₂ (dropped j) (dropped k)
    unfolding part
    dropped_same j k s =
        record {
          left = jobs.dropped_within r m₁ room j s.left;
          right = jobs.dropped_within r m₂ room k s.right;
          half = refl;
          ignored = s.ignored;
          finished = s.finished;
          bytes = refl;
        }

    -- THE SAME PAYLOAD on the same half-built section
    pub built_same : (n₁ n₂ : ℕ) (start : Bool) (z : List ℕ) → GoesOn m₁ n₁ → length m₁ ≡ memory_size → length m₂ ≡ memory_size → n₁ ≡ n₂
        → half_built m₁ r n₁ ≡ half_built m₂ r n₂ → Same m₁ m₂ (built r m₁ n₁ start z) (built r m₂ n₂ start z)
    built_same n₁ n₂ start z h e₁ e₂ e b =
        jobs.built_alike (Same m₁ m₂) r (λ j k s. (s.half, s.ignored)) ignoring_same settled_same m₁ m₂ n₁ n₂ start z dropped_same
        (record {
          left = jobs.begun_within r m₁ room n₁ h e₁;
          right = jobs.begun_within r m₂ room n₂ (ap (λ z. is_more (stage_of (greatest_length r) z)) (sym b) ∙ h) e₂;
          half = e;
          ignored = refl;
          finished = refl;
          bytes = b;
        })
