-- What the functions that move half-built bytes are given. old and new are the two lists, each of its listed entries, ns the half-built
-- lengths under the new one.
--
--   listed_place q es  == the first place with the PID q, or None where the PID is not listed
--   none_half ns       == of these half-built lengths each is 0
--   section_at old new ns m k == the half-built bytes of the place k, as they stood in the memory m
--   PlacedAt old new ns k == the place k is listed, its PID was listed before, and its bytes fit into its room
--   Placed old new ns == each place with half-built bytes is so
--   Stayed old new ns n == those of the first n places stand there already
use Rattle.std.specs.Prelude.{◌≡◌, Bool, true, cond, ◌&&◌, Option, Some, None, List, [], ◌∷◌, ℕ, ◌≤◌, ◌<◌, eqb, length}
use Rattle.watches.specs.declared.Entry.{Entry}
use Rattle.sections.specs.Rooms.{room_of_place, half_built}
use Rattle.programmes.specs.Places.{place_of, is_listed, pid_at, half_at, stood_in}

abbrev pub listed_place : ℕ → List Entry → Option ℕ
listed_place q es = cond (is_listed q es) (Some (place_of q es)) None

unfoldable pub none_half : List ℕ → Bool
none_half [] = true
none_half (n ∷ ns) = eqb n 0 && none_half ns

abbrev pub section_at : List Entry → List Entry → List ℕ → List ℕ → ℕ → List ℕ
section_at old new ns m k = half_built m (stood_in old new k) (half_at ns (room_of_place k))

pub record PlacedAt (old new : List Entry) (ns : List ℕ) (k : ℕ) : Type 0 where
  pub listed : k < length new
  pub before : place_of (pid_at new k) old < length old
  pub fits : half_at ns (room_of_place k) ≤ 1024

abbrev pub Placed : List Entry → List Entry → List ℕ → Type 0
Placed old new ns = (k : ℕ) → k < 16 → 0 < half_at ns (room_of_place k) → PlacedAt old new ns k

abbrev pub Stayed : List Entry → List Entry → List ℕ → ℕ → Type 0
Stayed old new ns n = (k : ℕ) → k < n → 0 < half_at ns (room_of_place k) → place_of (pid_at new k) old ≡ k
