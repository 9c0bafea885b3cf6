-- Half-built sections that move with their PIDs leave every room sound. Assumes nothing.
use mathlib.Core.Path.{◌≡◌, refl, sym, ap, ◌∙◌}
use mathlib.Core.Bool.{Bool, true, false, cond, ◌&&◌}
use mathlib.Core.List.{List, [], ◌∷◌}
use Prim.Native.Nat.{ℕ, ◌+◌, ◌-◌, ◌≤◌, ◌<◌}
use native.Mathlib.Omega.{arith}
use lib.ListN.{length}
use borrow.Author.Tests.{ltb-true}
use Rattle.lists.specs.Places.{part}
use Rattle.lists.proofs.Places.{part_length}
use Rattle.lists.proofs.Tests.{Order, below, from, order}
use Rattle.watches.specs.declared.Entry.{Entry}
use Rattle.sections.specs.Rooms.{memory_size, room_count, room_of_place, room_base, greatest_length, half_built}
use Rattle.sections.specs.Section.{stage_of, is_more}
use Rattle.sections.proofs.Stages.{half_short, room_fits, place_fits}
use Rattle.sections.proofs.Rooms.{place_top}
use Rattle.sections.proofs.Jobs.{empty_more}
use Rattle.programmes.specs.Listing.{most_listed}
use Rattle.programmes.specs.Places.{place_of, is_listed, pid_at, is_first, half_at, every_place, stood_in, moved_half, moved_halves, moved_section, rooms_laid, moved_bytes}
use Rattle.programmes.proofs.Moves.{halves_fixed, halves_at_lem}
use Rattle.programmes.proofs.Moved.{room_laid, rooms_fixed, rooms_here}
use Rattle.calls.specs.Sound.{room_sound}
use Rattle.reached.specs.Reached.{Bytes}
use Rattle.reached.proofs.Places.{all_sets, all_part}

-- BYTES laid into rooms
rooms_bytes : (f : ℕ → List ℕ) → ((k : ℕ) → Bytes (f k)) → (ks m : List ℕ) → Bytes m → Bytes (rooms_laid f ks m)
rooms_bytes f b [] m h = h
rooms_bytes f b (k ∷ ks) m h = rooms_bytes f b ks (room_laid f k m) (all_sets (λ x. x < 256) m (room_base (room_of_place k)) (f k) (b k) h)

-- ALL ROOMS of a list read
module _ (old new : List Entry) (ns m : List ℕ) (size : length m ≡ memory_size) (halves : length ns ≡ room_count) (most : length old ≤ most_listed)
    (rooms : (r : ℕ) → r < room_count → room_sound ns m r ≡ true) where
  abbrev next : List ℕ
  next = moved_halves old new ns

  pub moved_bytes_lem : Bytes m → Bytes (moved_bytes old new ns m)
  moved_bytes_lem b =
      rooms_bytes (moved_section old new ns m) (λ k. all_part (λ x. x < 256) m (room_base (stood_in old new k)) (moved_half old new ns k) (omega arith) b) every_place m b

  room_short : (r : ℕ) → r < room_count → half_at ns r < greatest_length r + 3
  room_short r h = half_short m (room_base r) (greatest_length r) (half_at ns r) (omega (arith, room_fits r h)) (rooms r h)

  -- a place has nothing, or what its PID had
  data Came (k : ℕ) : Type 0 where
    empty : moved_half old new ns k ≡ 0 → Came k
    moves : place_of (pid_at new k) old < most_listed → moved_half old new ns k ≡ half_at ns (stood_in old new k) → Came k

  came : (k : ℕ) → Came k
  came k = go (is_first new k) (is_listed (pid_at new k) old) refl refl
    where
      go : (a b : Bool) → is_listed (pid_at new k) old ≡ b → moved_half old new ns k ≡ cond (a && b) (half_at ns (stood_in old new k)) 0 → Came k
      go true true q e = moves (omega (arith, ltb-true (place_of (pid_at new k) old) (length old) q)) e
      go true false q e = empty e
      go false b q e = empty e

  fits : (k : ℕ) → Came k → length (moved_section old new ns m k) ≡ moved_half old new ns k
  unfolding part
  fits k (empty e) = rw e
  fits k (moves p e) =
      part_length m (room_base (stood_in old new k)) (moved_half old new ns k)
      (omega (arith, e, place_fits (place_of (pid_at new k) old) p, place_top (place_of (pid_at new k) old), room_short (stood_in old new k) (omega arith)))

  short : (k : ℕ) → k < most_listed → length (moved_section old new ns m k) ≤ 1024
  short k h = go (came k)
    where
      go : Came k → length (moved_section old new ns m k) ≤ 1024
      go (empty e) = omega (arith, fits k (empty e))
      go (moves p e) = omega (arith, fits k (moves p e), place_top (place_of (pid_at new k) old), room_short (stood_in old new k) (omega arith))

  place_sound : (k : ℕ) → k < most_listed → room_sound next (moved_bytes old new ns m) (room_of_place k) ≡ true
  place_sound k h = ap (λ n. is_more (stage_of (greatest_length (room_of_place k)) (half_built (moved_bytes old new ns m) (room_of_place k) n))) (halves_at_lem old new ns (omega arith) k h) ∙ go (came k)
    where
      go : Came k → is_more (stage_of (greatest_length (room_of_place k)) (half_built (moved_bytes old new ns m) (room_of_place k) (moved_half old new ns k))) ≡ true
      go (empty e) = rw e (empty_more (moved_bytes old new ns m) (room_of_place k))
      go (moves p e) =
          let from = place_of (pid_at new k) old in
          ap (λ s. is_more (stage_of (greatest_length (room_of_place k)) s)) (rooms_here (moved_section old new ns m) short k (moved_half old new ns k) m (fits k (came k)) h size)
          ∙ ap (λ n. is_more (stage_of (greatest_length (room_of_place k)) (half_built m (room_of_place from) n))) e
          ∙ ap (λ top. is_more (stage_of top (half_built m (room_of_place from) (half_at ns (room_of_place from))))) (place_top k ∙ sym (place_top from))
          ∙ rooms (room_of_place from) (omega arith)

  fixed_sound : (r : ℕ) → r < 5 → room_sound next (moved_bytes old new ns m) r ≡ true
  fixed_sound r h =
      ap (λ n. is_more (stage_of (greatest_length r) (half_built (moved_bytes old new ns m) r n))) (halves_fixed old new ns (omega arith) r h)
      ∙ ap (λ s. is_more (stage_of (greatest_length r) s)) (rooms_fixed (moved_section old new ns m) short r (half_at ns r) m h (omega (arith, room_short r (omega arith))))
      ∙ rooms r (omega arith)

  pub moved_sound : (r : ℕ) → r < room_count → room_sound (moved_halves old new ns) (moved_bytes old new ns m) r ≡ true
  moved_sound r h = go (order r 5)
    where
      go : Order r 5 → room_sound next (moved_bytes old new ns m) r ≡ true
      go (below l) = fixed_sound r l
      go (from l) =
          let e : r ≡ room_of_place (r - 5) = omega arith in
          ap (room_sound next (moved_bytes old new ns m)) e ∙ place_sound (r - 5) (omega arith)
