-- Half-built sections that move with the list leave the PAT's room as it is: the places of the list lie behind it. Assumes nothing.
use mathlib.Core.Path.{◌≡◌, refl, sym, ap, ap₂, ◌∙◌}
use mathlib.Core.List.{List, [], ◌∷◌, ◌++◌, map, map_congr_left}
use Prim.Native.Nat.{ℕ, suc, ◌+◌, ◌≤◌, ◌<◌}
use native.Mathlib.Omega.{arith}
use lib.ListN.{length, set, take}
use lib.Seq.{sets, set_comm, take-set-le, take-set-lt, get_or-set_other, set-append_left, length-take-le}
use borrow.Author.Tests.{lt-ltb}
use Rattle.lists.specs.Places.{part}
use Rattle.lists.proofs.Places.{part_sets_before}
use Rattle.watches.specs.declared.Entry.{Entry}
use Rattle.sections.specs.Rooms.{pat_room, room_of_place, room_base}
use Rattle.sections.proofs.Jobs.{Elsewhere}
use Rattle.programmes.proofs.Moved.{room_laid, rooms_alike, moved_length}
use Rattle.programmes.specs.Places.{place_of, pid_at, half_at, every_place, stood_in, moved_half, moved_halves, moved_section, rooms_laid, moved_bytes}

-- LAYING BEHIND A PLACE
sets_set : (l : List ℕ) (i b at : ℕ) (vs : List ℕ) → i < at → sets (set l i b) at vs ≡ set (sets l at vs) i b
sets_set l i b at [] h = refl
sets_set l i b at (v ∷ vs) h = ap (λ z. sets z (suc at) vs) (set_comm l i at b v (λ e. omega arith)) ∙ sets_set (set l at v) i b (suc at) vs (omega arith)

take_sets : (n : ℕ) (l : List ℕ) (at : ℕ) (vs : List ℕ) → n ≤ at → take n (sets l at vs) ≡ take n l
take_sets n l at [] h = refl
take_sets n l at (v ∷ vs) h = take_sets n (set l at v) (suc at) vs (omega arith) ∙ take-set-le n l at v h

-- THE PLACES OF THE LIST lie behind the first 1,024 bytes
place_behind : (k : ℕ) → 1024 ≤ room_base (room_of_place k)
place_behind k = rw (lt-ltb 3 (5 + k) (omega arith)) (omega arith)

module _ (f : ℕ → List ℕ) where
  rooms_front : (n : ℕ) → n ≤ 1024 → (ks m : List ℕ) → take n (rooms_laid f ks m) ≡ take n m
  rooms_front n h [] m = refl
  rooms_front n h (k ∷ ks) m = rooms_front n h ks (room_laid f k m) ∙ take_sets n m (room_base (room_of_place k)) (f k) (omega (arith, place_behind k))

  rooms_set : (i b : ℕ) → i < 1024 → (ks m : List ℕ) → rooms_laid f ks (set m i b) ≡ set (rooms_laid f ks m) i b
  rooms_set i b h [] m = refl
  rooms_set i b h (k ∷ ks) m = ap (rooms_laid f ks) (sets_set m i b (room_base (room_of_place k)) (f k) (omega (arith, place_behind k))) ∙ rooms_set i b h ks (room_laid f k m)

-- and so do those of the list before
section_set : (old new : List Entry) (ns : List ℕ) (i b : ℕ) → i < 1024 → (m : List ℕ) (k : ℕ) → moved_section old new ns (set m i b) k ≡ moved_section old new ns m k
section_set old new ns i b h m k =
    part_sets_before m (room_base (stood_in old new k)) (moved_half old new ns k) i (b ∷ []) (omega (arith, place_behind (place_of (pid_at new k) old)))

-- THE LENGTH OF THE PAT'S ROOM is none of theirs
module _ (old new : List Entry) (ns : List ℕ) (x : ℕ) where
  half_apart : (k : ℕ) → half_at (set ns pat_room x) (room_of_place k) ≡ half_at ns (room_of_place k)
  half_apart k = get_or-set_other ns pat_room (room_of_place k) x 0 (λ e. omega arith)

  pub halves_apart : 5 ≤ length ns → moved_halves old new (set ns pat_room x) ≡ set (moved_halves old new ns) pat_room x
  halves_apart h =
      ap₂ (λ (y z : List ℕ). y ++ z) (take-set-lt 5 ns pat_room x (omega arith))
      (map_congr_left {f = moved_half old new (set ns pat_room x)} {g = moved_half old new ns} {l = every_place} (λ k among. simp half_apart))
      ∙ sym (set-append_left (take 5 ns) (map (moved_half old new ns) every_place) pat_room x (omega (arith, length-take-le 5 ns h)))

  pub bytes_apart : (m : List ℕ) → moved_bytes old new (set ns pat_room x) m ≡ moved_bytes old new ns m
  bytes_apart m = simp half_apart

pub bytes_elsewhere : (old new : List Entry) (ns : List ℕ) → Elsewhere pat_room (moved_bytes old new ns)
unfolding part
bytes_elsewhere old new ns =
    record {
      size = moved_length old new ns;
      reads = λ m n h. rooms_front (moved_section old new ns m) n (omega arith) every_place m;
      lays =
          λ m i b h.
          let at = room_base pat_room + i in
          sym (rooms_alike (moved_section old new ns (set m at b)) (moved_section old new ns m) (λ k g. section_set old new ns at b (omega arith) m k) (set m at b)
          ∙ rooms_set (moved_section old new ns m) at b (omega arith) every_place m);
    }
