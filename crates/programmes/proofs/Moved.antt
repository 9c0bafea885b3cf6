-- Bytes laid into the rooms of the list, one place after the other: what stands in each room then. Assumes nothing.
use mathlib.Core.Path.{◌≡◌, refl, sym, ap, ◌∙◌}
use mathlib.Core.List.{List, [], ◌∷◌}
use Prim.Native.Nat.{ℕ, zero, suc, ◌+◌, ◌-◌, ◌≤◌, ◌<◌}
use native.Mathlib.Nat.{add-zero}
use native.Mathlib.Omega.{arith}
use lib.ListN.{length}
use lib.Seq.{sets, length-sets}
use Rattle.lists.specs.Places.{part}
use Rattle.lists.proofs.Places.{part_sets}
use Rattle.lists.proofs.Tests.{Order, below, from, order}
use Rattle.watches.specs.declared.Entry.{Entry}
use Rattle.watches.specs.Tables.{fixed_count}
use Rattle.sections.specs.Rooms.{memory_size, room_count, room_of_place, room_base, greatest_length, half_built}
use Rattle.sections.proofs.Stages.{place_fits}
use Rattle.sections.proofs.Rooms.{place_top, room_sets}
use Rattle.programmes.specs.Listing.{most_listed}
use Rattle.programmes.specs.Places.{places_from, every_place, moved_section, rooms_laid, moved_bytes}

-- THE BYTES f k of each place k, laid into its room
module _ (f : ℕ → List ℕ) where
  abbrev pub room_laid : ℕ → List ℕ → List ℕ
  room_laid k m = sets m (room_base (room_of_place k)) (f k)

  pub rooms_length : (ks m : List ℕ) → length (rooms_laid f ks m) ≡ length m
  rooms_length [] m = refl
  rooms_length (k ∷ ks) m = rooms_length ks (room_laid k m) ∙ length-sets m (room_base (room_of_place k)) (f k)

  -- from the place j on
  abbrev pub laid_from : ℕ → ℕ → List ℕ → List ℕ
  laid_from j left m = rooms_laid f (places_from j left) m

  pub laid_turn : (k : ℕ) (m : List ℕ) → k < most_listed → laid_from k (most_listed - k) m ≡ laid_from (k + 1) (most_listed - (k + 1)) (room_laid k m)
  unfolding places_from
  laid_turn k m h =
      let e : most_listed - k ≡ suc (most_listed - (k + 1)) = omega arith in
      ap (λ left. laid_from k left m) e

  -- what stands there already leaves memory as it is
  pub laid_back : (j left : ℕ) (m : List ℕ) → ((k : ℕ) → j ≤ k → k < j + left → room_laid k m ≡ m) → laid_from j left m ≡ m
  unfolding places_from
  laid_back j zero m back = refl
  laid_back j (suc left) m back = ap (laid_from (j + 1) left) (back j (omega arith) (omega arith)) ∙ laid_back (j + 1) left m (λ k g h. back k (omega arith) (omega arith))

  module _ (short : (k : ℕ) → k < most_listed → length (f k) ≤ 1024) where
    -- a room that none of them is
    laid_others : (q n : ℕ) → q < room_count → n ≤ greatest_length q + 3 → (j left : ℕ) (m : List ℕ) → j + left ≤ most_listed
        → ((k : ℕ) → j ≤ k → q ≡ room_of_place k → ⊥) → half_built (laid_from j left m) q n ≡ half_built m q n
    unfolding places_from
    laid_others q n g l j zero m h other = refl
    laid_others q n g l j (suc left) m h other =
        laid_others q n g l (j + 1) left (room_laid j m) (omega arith) (λ k u. other k (omega arith))
        ∙ ap (λ i. half_built (sets m i (f j)) q n) (sym (add-zero (room_base (room_of_place j))))
        ∙ room_sets m (room_of_place j) q 0 n (f j) (omega arith) g (λ e. other j (omega arith) (sym e)) (omega (arith, place_top j, short j (omega arith))) l

    -- the room of one of them
    module _ (k n : ℕ) (long : length (f k) ≡ n) where
      room_here : (m : List ℕ) → k < most_listed → length m ≡ memory_size → half_built (room_laid k m) (room_of_place k) n ≡ f k
      unfolding part
      room_here m h l =
          let at = room_base (room_of_place k) in
          let z : at + 0 ≡ at = add-zero at in
          let q : 0 + length (f k) ≡ n = omega (arith, long) in
          rw (z, q) at (part_sets m at 0 (f k) (omega (arith, place_fits k h, short k h)))

      laid_here : (j left : ℕ) (m : List ℕ) → length m ≡ memory_size → j ≤ k → k < j + left → j + left ≤ most_listed
          → half_built (laid_from j left m) (room_of_place k) n ≡ f k
      unfolding places_from
      laid_here j zero m l low high h = absurd (omega arith)
      laid_here j (suc left) m l low high h = go (order j k) (laid_here (j + 1) left (room_laid j m) (length-sets m (room_base (room_of_place j)) (f j) ∙ l))
        where
          go : Order j k
              → (j + 1 ≤ k → k < j + 1 + left → j + 1 + left ≤ most_listed → half_built (laid_from (j + 1) left (room_laid j m)) (room_of_place k) n ≡ f k)
              → half_built (laid_from (j + 1) left (room_laid j m)) (room_of_place k) n ≡ f k
          go (below b) later = later (omega arith) (omega arith) (omega arith)
          go (from b) later =
              let e : j ≡ k = omega arith in
              laid_others (room_of_place k) n (omega arith) (omega (arith, place_top k, short k (omega arith), long)) (j + 1) left (room_laid j m) (omega arith) (λ i u v. omega arith)
              ∙ ap (λ i. half_built (room_laid i m) (room_of_place k) n) e
              ∙ room_here m (omega arith) l

    -- ALL SIXTEEN: the fixed rooms are as they were, each place has its bytes
    pub rooms_fixed : (q n : ℕ) (m : List ℕ) → q < fixed_count → n ≤ greatest_length q + 3 → half_built (rooms_laid f every_place m) q n ≡ half_built m q n
    rooms_fixed q n m g l = laid_others q n (omega arith) l 0 most_listed m (omega arith) (λ k u e. omega arith)

    pub rooms_here : (k n : ℕ) (m : List ℕ) → length (f k) ≡ n → k < most_listed → length m ≡ memory_size → half_built (rooms_laid f every_place m) (room_of_place k) n ≡ f k
    rooms_here k n m long h l = laid_here k n long 0 most_listed m l (omega arith) (omega arith) (omega arith)

-- the same bytes are laid the same
module _ (f g : ℕ → List ℕ) (same : (k : ℕ) → k < most_listed → f k ≡ g k) where
  laid_alike : (j left : ℕ) (m : List ℕ) → j + left ≤ most_listed → laid_from f j left m ≡ laid_from g j left m
  unfolding places_from
  laid_alike j zero m h = refl
  laid_alike j (suc left) m h =
      ap (λ s. laid_from f (j + 1) left (sets m (room_base (room_of_place j)) s)) (same j (omega arith)) ∙ laid_alike (j + 1) left (room_laid g j m) (omega arith)

  pub rooms_alike : (m : List ℕ) → rooms_laid f every_place m ≡ rooms_laid g every_place m
  rooms_alike m = laid_alike 0 most_listed m (omega arith)

pub moved_length : (old new : List Entry) (ns m : List ℕ) → length (moved_bytes old new ns m) ≡ length m
moved_length old new ns m = rooms_length (moved_section old new ns m) every_place m
