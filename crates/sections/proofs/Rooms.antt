-- Rooms of section memory lie apart: what is laid into one leaves the others as they are. Assumes nothing.
use mathlib.Core.Path.{◌≡◌, refl, sym, ap, ◌∙◌}
use mathlib.Core.Logic.{◌≢◌}
use mathlib.Core.Bool.{Bool, true, cond}
use mathlib.Core.List.{List}
use Prim.Native.Nat.{ℕ, ◌+◌, ◌≤◌, ◌<◌}
use native.Mathlib.Omega.{arith}
use lib.Dec.{leb, ltb}
use lib.ListN.{length}
use lib.Seq.{sets}
use borrow.Author.Tests.{leb-true, lt-ltb, ne_eqb}
use Rattle.lists.proofs.Tests.{Order, below, from, order}
use Rattle.lists.proofs.Table.{passes, passes_at}
use Rattle.lists.proofs.Places.{part_sets_before, part_sets_behind}
use Rattle.sections.specs.Rooms.{room_count, room_of_place, room_base, greatest_length, half_built}

-- the end of a room
abbrev pub room_end : ℕ → ℕ
room_end r = room_base r + greatest_length r + 3

abbrev in_order_lem : ℕ → ℕ → Bool
in_order_lem r q = cond (ltb r q) (leb (room_end r) (room_base q)) true

rooms_in_order : (r q : ℕ) → q < room_count → r < q → room_end r ≤ room_base q
rooms_in_order r q h l =
    let row = passes_at (λ x. passes (λ y. in_order_lem x y) room_count) room_count refl r (omega arith) in
    let cell : in_order_lem r q ≡ true = passes_at (λ y. in_order_lem r y) room_count row q h in
    leb-true (room_end r) (room_base q) (sym (ap (λ b. cond b (leb (room_end r) (room_base q)) true) (lt-ltb r q l)) ∙ cell)

pub place_top : (k : ℕ) → greatest_length (room_of_place k) ≡ 1021
place_top k = rw (ne_eqb (room_of_place k) 3 (λ e. omega arith))

-- what is laid within the room r leaves the room q
pub room_sets : (m : List ℕ) (r q i n : ℕ) (vs : List ℕ) → r < room_count → q < room_count → r ≢ q → i + length vs ≤ greatest_length r + 3
    → n ≤ greatest_length q + 3 → half_built (sets m (room_base r + i) vs) q n ≡ half_built m q n
room_sets m r q i n vs here there other small fits = go (order r q) (order q r)
  where
    go : Order r q → Order q r → half_built (sets m (room_base r + i) vs) q n ≡ half_built m q n
    go (below l) o = part_sets_before m (room_base q) n (room_base r + i) vs (omega (arith, rooms_in_order r q there l))
    go (from l) (below g) = part_sets_behind m (room_base q) n (room_base r + i) vs (omega (arith, rooms_in_order q r here g))
    go (from l) (from g) =
        let e : r ≡ q = omega arith in absurd (other e)
