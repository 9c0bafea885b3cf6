-- What may be taken into, room by room. Assumes nothing.
use mathlib.Core.Path.{◌≡◌}
use mathlib.Core.Bool.{true}
use mathlib.Core.List.{List}
use Prim.Native.Nat.{ℕ, ◌≤◌}
use native.Mathlib.Omega.{arith}
use lib.ListN.{length}
use borrow.Author.Tests.{ne_eqb}
use Rattle.sections.specs.Rooms.{memory_size, room_count, room_of_place, room_base, greatest_length, half_built}
use Rattle.sections.specs.Section.{stage_of, is_more}
use Rattle.sections.proofs.Stages.{half_short, room_fits}
use Rattle.programmes.specs.Places.{half_at}
use Rattle.calls.specs.declared.Core.{Core}
use Rattle.calls.proofs.Accepted.{rooms_at}
use Rattle.payloads.specs.inner.Taking.{Takable}
use Rattle.payloads.specs.inner.Parts.{Fit}

module _ {c : Core} {m : List ℕ} {r : ℕ} {s : List ℕ} {n : ℕ} {list : List ℕ} (q : Takable c m r s n list) where
  pub takable_more : is_more (stage_of (greatest_length r) (half_built m r (half_at c.half r))) ≡ true
  takable_more = rooms_at c.half m 0 room_count q.sound r (omega arith) q.room

  pub takable_fit : length m ≡ memory_size → 5 ≤ length c.half → Fit c m list
  takable_fit whole rooms =
      record {
        whole = whole;
        listed = q.listed;
        rooms = rooms;
        halves = λ k h.
            let top : greatest_length (room_of_place k) ≡ 1021 = rw (ne_eqb (room_of_place k) 3 (λ e. omega arith)) in
            let fits = room_fits (room_of_place k) (omega arith) in
            let short = half_short m (room_base (room_of_place k)) (greatest_length (room_of_place k)) (half_at c.half (room_of_place k)) (omega (arith, fits, whole)) (rooms_at c.half m 0 room_count q.sound (room_of_place k) (omega arith) (omega arith)) in
            omega (arith, short, top);
        numbers = q.numbers;
      }
