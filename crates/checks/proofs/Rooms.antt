-- Half-built sections where there are none: refusal 5 passes them. Assumes nothing.
use mathlib.Core.Path.{◌≡◌, sym, ap, ◌∙◌}
use mathlib.Core.Bool.{true}
use mathlib.Core.List.{List}
use Prim.Native.Nat.{ℕ, ◌+◌, ◌-◌}
use native.Mathlib.Omega.{arith}
use lib.ListN.{get_or}
use Rattle.lists.specs.Places.{part}
use Rattle.lists.proofs.Places.{part_at}
use Rattle.sections.specs.Rooms.{room_count}
use Rattle.calls.specs.Sound.{rooms_from, rooms_sound}
use Rattle.calls.proofs.Accepted.{room_empty, rooms_whole}
use Rattle.programmes.specs.inner.Moving.{none_half}
use Rattle.programmes.proofs.Empty.{none_at}

-- every room is to be built on where nothing is half-built
pub none_rooms : (ns m : List ℕ) → none_half ns ≡ true → rooms_sound ns m ≡ true
none_rooms ns m e = rooms_whole ns m 0 room_count (λ r l g. room_empty ns m r (none_at ns e r))

-- where none is behind the fixed rooms
pub listed_rooms : (ns m : List ℕ) → none_half (part ns 5 16) ≡ true → rooms_from ns m 5 16 ≡ true
listed_rooms ns m e =
    rooms_whole ns m 5 16
    (λ r l g.
    let k : 5 + (r - 5) ≡ r = omega arith in
    let same = ap (λ (i : ℕ). get_or ns i 0) (sym k) ∙ sym (part_at ns 5 16 (r - 5) 0 (omega arith)) in
    room_empty ns m r (same ∙ none_at (part ns 5 16) e (r - 5)))
