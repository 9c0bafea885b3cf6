-- Half-built lengths that are all 0. Assumes nothing.
use mathlib.Core.Path.{◌≡◌, refl, sym, ap, ◌∙◌}
use mathlib.Core.Bool.{Bool, true, false, ◌&&◌}
use mathlib.Core.List.{List, [], ◌∷◌, ◌++◌}
use Prim.Native.Nat.{ℕ, zero, suc, ◌<◌}
use native.Mathlib.Omega.{arith}
use lib.Dec.{eqb}
use lib.ListN.{get_or, get_or-eq_default}
use borrow.Author.Tests.{eqb-true}
use Rattle.lists.specs.Places.{part}
use Rattle.lists.proofs.Places.{part_at}
use Rattle.lists.proofs.Tests.{and_left, and_right}
use Rattle.sections.specs.Rooms.{room_of_place}
use Rattle.programmes.specs.Places.{half_at}
use Rattle.programmes.specs.inner.Moving.{none_half}

-- ONE MORE
and_assoc : (a b c : Bool) → (a && (b && c)) ≡ (a && b && c)
and_assoc true b c = refl
and_assoc false b c = refl

and_true : (b : Bool) → (b && true) ≡ b
and_true true = refl
and_true false = refl

pub none_push : (ns : List ℕ) (n : ℕ) → none_half (ns ++ (n ∷ [])) ≡ (none_half ns && eqb n 0)
unfolding none_half
none_push [] n = and_true (eqb n 0)
none_push (m ∷ ns) n = ap (λ b. eqb m 0 && b) (none_push ns n) ∙ and_assoc (eqb m 0) (none_half ns) (eqb n 0)

-- EACH of them
pub none_at : (ns : List ℕ) → none_half ns ≡ true → (r : ℕ) → get_or ns r 0 ≡ 0
unfolding none_half
none_at [] e r = get_or-eq_default {A = ℕ} [] 0 {n = r} (omega arith)
none_at (n ∷ ns) e zero = eqb-true n 0 (and_left (eqb n 0) (none_half ns) e)
none_at (n ∷ ns) e (suc r) = none_at ns (and_right (eqb n 0) (none_half ns) e) r

-- in the rooms of the list
pub none_places : (ns : List ℕ) → none_half (part ns 5 16) ≡ true → (k : ℕ) → k < 16 → half_at ns (room_of_place k) ≡ 0
none_places ns e k h = sym (part_at ns 5 16 k 0 h) ∙ none_at (part ns 5 16) e k
