use mathlib.Core.Path.{◌≡◌}
use Prim.Native.Nat.{◌-◌}
use Rattle.programmes.specs.Places.{every_place, rooms_laid}
use Rattle.programmes.specs.inner.Moving.{section_at}
use Rattle.programmes.proofs.Moved.{laid_from}
use Rattle.programmes.proofs.move_places.Given as goal

abbrev pub invariant-loop-k : goal.invariant-loop-k
invariant-loop-k l =
    rooms_laid (section_at l.old l.new l.half l.initial.mem) every_place l.initial.mem ≡ laid_from (section_at l.old l.new l.half l.initial.mem) l.k (16 - l.k) l.mem
