-- `programmes::move_sections` meets its contract. Assumes nothing.
use mathlib.Core.Path.{sym, ◌∙◌}
use native.Mathlib.Omega.{arith}
use Rattle.programmes.specs.Places.{moved_halves}
use Rattle.programmes.specs.inner.Moving.{section_at}
use Rattle.programmes.proofs.Moves.{placed, stayed_back, bytes_at_lem}
use Rattle.programmes.proofs.Moved.{laid_back}
use Rattle.programmes.proofs.move_sections.Goals as goal

pub move_places-requires-clause-placed : goal.move_places-requires-clause-placed
move_places-requires-clause-placed c =
    let args = c.args in
    let pre = c.requires in
    rw c.moved_halves-next.ensures (placed args.old.now args.new.now args.half (omega arith) pre.listed.0 pre.by_index)

pub returns-then-not-stays : goal.returns-then-not-stays
returns-then-not-stays c =
    let args = c.args in
    let next = c.moved_halves-next.ensures in
    (next, rw next at c.move_places.ensures ∙ sym (bytes_at_lem args.old.now args.new.now args.half args.mem.now (omega arith)))

pub returns-else-not-stays : goal.returns-else-not-stays
returns-else-not-stays c =
    let args = c.args in
    let old = args.old.now in
    let new = args.new.now in
    let half = args.half in
    let mem = args.mem.now in
    let pre = c.requires in
    let next = c.moved_halves-next.ensures in
    let q = placed old new half (omega arith) pre.listed.0 pre.by_index in
    let s = rw next at (c.stays.ensures c.if-not-stays.false) in
    let halves = moved_halves old new half in
    let back = stayed_back old new halves mem (omega arith) q s in
    (next, sym (bytes_at_lem old new half mem (omega arith) ∙ laid_back (section_at old new halves mem) 0 16 mem (λ k g h. back k h)))
