-- `programmes::move_places` meets its contract. Assumes nothing.
use mathlib.Core.Path.{◌≡◌, sym, ap, ◌∙◌}
use Prim.Native.Nat.{◌+◌, ◌-◌}
use native.Mathlib.Omega.{arith}
use lib.ListN.{length}
use Rattle.lists.proofs.Places.{part_lent}
use Rattle.programmes.specs.inner.Moving.{section_at}
use Rattle.programmes.specs.Places.{pid_at}
use Rattle.programmes.proofs.Moves.{place_some, unlisted_back, past_back}
use Rattle.programmes.proofs.Moved.{room_laid, laid_from, laid_turn, laid_back}
use Rattle.programmes.proofs.move_places.Goals.{in-Some, in_default}
use Rattle.programmes.proofs.move_places.Goals as goal

pub loop-k-preserved : goal.loop-k-preserved
loop-k-preserved c =
    let args = c.args in
    let loop = c.loop-k in
    let pre = c.requires in
    let old = args.old.now in
    let new = args.new.now in
    let f = section_at old new args.half.now args.mem.now in
    let turn = laid_turn f loop.k loop.mem (omega (arith, pre.listed.1, c.loop-k-test.true)) in
    let next : c.match-place_of.mem ≡ room_laid f loop.k loop.mem =
    elim c.match-place_of.branch [
      | in-Some w ↦
          let place = place_some (pid_at new loop.k) old w.in-Some.place (sym w.in-Some.is ∙ c.place_of.ensures) in
          w.mem-is ∙ w.copy.ensures ∙ rw (w.room_base-to.ensures, w.room_base-from.ensures, w.from-n.ensures, place, part_lent _ _ _)
      | in_default w ↦ w.mem-is ∙ sym (unlisted_back old new args.half.now args.mem.now pre.placed loop.k loop.mem (sym w.in_default.is ∙ c.place_of.ensures) (omega (arith, pre.listed.1, c.loop-k-test.true)))
    ] in
    loop.invariant ∙ turn ∙ ap (λ m. laid_from f (loop.k + 1) (16 - (loop.k + 1)) m) (sym next)

pub returns : goal.returns
returns c =
    let args = c.args in
    let old = args.old.now in
    let new = args.new.now in
    let mem = c.loop-k.mem in
    let k : c.loop-k.k ≡ length new = omega arith in
    sym (c.loop-k.invariant ∙ laid_back (section_at old new args.half.now args.mem.now) c.loop-k.k (16 - c.loop-k.k) mem (λ j g h. past_back old new args.half.now args.mem.now c.requires.placed j mem (omega (arith, k, g)) (omega (arith, k, h, c.requires.listed.1))))
