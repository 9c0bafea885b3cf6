-- `programmes::moved_halves` meets its contract: the lengths of the list's rooms are all written. Assumes nothing.
use native.Mathlib.Omega.{arith}
use Rattle.std.proofs.lemmas.List.FromFn.{fill_by_all}
use Rattle.programmes.specs.Places.{moved_half}
use Rattle.programmes.proofs.Moves.{halves_put}
use Rattle.programmes.proofs.moved_halves.Goals as goal

pub returns : goal.returns
returns c =
    let a = c.args in
    let f = moved_half a.old.now a.new.now a.half.now in
    let moved = c.loop-k.n-items in
    halves_put a.old.now a.new.now a.half.now moved (omega arith) (fill_by_all f moved 16 0 (omega arith) (λ k below. c.loop-k.invariant k 0 (omega arith)))
