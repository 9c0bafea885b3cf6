-- `testdata::descriptors::row_of` meets its contract. Assumes nothing.
use native.Mathlib.Omega.{arith}
use Rattle.std.proofs.lemmas.List.{take_rest}
use Rattle.testdata.proofs.Rows.{pass_cut, pass_turn}
use Rattle.testdata.proofs.descriptors.row_of.Goals as goal

pub returns-then-behind-n : goal.returns-then-behind-n
returns-then-behind-n c =
    let l = c.loop-rest in
    let short = simp take_rest at c.if-behind-n.true in
    pass_cut _ l.sizes l.rest.now c.from-n.result _ l.invariant.0 l.invariant.1 (omega arith) (rw c.from.ensures at c.right_size-sizes.ensures) c.in-len2-up.len_at_least (omega arith)

pub loop-rest-preserved : goal.loop-rest-preserved
loop-rest-preserved c =
    let l = c.loop-rest in
    let enough = simp take_rest at c.if-behind-n.false in
    simp take_rest
    (pass_turn _ l.sizes l.rest.now c.from-n.result _ l.invariant.0 l.invariant.1 (omega arith) (rw c.from.ensures at c.right_size-sizes.ensures) c.in-len2-up.len_at_least (omega arith))
