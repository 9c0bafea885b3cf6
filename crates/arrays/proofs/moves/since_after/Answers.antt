-- `arrays::moves/since_after` meets its contract. Assumes nothing.
use Rattle.arrays.proofs.moves.since_after.Goals as goal

pub returns-then-e-number : goal.returns-then-e-number
returns-then-e-number c = simp c.if-e-number.true

pub returns : goal.returns
returns c = simp c.if-e-number.false
