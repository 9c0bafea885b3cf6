-- `steps::tell_continuity` meets its contract. Assumes nothing.
use mathlib.Core.Path.{sym}
use native.Mathlib.Omega.{arith}
use Rattle.lists.proofs.Laying.{laid_none}
use Rattle.steps.proofs.tell_continuity.Goals as goal

pub returns-then-event : goal.returns-then-event
returns-then-event c =
    let put = c.put in
    rw c.if-event.true (put.ensures.0, put.ensures.1, omega arith)

pub returns : goal.returns
returns c = rw c.if-event.false (omega arith, sym (laid_none _ _ _ _), omega arith)
