-- `payloads::arrivals/put_list` meets its contract. Assumes nothing.
use mathlib.Core.Path.{sym}
use native.Mathlib.Nat.{add-zero}
use Rattle.lists.proofs.Laying.{laid_none}
use Rattle.payloads.proofs.arrivals.put_list.Goals as goal

pub returns-then-not-bad : goal.returns-then-not-bad
returns-then-not-bad c = rw c.if-not-bad.true (sym (add-zero _), sym (laid_none _ _ _ _))
