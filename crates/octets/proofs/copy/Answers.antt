-- `octets::copy` meets its contract. Assumes nothing.
use mathlib.Core.Path.{refl, sym, ◌∙◌}
use native.Mathlib.Nat.{add-zero}
use Rattle.lists.proofs.Laying.{sets_turn, sets_none}
use Rattle.octets.proofs.copy.Goals as goal

pub loop-i-init : goal.loop-i-init
loop-i-init c = rw (add-zero c.args.at) refl

pub loop-i-preserved : goal.loop-i-preserved
loop-i-preserved c = c.loop-i.invariant ∙ sets_turn _ _ _ _ 0 c.loop-i-test.true

pub returns : goal.returns
returns c = sym (c.loop-i.invariant ∙ sets_none _ _ _ _ c.loop-i-test.false)
