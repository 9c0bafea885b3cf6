-- `testdata::single::write_other` meets its contract. Assumes nothing.
use mathlib.Core.Path.{◌∙◌}
use Prim.Native.Nat.{◌+◌}
use native.Mathlib.Omega.{arith}
use lib.ListN.{length}
use Rattle.testdata.specs.Writer.{descriptor_bytes, other_refusal, other_told, other_memory}
use Rattle.testdata.proofs.Told.{told_ok}
use Rattle.testdata.proofs.Writings.{writes}
use Rattle.testdata.proofs.Singles.{other_fit}
use Rattle.testdata.proofs.single.write_other.Goals as goal

pub returns : goal.returns
unfolding other_told other_memory
returns c =
    let a = c.args in
    let k = told_ok (λ n. n) (other_refusal a.tag a.body.now (length a.place.now)) (2 + length a.body.now) c.in_ok-n.n c.in_ok-n.ensures in
    (c.in_ok-n.ensures, c.copy.ensures ∙ writes (other_refusal a.tag a.body.now (length a.place.now)) (descriptor_bytes a.tag a.body.now) a.place.now k.0 (omega (arith, other_fit a.tag a.body.now (length a.place.now) k.0)))
