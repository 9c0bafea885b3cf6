-- `crc::fold_byte` meets its contract. Assumes nothing.
use mathlib.Core.Path.{◌≡◌, ap, ◌∙◌, subst}
use Prim.Native.Nat.{ℕ, ◌+◌, ◌*◌, ◌%◌, ◌^◌, ◌<◌}
use native.Mathlib.Omega.{arith}
use Rattle.crc.specs.Crc.{crc_step}
use Rattle.crc.specs.inner.Wide.{register_of}
use Rattle.crc.proofs.Register.{shifted, shifted_more}
use Rattle.crc.proofs.Wide.{byte_start, wide_step_lem, wide_lt, wide_low}
use Rattle.crc.proofs.fold_byte.Goals as goal

pub loop-init : goal.loop-init
unfolding shifted
loop-init c =
    let whole : c.from-r.result * 2 ^ 56 % 2 ^ 64 ≡ c.args.b * 2 ^ 56 = omega (arith, c.from-r.ensures) in
    (ap register_of whole, omega arith, omega arith)

pub loop-preserved : goal.loop-preserved
loop-preserved c =
    let l = c.loop in
    rw c.wide_shift-r.ensures (
      wide_step_lem l.r l.invariant.1 ∙ ap (λ (z : ℕ). crc_step z 0) l.invariant.0 ∙ shifted_more l.counter (register_of (c.args.b * 2 ^ 56)),
      wide_lt l.r,
      wide_low l.counter l.r c.loop-test.true l.invariant.2,
    )

pub returns : goal.returns
returns c =
    let l = c.loop in
    let all : l.counter ≡ 8 = omega arith in
    let few : l.r % 2 ^ 64 < 2 ^ 40 = subst (λ (n : ℕ). l.r % 2 ^ (56 + n) < 2 ^ (32 + n)) all l.invariant.2 in
    (l.invariant.0 ∙ ap (λ (k : ℕ). shifted k (register_of (c.args.b * 2 ^ 56))) all ∙ byte_start c.args.b (omega arith), omega (arith, few, l.invariant.1))
