-- `crc::eight_zeros` meets its contract. Assumes nothing.
use mathlib.Core.Path.{◌≡◌, refl, sym, ap, ◌∙◌}
use Prim.Native.Nat.{ℕ}
use native.Mathlib.Omega.{arith}
use Rattle.crc.specs.Crc.{crc_step}
use Rattle.crc.proofs.Register.{shifted, shifted_more, zeros_shifted}
use Rattle.crc.proofs.eight_zeros.Goals as goal

pub loop-init : goal.loop-init
unfolding shifted
loop-init c = refl

pub loop-preserved : goal.loop-preserved
loop-preserved c = c.crc_shift-r.ensures ∙ ap (λ (z : ℕ). crc_step z 0) c.loop.invariant ∙ shifted_more c.loop.counter c.args.c

pub returns : goal.returns
returns c =
    let all : c.loop.counter ≡ 8 = omega arith in
    c.loop.invariant ∙ ap (λ (k : ℕ). shifted k c.args.c) all ∙ sym (zeros_shifted 8 c.args.c)
