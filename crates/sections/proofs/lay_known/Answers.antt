-- `sections::lay_known` meets its contract. Assumes nothing.
use mathlib.Core.Path.{◌≡◌, sym, ap, ◌∙◌}
use mathlib.Core.Bool.{true, cond}
use mathlib.Core.List.{List}
use Prim.Native.Nat.{ℕ, ◌+◌, ◌-◌, ◌≤◌, min}
use native.Mathlib.Omega.{arith}
use lib.Dec.{ltb}
use lib.ListN.{length}
use lib.Seq.{length-take-le}
use borrow.Author.Tests.{lt-ltb, le-ltb}
use Rattle.lists.specs.Places.{part}
use Rattle.lists.proofs.Places.{part_length, part_lent}
use Rattle.sections.specs.declared.Stage.{Stage}
use Rattle.sections.specs.declared.Stage.TheVariants.{More, Whole}
use Rattle.sections.specs.Section.{section_length, stage_of, is_more}
use Rattle.sections.specs.inner.Steps.{laid_of}
use Rattle.sections.proofs.Stages.{Known, more_known}
use Rattle.sections.proofs.Cuts.{laid_known}
use Rattle.sections.proofs.lay_known.Goals as goal

module _ (m : List ℕ) (base top n : ℕ) (in_m : base + n ≤ length m) (three : 3 ≤ n) (more : is_more (stage_of top (part m base n)) ≡ true) where
  known : Known top (part m base n)
  known = more_known top (part m base n) (omega (arith, part_length m base n in_m)) more

  laid : (s : List ℕ) (want k : ℕ) (g : Stage) → want ≡ section_length (part m base n) → k ≡ min (length s) (want + 3 - n)
      → g ≡ cond (ltb (n + k) (want + 3)) More Whole → record { taken = k; length = n + k; stage = g } ≡ laid_of top (part m base n) n s
  laid s want k g e ek eg =
      let l = part_length m base n in_m in
      laid_known top (part m base n) s (rw l three) more n k g
      (omega arith) (omega (arith, l)) (λ u. omega (arith, l)) (rw (l, sym e) eg)

pub overflow_sub-want : goal.overflow_sub-want
overflow_sub-want c =
    let args = c.args in
    let m = args.mem.now in
    let e = c.section_length-want.ensures.0 ∙ ap section_length (part_lent m args.base args.n) in
    let k = known m args.base args.top args.n (omega arith) (omega arith) c.requires.n_value in
    omega (arith, e, k.under, part_length m args.base args.n (omega arith))

pub copy-requires : goal.copy-requires
copy-requires c =
    let args = c.args in
    let m = args.mem.now in
    let e = c.section_length-want.ensures.0 ∙ ap section_length (part_lent m args.base args.n) in
    let k = known m args.base args.top args.n (omega arith) (omega arith) c.requires.n_value in
    omega (arith, e, k.most, length-take-le c.min-taken.result args.s.now (omega arith))

pub returns-then-length-want : goal.returns-then-length-want
returns-then-length-want c =
    let args = c.args in
    let m = args.mem.now in
    let e = c.section_length-want.ensures.0 ∙ ap section_length (part_lent m args.base args.n) in (
      laid m args.base args.top args.n (omega arith) (omega arith) c.requires.n_value args.s.now _ _ More e c.min-taken.ensures
          (rw (lt-ltb _ _ c.if-length-want.true)),
      c.copy.ensures,
      omega arith,
    )

pub returns-else-length-want : goal.returns-else-length-want
returns-else-length-want c =
    let args = c.args in
    let m = args.mem.now in
    let e = c.section_length-want.ensures.0 ∙ ap section_length (part_lent m args.base args.n) in (
      laid m args.base args.top args.n (omega arith) (omega arith) c.requires.n_value args.s.now _ _ Whole e c.min-taken.ensures
          (rw (le-ltb _ _ c.if-length-want.false)),
      c.copy.ensures,
      omega arith,
    )
