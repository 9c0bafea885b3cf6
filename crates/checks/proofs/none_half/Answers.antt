-- `checks::none_half` meets its contract. Assumes nothing.
use Rattle.std.proofs.Common.{rules}
use borrow.Author.Tests.{tests}
use mathlib.Core.Path.{◌≡◌, refl, sym, ap, ◌∙◌}
use mathlib.Core.Bool.{Bool, true, ◌&&◌}
use mathlib.Core.List.{List}
use Prim.Native.Nat.{ℕ}
use lib.Dec.{eqb}
use Rattle.std.proofs.iter.Yields.{fronts}
use Rattle.std.proofs.lemmas.Fn.{fold_over}
use Rattle.std.proofs.lemmas.Iterator.{YieldsList-from_slice}
use Rattle.programmes.specs.inner.Moving.{none_half}
use Rattle.programmes.proofs.Empty.{none_push}
use Rattle.checks.proofs.none_half.Goals as goal

pub returns : goal.returns
unfolding none_half
returns c =
    fold_over (fronts {A = ℕ}) (λ y. y.now) _ (λ (ns : List ℕ) (b : Bool). b ≡ none_half ns) _
    (λ ys a x b f j k.
    let here : b ≡ (a && eqb x.now 0) = search (rules, tests) in
    (here ∙ ap (λ (z : Bool). z && eqb x.now 0) j ∙ sym (none_push ys x.now), search (rules, tests)))
    c.iter.result c.args.half.now true c.fold.result (YieldsList-from_slice {s = c.iter.result} c.args.half.now cc).runs refl c.fold.ensures.ran
