-- `programmes::seen_before` meets its contract. Assumes nothing.
use mathlib.Core.Path.{◌∙◌}
use mathlib.Core.List.{List}
use Prim.Native.Nat.{ℕ}
use lib.Dec.{eqb}
use borrow.Author.Tests.{tests}
use Rattle.std.proofs.Common.{rules}
use Rattle.std.proofs.lemmas.Iterator.Adapters.{YieldsList-from_rev_slice}
use Rattle.std.proofs.lemmas.Iterator.Search.{any_from_yields_List}
use Rattle.programmes.specs.inner.Reading.{four_number}
use Rattle.programmes.proofs.Reading.{seen_back}
use Rattle.programmes.proofs.seen_before.Goals as goal

pub returns : goal.returns
returns c =
    let args = c.args in
    any_from_yields_List (λ (f : List ℕ). eqb (four_number f) args.number) _ _ _ c.any.ensures.ran
    (YieldsList-from_rev_slice args.before.now cc) (λ x b q k. search (rules, tests))
    ∙ seen_back args.number args.before.now
