-- `checks::number_among` meets its contract. Assumes nothing.
use mathlib.Core.Path.{refl, ◌∙◌}
use Prim.Native.Nat.{ℕ, ◌-◌}
use native.Mathlib.Omega.{arith}
use lib.Dec.{eqb}
use borrow.Author.Tests.{tests}
use Rattle.std.proofs.Common.{rules}
use Rattle.std.proofs.lemmas.Iterator.{YieldsList-from_range}
use Rattle.std.proofs.lemmas.Iterator.Search.{any_from_yields_List}
use Rattle.arrays.specs.Lent.{entry_in, entries_in}
use Rattle.arrays.proofs.Stores.{entry_at, entries_length}
use Rattle.checks.proofs.Turns.{among_any}
use Rattle.checks.proofs.number_among.Goals as goal

pub returns : goal.returns
returns c =
    let a = c.args in
    let times = a.times.now in
    let words = a.words.now in
    let entry = entry_in times words in
    let left = a.count - a.start in
    any_from_yields_List (λ (i : ℕ). eqb (entry i).number a.number) _ _ _ c.any.ensures.ran
    (YieldsList-from_range a.start a.count left refl refl) (λ x b q k. search (rules, tests))
    ∙ among_any (entries_in times words) a.count a.number entry (omega (arith, entries_length times words)) (λ i h. entry_at times words i (omega arith)) left a.start (omega arith)
