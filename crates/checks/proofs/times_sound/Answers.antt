-- `checks::times_sound` meets its contract. Assumes nothing.
use mathlib.Core.Path.{◌∙◌}
use Prim.Native.Nat.{ℕ}
use lib.Dec.{leb}
use borrow.Author.Tests.{tests}
use Rattle.std.proofs.Common.{rules}
use Rattle.std.proofs.lemmas.Iterator.{YieldsList-from_slice}
use Rattle.std.proofs.lemmas.Iterator.Search.{all_from_yields_List}
use Rattle.watches.specs.Tables.{latest_time}
use Rattle.checks.proofs.Turns.{times_all}
use Rattle.checks.proofs.times_sound.Goals as goal

pub returns : goal.returns
returns c =
    all_from_yields_List (λ (t : ℕ). leb t latest_time) _ _ _ c.all.ensures.ran
    (YieldsList-from_slice c.args.since.now cc) (λ x b q k. search (rules, tests))
    ∙ times_all c.args.since.now
