-- `programmes::place_of` meets its contract. Assumes nothing.
use mathlib.Core.Path.{◌∙◌}
use lib.Dec.{eqb}
use borrow.Author.Tests.{tests}
use Rattle.std.proofs.Common.{rules}
use Rattle.std.proofs.lemmas.Iterator.{YieldsList-from_slice}
use Rattle.std.proofs.lemmas.Iterator.Search.{position_from_yields_List}
use Rattle.watches.specs.declared.Entry.{Entry}
use Rattle.programmes.proofs.Searches.{place_found}
use Rattle.programmes.proofs.place_of.Goals as goal

pub returns : goal.returns
returns c =
    let args = c.args in
    position_from_yields_List (λ (e : Entry). eqb e.pid args.pid) _ _ _ c.position.ensures.ran
    (YieldsList-from_slice args.entries.now cc) (λ x b q k. search (rules, tests))
    ∙ place_found args.pid args.entries.now
