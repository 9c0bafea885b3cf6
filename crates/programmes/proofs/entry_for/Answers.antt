-- `programmes::entry_for` meets its contract. Assumes nothing.
use mathlib.Core.Path.{ap, ◌∙◌}
use borrow.Author.Tests.{tests}
use Rattle.std.proofs.Common.{rules, Option, unwrap_or}
use Rattle.std.proofs.lemmas.Iterator.{YieldsList-from_slice}
use Rattle.std.proofs.lemmas.Iterator.Search.{find_from_yields_List}
use Rattle.watches.specs.declared.Entry.{Entry}
use Rattle.programmes.specs.Listing.{is_pair}
use Rattle.programmes.proofs.Searches.{entry_found}
use Rattle.programmes.proofs.entry_for.Goals as goal

pub returns : goal.returns
returns c =
    let args = c.args in
    let found = find_from_yields_List (is_pair args.number args.pid) _ _ _ c.find.ensures.ran
    (YieldsList-from_slice args.old.now cc) (λ x b q k. search (rules, tests)) in
    c.unwrap_or.ensures
    ∙ ap (λ (o : Option Entry). unwrap_or o (record { number = args.number; pid = args.pid; since = args.t })) (c.copied.ensures ∙ found)
    ∙ entry_found args.t args.number args.pid args.old.now
