-- `steps::fixed_room` meets its contract. Assumes nothing.
use mathlib.Core.Path.{◌≡◌, refl, sym, ◌∙◌}
use mathlib.Core.Bool.{Bool, true, false, cond}
use Prim.Native.Nat.{ℕ, suc}
use lib.Dec.{eqb}
use borrow.Author.Tests.{tests}
use Rattle.std.specs.Option.{option_map}
use Rattle.std.proofs.Common.{rules, Option, Some, None}
use Rattle.std.proofs.lemmas.Iterator.{YieldsList-from_range}
use Rattle.std.proofs.lemmas.Iterator.Search.{find_from_yields_List}
use Rattle.watches.specs.Tables.{fixed_count, table_of}
use Rattle.calls.specs.Cores.{fixed_room}
use Rattle.arrays.specs.inner.Kept.{within}
use Rattle.steps.proofs.fixed_room.Goals as goal

as_found : (o : Option ℕ) → option_map (λ k. k) o ≡ o
as_found (Some k) = refl
as_found None = refl

-- the first of the five tables that has the PID, by what each one says
first_of : (a b c d e : Bool)
    → cond a (Some 0) (cond b (Some 1) (cond c (Some 2) (cond d (Some 3) (cond e (Some 4) None))))
    ≡ within fixed_count (cond a 0 (suc (cond b 0 (suc (cond c 0 (suc (cond d 0 (suc (cond e 0 (suc 0))))))))))
first_of true b c d e = refl
first_of false true c d e = refl
first_of false false true d e = refl
first_of false false false true e = refl
first_of false false false false true = refl
first_of false false false false false = refl

pub returns : goal.returns
unfolding fixed_room
returns c =
    sym (as_found c.find.result)
    ∙ find_from_yields_List (λ k. eqb (table_of k).pid c.args.pid) _ _ _ c.find.ensures.ran (YieldsList-from_range 0 fixed_count fixed_count refl refl) (λ x b q k. search (rules, tests))
    ∙ first_of _ _ _ _ _
