-- `arrays::lay_pairs` meets its contract. Assumes nothing.
use borrow.Author.Rules.{rules}
use mathlib.Core.Path.{ap₂, ap, ◌∙◌}
use mathlib.Core.List.{List}
use Prim.Native.Nat.{ℕ}
use lib.Seq.{sets}
use Rattle.watches.specs.Tables.{no_entry}
use Rattle.arrays.specs.Lent.{numbers_at, pids_at}
use Rattle.arrays.proofs.Tabled.{mapped}
use Rattle.arrays.proofs.lay_pairs.Goals as goal

pub returns : goal.returns
returns c =
    let numbers = mapped (λ e. e.number) no_entry (λ p x y q k. search rules) (search rules) c.map.ensures.items in
    let pids = mapped (λ e. e.pid) no_entry (λ p x y q k. search rules) (search rules) c.map-2.ensures.items in
    c.lay-2.ensures ∙ ap₂ (λ (a b : List ℕ). sets a pids_at b) (c.lay.ensures ∙ ap (sets c.args.words.now numbers_at) numbers) pids
