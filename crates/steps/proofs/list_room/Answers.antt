-- `steps::list_room` meets its contract. Assumes nothing.
use borrow.Author.Rules.{rules}
use mathlib.Core.Path.{◌≡◌, ◌∙◌}
use mathlib.Core.List.{[]}
use Prim.Native.Nat.{◌+◌}
use native.Mathlib.Omega.{arith}
use lib.ListN.{length}
use Rattle.std.specs.Option.{option_map}
use Rattle.watches.specs.Tables.{fixed_count}
use Rattle.programmes.specs.Places.{place_of}
use Rattle.arrays.specs.inner.Kept.{listed_in}
use Rattle.steps.proofs.Rooms.{within_below, listed_few, placed}
use Rattle.steps.proofs.list_room.Goals as goal

pub map-requires : goal.map-requires
map-requires c = λ x e u v.
    let es = listed_in [] c.args.words.now in
    omega (arith, within_below (length es) (place_of c.args.pid es) c.place_in.result (c.place_in.ensures []) x e, listed_few [] c.args.words.now c.requires)

pub returns : goal.returns
returns c =
    let words = c.args.words.now in
    let shifted : c.map.result ≡ option_map (λ k. fixed_count + k) c.place_in.result = search rules in
    λ times.
    let es = listed_in times words in
    shifted ∙ placed (length es) (place_of c.args.pid es) (listed_few times words c.requires) c.place_in.result (c.place_in.ensures times)
