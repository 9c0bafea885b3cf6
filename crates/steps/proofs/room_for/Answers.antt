-- `steps::room_for` meets its contract. Assumes nothing.
use borrow.Author.Rules.{rules}
use Rattle.watches.specs.Tables.{fixed_tables}
use Rattle.calls.specs.Cores.{fixed_room, list_room, room_for}
use Rattle.arrays.specs.inner.Kept.{listed_in}
use Rattle.steps.proofs.Rooms.{roomed}
use Rattle.steps.proofs.room_for.Goals as goal

pub returns : goal.returns
unfolding room_for
returns c =
    let pid = c.args.pid in
    λ times. roomed _ c.fixed_room.result c.or_else.result (fixed_room pid fixed_tables) (list_room pid (listed_in times c.args.words.now)) c.fixed_room.ensures (λ p. search rules) c.or_else.ensures
