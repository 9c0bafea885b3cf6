-- `songpigeon::lent/songpigeon_open` meets its contract. Assumes nothing.
use mathlib.Core.Path.{ap, ◌∙◌}
use Rattle.arrays.specs.Replies.{reply_of}
use Rattle.songpigeon.proofs.lent.songpigeon_open.Goals as goal

pub returns : goal.returns
returns c =
    let call = c.open_at-a.ensures in
    (ap reply_of call.0, c.lay_answer.ensures.0 ∙ rw call.0, c.lay_answer.ensures.1 ∙ rw call.0, call.1)
