-- `checks::room_sound` meets its contract. Assumes nothing.
use mathlib.Core.Path.{ap, ◌∙◌}
use mathlib.Core.List.{[]}
use native.Mathlib.Omega.{arith}
use Rattle.lists.specs.Places.{part}
use Rattle.lists.proofs.Places.{part_lent}
use Rattle.sections.specs.Section.{is_more}
use Rattle.sections.specs.Rooms.{greatest_length}
use Rattle.sections.proofs.Stages.{stage_few}
use Rattle.checks.proofs.Turns.{part_cut}
use Rattle.checks.proofs.room_sound.Goals as goal

pub returns-then-half-eq0 : goal.returns-then-half-eq0
unfolding part
returns-then-half-eq0 c =
    let args = c.args in
    rw (c.if-half-eq0.true, stage_few (greatest_length args.room) [] (omega arith))

pub returns : goal.returns
returns c =
    let args = c.args in
    let least = c.min-n in
    let base = c.room_base-base in
    let m = args.memory.now in
    let cut = part_lent m base.result least.result ∙ part_cut m base.result args.half least.result (omega (arith, least.ensures)) (λ l. omega (arith, least.ensures, l)) in
    let stage = rw (cut, base.ensures, c.greatest_length-top.ensures) at c.stage_of.ensures in
    c.is_more.ensures ∙ ap is_more stage
